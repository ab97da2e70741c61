-- The lemmas of the crate.
mod PassedOn
mod Serving
