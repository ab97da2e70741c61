-- The lemmas of the crate.
mod Expected
