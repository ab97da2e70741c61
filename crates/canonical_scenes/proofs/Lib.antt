-- The lemmas of the crate.
mod Readable
mod Small
pub mod Stated
