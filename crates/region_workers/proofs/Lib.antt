-- The lemmas of the crate.
pub mod Grids
pub mod Opened
mod Taken
