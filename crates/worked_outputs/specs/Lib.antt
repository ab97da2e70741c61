-- The scenes that are left of the pair.
pub mod Rests
