-- The definitions that the contracts cite.
pub mod Samples
pub mod Meaning
pub mod Laws
