-- The definitions that the laws cite.
pub mod Laws
pub mod Virial
pub mod InParts
