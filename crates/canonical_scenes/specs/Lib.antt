-- The definitions that the laws cite.
pub mod Parsed
pub mod Laws
