-- The definitions that the laws cite.
pub mod Reader
pub mod Parts
