-- The definitions that the laws cite.
pub mod Touching
pub mod Elastic
pub mod Laws
pub mod AtTheTouch
