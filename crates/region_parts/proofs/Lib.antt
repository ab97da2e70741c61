-- The lemmas of the crate.
pub mod Lists
pub mod Results
pub mod AtNumber
pub mod Firsts
mod Heads
mod Back
pub mod Borders
mod Hindrances
mod Passed
mod Untold
