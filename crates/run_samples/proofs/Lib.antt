-- The lemmas of the crate.
mod Inside
mod Summable
mod Due
pub mod Joined
pub mod Awaited
mod Woven
