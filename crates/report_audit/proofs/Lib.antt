-- The lemmas of the crate.
mod Divided
mod Filled
pub mod Fronts
mod Lengths
mod Linewise
mod Marks
mod Newlines
mod Placed
mod Lined
mod Agreement
mod Judged
mod Course
mod Ended
mod Upcoming
pub mod Short
pub mod Verdicts
pub mod Joined
