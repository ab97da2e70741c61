mod Acts
mod After
pub mod Exists
pub mod Followed
mod Found
pub mod Hits
pub mod Joins
pub mod Lists
mod Next
pub mod Orderly
pub mod Seen
mod Settled
mod Touched
