-- The lemmas of the crate.
pub mod Among
pub mod Logs
pub mod Taken
pub mod Sent
pub mod Heads
pub mod Right
pub mod Choices
pub mod Hears
pub mod InTurn
mod Waiting
pub mod Determined
pub mod Keeps
mod OneStep
pub mod Valid
pub mod Counted
pub mod Outcome
pub mod Sending
pub mod Raised
pub mod Running
pub mod Begins
pub mod Opened
pub mod Touched
pub mod Untouched
pub mod Aside
mod Staying
mod Inserted
pub mod Woven
pub mod Stands
