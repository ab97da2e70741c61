mod Held
mod Parts
mod Keeps
mod Moves
mod Seats
mod Calls
mod Ends
mod Staying
pub mod Slots
mod Standing
