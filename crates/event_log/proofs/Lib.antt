-- The lemmas of the crate.
mod Cuts
mod Alike
mod Laid
mod Read
mod Near
mod Mapped
mod Counted
mod Undone
mod Woven
pub mod AtFloor
pub mod Traced
mod Collided
mod Adjacent
