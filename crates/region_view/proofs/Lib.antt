mod Added
pub mod After
mod CompactRows
mod Crossed
pub mod First
pub mod Homes
mod InSlots
pub mod Naming
pub mod Puts
pub mod SamePlaced
pub mod Seen
pub mod Told
pub mod ValidRows
