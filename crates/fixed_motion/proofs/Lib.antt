pub mod Sizes
pub mod Places
pub mod Ranges
pub mod TickNumbers
