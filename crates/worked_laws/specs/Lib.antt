-- The rows, and what the laws say of them.
pub mod Rows
pub mod Pair
pub mod Bounce
pub mod Others
pub mod Texts
pub mod Glance
