pub mod Directions
pub mod Products
pub mod Ring
pub mod Sizes
