pub mod Grid
pub mod Crossing
pub mod Leaving
pub mod Later
pub mod Laws
