pub mod Floors
pub mod Regions
pub mod Laws
