pub mod Trails
pub mod Laws
