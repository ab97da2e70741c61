mod Signed
mod Sizes
pub mod Exact
pub mod Energy
pub mod Change
