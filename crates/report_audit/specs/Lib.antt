-- The definitions that the contracts cite.
pub mod Ahead
pub mod Compared
pub mod Comparing
pub mod Laws
pub mod Lines
pub mod Parting
pub mod Place
pub mod Ready
pub mod Stages
