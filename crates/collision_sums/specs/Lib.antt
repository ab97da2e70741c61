-- The definitions that the contracts cite.
pub mod Sums
pub mod Bounds
pub mod SumLines
