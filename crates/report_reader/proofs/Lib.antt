-- The lemmas of the crate.
mod Rows
mod Bodies
mod ReadBack
mod Parts
