-- The lemmas of the crate.
pub mod Blocks
mod Chaining
mod Nodes
mod Bits
pub mod Firsts
mod Listed
mod Walks
