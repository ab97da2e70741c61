-- The lemmas of the crate.
pub mod OneOutput
mod Accepted
mod Reread
mod Recut
pub mod Wrote
pub mod Answered
mod Writers
mod Reported
mod Sampled
mod Shown
pub mod Published
mod Watched
mod Cuts
mod Left
mod Compared
mod Audited
mod Agreed
