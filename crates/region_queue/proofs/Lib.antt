mod Again
mod Among
mod Back
mod Beside
mod Candidates
mod Covered
pub mod InRange
mod Keeping
mod Line
mod Low
mod Moved
mod Numbered
mod Outside
mod Settled
mod Standing
mod Together
mod Unchanged
