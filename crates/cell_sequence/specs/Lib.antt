pub mod Run
pub mod Search
pub mod State
pub mod Laws
