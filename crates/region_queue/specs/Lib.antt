pub mod Finding
pub mod Outside
pub mod Covering
pub mod Queue
