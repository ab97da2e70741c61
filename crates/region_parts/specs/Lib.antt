pub mod Inbox
pub mod Border
pub mod Aside
pub mod Place
pub mod Sending
