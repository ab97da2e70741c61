mod AfterBase
mod Along
pub mod Cells
mod Columns
mod Courses
mod Ends
pub mod Leaving
pub mod Links
pub mod Owners
mod Quotients
mod Strips
