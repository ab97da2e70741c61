pub mod Apart
mod Approaches
pub mod Between
pub mod Conserved
mod Courses
pub mod Decided
mod Effects
pub mod Exists
pub mod Fits
mod Joins
mod Leads
pub mod Levels
pub mod OneRun
pub mod OneTick
pub mod Ran
pub mod Ranges
mod Reaches
pub mod Rise
mod Rounded
mod Rounding
pub mod RunsTold
mod Separations
mod SideBySide
mod Sides
mod Speeds
pub mod States
pub mod Steps
mod Swapped
pub mod Telling
pub mod Valid
pub mod Walls
pub mod Within
