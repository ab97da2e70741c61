-- The lemmas of the crate.
mod Steps
mod OfTicks
mod Inside
mod Small
mod Sides
mod Pushes
mod Outward
mod Virials
mod AtPlaces
mod AddedUp
