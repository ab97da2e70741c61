-- The lemmas of the crate.
mod Numbers
mod Closest
mod Touch
mod Elastic
mod Rounding
mod Events
mod Near
mod Soon
mod AtTheTouch
