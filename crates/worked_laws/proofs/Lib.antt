-- The rows worked out by hand.
mod Sides
pub mod PairRun
mod Near
mod Hit
mod ThreeRun
mod Only
mod BounceRun
mod ValidRows
mod Lines
mod GlanceRun
