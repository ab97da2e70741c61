-- The lemmas of the crate.
mod Mirrored
mod MirroredRuns
mod MirroredReports
