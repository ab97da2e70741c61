-- Tests of the order of stamps, for proofs about trails.
pub use Rattle.event_stamps.proofs.IsBefore.{is_before_true, is_before_false, before_from_true, not_before_from_false, not_after_before, before_not_before}
