-- The entries of the disks below are copied, and the others are blank.
use Rattle.std.proofs.Common.{◌≡◌, ℕ, ◌<◌, ◌≤◌}
use Rattle.std.specs.Prelude.{None}
use Rattle.event_tree.specs.Entries.{entry_at}
use Rattle.event_tree.proofs.entries.widened.Given as goal

abbrev pub invariant-loop-disk : goal.invariant-loop-disk
invariant-loop-disk l = record {
  copied : (i : ℕ) → i < l.disk → entry_at l.wide i ≡ entry_at l.narrow i;
  free : (i : ℕ) → l.disk ≤ i → entry_at l.wide i ≡ (None, None);
}
