-- The entries of the disks below are copied, and the others are blank.
use Rattle.std.proofs.Common.{◌≡◌, ℕ, ◌<◌, ◌≤◌, length}
use Rattle.std.specs.Prelude.{None}
use Rattle.event_tree.specs.Entries.{entry_at}
use Rattle.event_tree.proofs.table.Table.with_room.Given as goal

abbrev pub invariant-loop-disk : goal.invariant-loop-disk
invariant-loop-disk g l = record {
  enough : l.room ≤ length l.wider.keys;
  copied : (i : ℕ) → i < l.disk → entry_at l.wider i ≡ entry_at l.self i;
  free : (i : ℕ) → l.disk ≤ i → entry_at l.wider i ≡ (None, None);
}
