-- The disks from here on are listed as they were, and none below.
use Rattle.std.proofs.Common.{◌≡◌, ℕ, ◌<◌, ◌≤◌, length}
use Rattle.std.specs.Prelude.{None}
use Rattle.cell_lists.specs.Chain.{at}
use Rattle.cell_lists.proofs.chains.Chains.with_room.Given as goal

abbrev pub invariant-loop-disk : goal.invariant-loop-disk
invariant-loop-disk l = record {
  room : length l.wider.cells ≡ l.room;
  most : l.disk ≤ length l.self.cells;
  kept : (i : ℕ) → l.disk ≤ i → at l.wider.cells i ≡ at l.self.cells i;
  free : (i : ℕ) → i < l.disk → at l.wider.cells i ≡ None;
}

abbrev pub decreases-loop-disk : goal.decreases-loop-disk
decreases-loop-disk l = l.disk
