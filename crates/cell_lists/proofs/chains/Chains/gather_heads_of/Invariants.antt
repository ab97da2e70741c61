-- The least disks of the cells below this one were added, and those that have a next one are pending.
use Rattle.std.proofs.Common.{ℕ, ◌+◌, ◌<◌, ◌≤◌, take}
use Rattle.cell_lists.specs.declared.gathered.TheConstants.{MOST_GATHERED}
use Rattle.cell_lists.specs.Gathering.{StartsAdded, ArePending}
use Rattle.cell_lists.proofs.chains.Chains.gather_heads_of.Given as goal

abbrev pub invariant-loop-cell : goal.invariant-loop-cell
invariant-loop-cell l = record {
  room : l.so_far.count ≤ MOST_GATHERED;
  more : l.fn.before.count ≤ l.so_far.count;
  few : l.so_far.count + l.fn.first ≤ l.fn.before.count + l.cell;
  added : StartsAdded l.self.cells (λ cell. (l.fn.first ≤ cell) × (cell < l.cell)) (take l.fn.before.count l.fn.disks) (take l.so_far.count l.disks);
  pending : (start : ℕ) → start ≤ l.fn.before.count → ArePending l.self.cells start (take l.fn.before.count l.fn.disks) l.fn.before.pending →
      ArePending l.self.cells start (take l.so_far.count l.disks) l.so_far.pending;
}
