-- The least disks of the cells in rows below this one were added, and those that have a next one are pending.
use Rattle.std.proofs.Common.{◌≤◌, take}
use Rattle.cell_lists.specs.declared.gathered.TheConstants.{MOST_GATHERED}
use Rattle.cell_lists.specs.Nearby.{IsWithinBlock}
use Rattle.cell_lists.proofs.Blocks.{rows_to}
use Rattle.cell_lists.specs.Gathering.{StartsAdded, ArePending}
use Rattle.cell_lists.proofs.chains.Chains.gather_heads.Given as goal

abbrev pub invariant-loop-row : goal.invariant-loop-row
invariant-loop-row l = record {
  room : l.so_far.count ≤ MOST_GATHERED;
  more : l.fn.first.count ≤ l.so_far.count;
  added : StartsAdded l.self.cells (IsWithinBlock l.grid (rows_to l.block l.row)) (take l.fn.first.count l.fn.disks) (take l.so_far.count l.disks);
  pending : ArePending l.self.cells l.fn.first.count (take l.so_far.count l.disks) l.so_far.pending;
}
