-- Each disk still to be gathered is there, or comes after a disk at a place that is pending.
use Rattle.std.proofs.Common.{◌≡◌, ◌-◌, ◌≤◌, length, take}
use Rattle.cell_lists.specs.declared.gathered.TheConstants.{MOST_GATHERED}
use Rattle.cell_lists.proofs.Walks.{IsFollowing}
use Rattle.cell_lists.proofs.chains.Chains.gather_nexts.Given as goal

abbrev pub invariant-loop-place : goal.invariant-loop-place
invariant-loop-place l = record {
  room : l.so_far.count ≤ MOST_GATHERED;
  long : length l.disks ≡ MOST_GATHERED;
  following : IsFollowing l.self.cells (take l.fn.heads.count l.fn.disks) l.fn.first (take l.so_far.count l.disks) l.so_far.pending;
}

abbrev pub decreases-loop-place : goal.decreases-loop-place
decreases-loop-place l = MOST_GATHERED - l.so_far.count
