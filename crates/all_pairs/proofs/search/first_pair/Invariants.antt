use Rattle.std.proofs.Common.{◌≡◌, Some, slice_get}
use Rattle.fixed_motion.specs.declared.disk.Disk.{Disk}
use Rattle.event_stamps.specs.Least.{IsLeastOf}
use Rattle.all_pairs.specs.Search.{IsPairBelow}
use Rattle.all_pairs.proofs.search.first_pair.Given as goal

abbrev pub invariant-loop-j : goal.invariant-loop-j
invariant-loop-j l = (a : Disk) → slice_get l.disks l.i ≡ Some a →
    IsLeastOf (IsPairBelow l.rules l.disks l.i a l.j) l.first
