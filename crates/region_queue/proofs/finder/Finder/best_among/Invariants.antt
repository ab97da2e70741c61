-- The least event with one of the disks so far.
use Rattle.std.proofs.Common.{take}
use Rattle.std.specs.List.{Contains}
use Rattle.event_stamps.specs.Least.{IsLeastOf}
use Rattle.region_queue.specs.Finding.{IsNativeWith, AreListed, AreAllWithin}
use Rattle.region_queue.proofs.finder.Finder.best_among.Given as goal

abbrev pub invariant-loop-other : goal.invariant-loop-other
invariant-loop-other l = AreListed l.view l.self.lists.cells → AreAllWithin l.self.lists l.fn.block l.others →
    IsLeastOf (IsNativeWith l.self l.view l.disk (λ i. Contains (take l.other-index l.others) i)) l.best
