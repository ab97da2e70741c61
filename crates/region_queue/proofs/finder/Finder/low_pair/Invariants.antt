-- The key isn't after the events with the disks so far.
use Rattle.std.proofs.Common.{take}
use Rattle.std.specs.List.{Contains}
use Rattle.region_queue.specs.Finding.{IsNativeWith, IsLowKey}
use Rattle.region_queue.proofs.finder.Finder.low_pair.Given as goal

abbrev pub invariant-loop-other : goal.invariant-loop-other
invariant-loop-other l = IsLowKey (IsNativeWith l.self l.view l.disk (λ i. Contains (take l.other-index l.others) i)) l.disk l.best
