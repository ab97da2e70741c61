use Rattle.std.proofs.Common.{◌≡◌, take}
use Rattle.event_rules.specs.Run.{spots_of}
use Rattle.all_pairs.proofs.simulate.done.Given as goal

abbrev pub invariant-loop-disk : goal.invariant-loop-disk
invariant-loop-disk l = l.spots.items ≡ spots_of l.rules.end (take l.disk-index l.disks)
