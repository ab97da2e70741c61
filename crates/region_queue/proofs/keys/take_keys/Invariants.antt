-- The keys of the disks so far are their best.
use Rattle.std.proofs.Common.{take}
use Rattle.region_queue.specs.Finding.{AreListed, AreRetaken}
use Rattle.region_queue.proofs.keys.take_keys.Given as goal

abbrev pub invariant-loop-disk : goal.invariant-loop-disk
invariant-loop-disk l = AreListed l.view l.finder.lists.cells →
    AreRetaken l.finder l.view (take l.disk-index l.disks) l.fn.keys l.keys
