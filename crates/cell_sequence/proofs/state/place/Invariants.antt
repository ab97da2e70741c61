use Rattle.std.proofs.Common.{◌≡◌, take}
use Rattle.cell_sequence.specs.Run.{opened}
use Rattle.cell_sequence.proofs.state.place.Given as goal

abbrev pub invariant-loop-disk : goal.invariant-loop-disk
invariant-loop-disk l = l.placed.items ≡ opened l.grid (take l.disk-index l.disks)
