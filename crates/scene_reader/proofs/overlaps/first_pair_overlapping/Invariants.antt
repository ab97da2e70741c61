-- None of the others so far overlaps.
use Rattle.scene_reader.specs.Disks.{meet}
use Rattle.scene_reader.proofs.First.{IsFirstFrom}
use Rattle.scene_reader.proofs.overlaps.first_pair_overlapping.Given as goal

abbrev pub invariant-loop-i : goal.invariant-loop-i
invariant-loop-i l = IsFirstFrom (λ other. meet l.disk other) l.others l.i
