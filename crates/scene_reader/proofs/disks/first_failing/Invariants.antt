-- No disk so far fails.
use Rattle.std.specs.Prelude.{not}
use Rattle.scene_reader.specs.Trials.{passes}
use Rattle.scene_reader.proofs.First.{IsFirstFrom}
use Rattle.scene_reader.proofs.disks.first_failing.Given as goal

abbrev pub invariant-loop-i : goal.invariant-loop-i
invariant-loop-i l = IsFirstFrom (λ a. not (passes l.rules l.fn.trial a)) l.disks l.i
