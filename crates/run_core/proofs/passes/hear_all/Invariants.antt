use Rattle.cell_sequence.specs.State.{CellStateData}
use Rattle.run_core.specs.Passing.{StandOn, Heard, HearsUpTo}
use Rattle.run_core.proofs.passes.hear_all.Given as goal

abbrev pub invariant-loop-from : goal.invariant-loop-from
invariant-loop-from l = (state : CellStateData) → StandOn l.grid l.fn.regions state →
    Heard state l.fn.regions l.regions l.more (HearsUpTo state l.fn.hearer l.from)
