use Rattle.cell_sequence.specs.State.{CellStateData}
use Rattle.run_core.specs.Passing.{StandOn, Heard, AllHearUpTo}
use Rattle.run_core.proofs.passes.pass.Given as goal

abbrev pub invariant-loop-hearer : goal.invariant-loop-hearer
invariant-loop-hearer l = (state : CellStateData) → StandOn l.grid l.fn.regions state →
    Heard state l.fn.regions l.regions l.more (AllHearUpTo state l.hearer)
