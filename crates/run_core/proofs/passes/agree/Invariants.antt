use Rattle.cell_sequence.specs.State.{CellStateData}
use Rattle.run_core.specs.Passing.{StandOn}
use Rattle.run_core.proofs.Passed.{HavePassed, entries_left}
use Rattle.run_core.proofs.passes.agree.Given as goal

abbrev pub invariant-passes : goal.invariant-passes
invariant-passes l = (state : CellStateData) → StandOn l.grid l.fn.regions state →
    HavePassed state l.fn.regions l.regions

abbrev pub decreases-passes : goal.decreases-passes
decreases-passes l = entries_left l.grid l.regions
