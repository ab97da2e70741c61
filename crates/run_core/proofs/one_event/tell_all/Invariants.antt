use Rattle.cell_sequence.specs.State.{CellStateData}
use Rattle.run_core.specs.Passing.{StandOn}
use Rattle.run_core.proofs.Taken.{TookInUpTo}
use Rattle.run_core.proofs.one_event.tell_all.Given as goal

abbrev pub invariant-loop-hearer : goal.invariant-loop-hearer
invariant-loop-hearer l = (state : CellStateData) → StandOn l.grid l.fn.regions state →
    TookInUpTo state l.fn.regions l.regions l.fn.home l.hearer
