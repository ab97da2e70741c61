use Rattle.std.proofs.Common.{subst}
use Rattle.cell_sequence.specs.State.{IsCellState}
use Rattle.cell_sequence.proofs.state.CellState.floor.Goals as goal

pub returns-clause-kept : goal.returns-clause-kept
returns-clause-kept c = subst IsCellState c.self.view_is c.self.invariant
