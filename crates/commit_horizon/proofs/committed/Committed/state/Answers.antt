use Rattle.std.proofs.Common.{subst, arith}
use Rattle.cell_sequence.specs.State.{IsCellState}
use Rattle.cell_sequence.proofs.Orderly.{known}
use Rattle.commit_horizon.proofs.committed.Committed.state.Goals as goal

pub prove-unreachable-requires : goal.prove-unreachable-requires
prove-unreachable-requires c =
    let some = (known _ c.grid.ensures.kept).sizes.regions in
    let read = c.regions.ensures.value in
    let grid = c.grid.ensures.value in
    omega (arith, some, read, c.if-prove.true)

pub returns-clause-kept : goal.returns-clause-kept
returns-clause-kept c = subst IsCellState c.self.view_is c.grid.ensures.kept
