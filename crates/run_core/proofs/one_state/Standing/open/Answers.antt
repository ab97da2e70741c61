use Rattle.std.proofs.Common.{sym, subst, ◌∙◌}
use Rattle.cell_sequence.specs.State.{CellStateData}
use Rattle.run_floors.specs.Floors.{IsPast}
use Rattle.run_core.proofs.one_state.Standing.open.Goals as goal

pub on-requires-clause-past : goal.on-requires-clause-past
on-requires-clause-past g c = subst (λ (v : CellStateData). IsPast v.last v.floor) (sym c.in_ok-committed.ensures) tt

pub returns : goal.returns
returns g c = c.on.ensures ∙ c.in_ok-committed.ensures
