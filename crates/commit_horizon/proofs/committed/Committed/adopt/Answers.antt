use Rattle.std.proofs.Common.{◌<◌, sym, subst, refl}
use Rattle.cell_sequence.specs.State.{CellStateData}
use Rattle.local_run.specs.Opening.{IsOpened}
use Rattle.local_run.specs.Standing.{StandsOn, DiffersBy}
use Rattle.commit_horizon.proofs.committed.Committed.adopt.Goals as goal

pub returns-in_default : goal.returns-in_default
returns-in_default c = (
  subst (λ (v : CellStateData). StandsOn v c.args.number c.args.region) c.self.view_is c.in_default.ensures.value,
  refl,
)

pub open-requires : goal.open-requires
open-requires c =
    subst (λ (state : CellStateData). c.args.number < state.grid.regions) (sym c.self.view_is) c.requires

pub returns : goal.returns
returns c = (
  subst (λ (v : CellStateData). DiffersBy v c.args.number c.args.region c.in-Err.differs) c.self.view_is
      c.in-Err.ensures.value,
  subst (λ (v : CellStateData). IsOpened v c.args.number c.in_ok-made.made) c.self.view_is
      c.in_ok-made.ensures,
)
