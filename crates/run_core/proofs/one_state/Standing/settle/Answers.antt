use Rattle.std.proofs.Common.{sym, subst, ◌∙◌}
use Rattle.cell_sequence.specs.State.{CellStateData, IsCellState}
use Rattle.commit_horizon.specs.Horizon.{AllStand}
use Rattle.run_core.specs.Standing.{GoesOnTo}
use Rattle.run_core.proofs.OneState.{with_rows}
use Rattle.run_core.proofs.one_state.Standing.settle.Goals as goal

pub go_on_to-requires : goal.go_on_to-requires
go_on_to-requires c =
    let goes = subst (GoesOnTo c.self.inside.earlier c.self.inside.last c.self.inside.floor
    c.self.inside.regions.items) c.self.view_is c.self.invariant in
    subst IsCellState (sym (with_rows c.self.inside.earlier c.self.inside.last c.self.inside.floor
    c.self.inside.regions.items c.args.self goes c.in_ok-placed.placed.items c.in_ok-placed.ensures)) goes.is

pub returns-clause-state : goal.returns-clause-state
returns-clause-state c =
    let goes = subst (GoesOnTo c.self.inside.earlier c.self.inside.last c.self.inside.floor
    c.self.inside.regions.items) c.self.view_is c.self.invariant in
    c.go_on_to.ensures ∙ with_rows c.self.inside.earlier c.self.inside.last c.self.inside.floor
    c.self.inside.regions.items c.args.self goes c.in_ok-placed.placed.items c.in_ok-placed.ensures

pub returns-clause-stand : goal.returns-clause-stand
returns-clause-stand c = subst (λ (v : CellStateData). AllStand v c.self.inside.regions.items) c.self.view_is
    c.self.invariant.stand

pub returns-clause-at : goal.returns-clause-at
returns-clause-at c =
    let goes = subst (GoesOnTo c.self.inside.earlier c.self.inside.last c.self.inside.floor
    c.self.inside.regions.items) c.self.view_is c.self.invariant in
    record { is = goes.is; past = goes.past }
