use Rattle.std.proofs.Common.{sym, ap, ◌∙◌, subst}
use Rattle.cell_sequence.specs.State.{CellStateData, IsCellState, later}
use Rattle.commit_horizon.proofs.committed.Committed.go_on_to.Goals as goal

pub go_on_to-requires : goal.go_on_to-requires
go_on_to-requires c =
    subst (λ (v : CellStateData). IsCellState (later v c.args.placed.items c.args.last c.args.floor))
    (sym c.self.view_is) c.requires

pub returns : goal.returns
returns c = c.go_on_to.ensures
    ∙ ap (λ (v : CellStateData). later v c.args.placed.items c.args.last c.args.floor) c.self.view_is
