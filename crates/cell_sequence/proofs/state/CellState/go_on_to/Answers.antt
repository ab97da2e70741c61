use Rattle.std.proofs.Common.{ap, sym, subst, ◌∙◌}
use Rattle.cell_sequence.specs.State.{CellStateData, IsCellState, later}
use Rattle.cell_sequence.proofs.state.CellState.go_on_to.Goals as goal

pub invariant_of-self : goal.invariant_of-self
invariant_of-self c =
    subst IsCellState
    (ap (λ (state : CellStateData). later state c.args.placed.items c.args.last c.args.floor) (sym c.self.view_is)
    ∙ (λ i. record {
      rules = c.self.inside.rules;
      grid = c.self.inside.grid;
      opening = c.self.inside.opening.items;
      last = sym c.or-self-inside.ensures i;
      placed = c.args.placed.items;
      floor = c.args.floor;
    }))
    c.requires

pub returns : goal.returns
returns c =
    (λ i. record {
      rules = c.self.inside.rules;
      grid = c.self.inside.grid;
      opening = c.self.inside.opening.items;
      last = c.or-self-inside.ensures i;
      placed = c.args.placed.items;
      floor = c.args.floor;
    })
    ∙ ap (λ (state : CellStateData). later state c.args.placed.items c.args.last c.args.floor) c.self.view_is
