use Rattle.std.proofs.Common.{Some, Ok, sym, ap, subst, ◌∙◌}
use Rattle.region_view.specs.Acting.{stamp_of}
use Rattle.cell_sequence.specs.State.{CellStateData, IsCellState, IsNextOf, ComesToInState, followed}
use Rattle.cell_sequence.proofs.Followed.{followed_is, has_rows}
use Rattle.cell_sequence.specs.contracts.state.CellState.{the_view}
use Rattle.cell_sequence.proofs.state.CellState.follow.Goals as goal

pub put-requires : goal.put-requires
put-requires c =
    let x = c.args.action.now in
    has_rows (the_view c.self.inside) x c.self.invariant
    (subst (λ (state : CellStateData). IsNextOf state (stamp_of x))
    (sym c.self.view_is) c.requires.next)
    (subst (λ (state : CellStateData). ComesToInState state (stamp_of x) (Ok x))
    (sym c.self.view_is) c.requires.comes)

pub invariant_of-self : goal.invariant_of-self
invariant_of-self c =
    let x = c.args.action.now in
    subst IsCellState
    (λ i. record {
      rules = c.self.inside.rules;
      grid = c.self.inside.grid;
      opening = c.self.inside.opening.items;
      last = Some (sym c.stamp-stamp.ensures i);
      placed = sym c.put.ensures i;
      floor = sym c.stamp-stamp.ensures i;
    })
    (followed_is (the_view c.self.inside) x c.self.invariant
    (subst (λ (state : CellStateData). IsNextOf state (stamp_of x))
    (sym c.self.view_is) c.requires.next)
    (subst (λ (state : CellStateData). ComesToInState state (stamp_of x) (Ok x))
    (sym c.self.view_is) c.requires.comes))

pub returns : goal.returns
returns c =
    let x = c.args.action.now in
    (λ i. record {
      rules = c.self.inside.rules;
      grid = c.self.inside.grid;
      opening = c.self.inside.opening.items;
      last = Some (c.stamp-stamp.ensures i);
      placed = c.put.ensures i;
      floor = c.stamp-stamp.ensures i;
    })
    ∙ ap (λ (state : CellStateData). followed state x) c.self.view_is
