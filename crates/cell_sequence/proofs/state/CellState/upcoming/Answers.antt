use Rattle.std.proofs.Common.{ℕ, ◌<◌, sym, subst}
use Rattle.std.proofs.lemmas.Option.{none-some, same_Some}
use Rattle.fixed_motion.specs.Motion.{IsValidDisk}
use Rattle.cell_sequence.specs.State.{CellStateData, IsNextOf, ComesToInState}
use Rattle.cell_sequence.proofs.Followed.{row_read, first_there, second_there, pair_by, alone_by}
use Rattle.cell_sequence.proofs.Followed.{pair_comes, alone_comes}
use Rattle.cell_sequence.proofs.Orderly.{cell_states_are_orderly}
use Rattle.cell_sequence.specs.contracts.state.CellState.{the_view}
use Rattle.cell_sequence.proofs.state.CellState.upcoming.Goals as goal

pub act-requires-clause-first : goal.act-requires-clause-first
act-requires-clause-first c =
    let next = subst (λ (state : CellStateData). IsNextOf state c.args.stamp.now)
    (sym c.self.view_is) c.requires in
    (cell_states_are_orderly (the_view c.self.inside) c.self.invariant).rows.disk
    c.args.stamp.now.first c.index-row.result.now
    (row_read c.self.inside.placed.items c.args.stamp.now.first c.index-row.result.now
    (first_there (the_view c.self.inside) c.args.stamp.now next) c.index-row.ensures)

pub act-requires-clause-second : goal.act-requires-clause-second
act-requires-clause-second c = λ x e.
    let next = subst (λ (state : CellStateData). IsNextOf state c.args.stamp.now)
    (sym c.self.view_is) c.requires in
    subst (IsValidDisk c.self.inside.rules) (same_Some _ x e)
    ((cell_states_are_orderly
    (the_view c.self.inside) c.self.invariant).rows.disk c.args.stamp.now.second
    c.index-other.result.now
    (row_read c.self.inside.placed.items c.args.stamp.now.second c.index-other.result.now
    (second_there (the_view c.self.inside) c.args.stamp.now next c.in-Pair.is)
    c.index-other.ensures))

pub act-requires-clause-event : goal.act-requires-clause-event
act-requires-clause-event c =
    let s = c.args.stamp.now in
    let rows = c.self.inside.placed.items in
    let next = subst (λ (state : CellStateData). IsNextOf state s)
    (sym c.self.view_is) c.requires in
    pair_by (the_view c.self.inside) s c.index-row.result.now c.index-other.result.now next
    c.in-Pair.is
    (row_read rows s.first c.index-row.result.now
    (first_there (the_view c.self.inside) s next) c.index-row.ensures)
    (row_read rows s.second c.index-other.result.now
    (second_there (the_view c.self.inside) s next c.in-Pair.is) c.index-other.ensures)

pub act-requires-in_default : goal.act-requires-in_default
act-requires-in_default c =
    let s = c.args.stamp.now in
    let next = subst (λ (state : CellStateData). IsNextOf state s)
    (sym c.self.view_is) c.requires in
    let at = row_read c.self.inside.placed.items s.first c.index-row.result.now
    (first_there (the_view c.self.inside) s next) c.index-row.ensures in
    record {
      checked = c.self.invariant.scene.rules;
      first = (cell_states_are_orderly
          (the_view c.self.inside) c.self.invariant).rows.disk s.first c.index-row.result.now at;
      second = λ x e. absurd (none-some x e);
      event = alone_by (the_view c.self.inside) s c.index-row.result.now next c.in_default.not-Pair
          at;
    }

pub returns-in-Pair : goal.returns-in-Pair
returns-in-Pair c =
    let s = c.args.stamp.now in
    let rows = c.self.inside.placed.items in
    let next = subst (λ (state : CellStateData). IsNextOf state s)
    (sym c.self.view_is) c.requires in
    subst (λ (state : CellStateData). ComesToInState state s c.act.result) c.self.view_is
    (pair_comes (the_view c.self.inside) s c.index-row.result.now c.index-other.result.now
    c.act.result c.in-Pair.is
    (row_read rows s.first c.index-row.result.now
    (first_there (the_view c.self.inside) s next) c.index-row.ensures)
    (row_read rows s.second c.index-other.result.now
    (second_there (the_view c.self.inside) s next c.in-Pair.is) c.index-other.ensures)
    c.act.ensures)

pub returns-in_default : goal.returns-in_default
returns-in_default c =
    let s = c.args.stamp.now in
    let next = subst (λ (state : CellStateData). IsNextOf state s)
    (sym c.self.view_is) c.requires in
    subst (λ (state : CellStateData). ComesToInState state s c.act-in_default.result) c.self.view_is
    (alone_comes (the_view c.self.inside) s c.index-row.result.now c.act-in_default.result
    c.in_default.not-Pair
    (row_read c.self.inside.placed.items s.first c.index-row.result.now
    (first_there (the_view c.self.inside) s next) c.index-row.ensures)
    c.act-in_default.ensures)

pub index-other-requires : goal.index-other-requires
index-other-requires c =
    let next = subst (λ (state : CellStateData). IsNextOf state c.args.stamp.now) (sym c.self.view_is) c.requires in
    subst (λ (n : ℕ). c.args.stamp.now.second < n) (sym c.self.inside.placed.ok.0)
    (second_there (the_view c.self.inside) c.args.stamp.now next c.in-Pair.is)

pub index-row-requires : goal.index-row-requires
index-row-requires c =
    let next = subst (λ (state : CellStateData). IsNextOf state c.args.stamp.now) (sym c.self.view_is) c.requires in
    subst (λ (n : ℕ). c.args.stamp.now.first < n) (sym c.self.inside.placed.ok.0)
    (first_there (the_view c.self.inside) c.args.stamp.now next)
