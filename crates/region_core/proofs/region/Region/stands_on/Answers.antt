use Rattle.std.specs.Prelude.{Option, IfSome}
use Rattle.region_core.specs.declared.live.Live.{Live}
use Rattle.std.proofs.Common.{◌≡◌, ℕ, List, slice_get, length, ◌≤◌, refl, sym, ◌∙◌, subst}
use Rattle.cell_grid.specs.Grid.{GridData, IsRegion}
use Rattle.region_view.specs.declared.action.Placed.{Placed}
use Rattle.region_view.specs.Laws.{HasCells}
use Rattle.region_messages.proofs.Same.{stamp_decides}
use Rattle.cell_sequence.proofs.Followed.{few_rows}
use Rattle.cell_sequence.proofs.Orderly.{cell_states_are_orderly}
use Rattle.region_core.specs.Live.{base_in, run_in, IsLive}
use Rattle.region_core.proofs.Pairs.{rules_decide, grid_decides}
use Rattle.region_core.proofs.Stands.{run_seen, not_spent, differ, agree, stands, differs_in_row}
use Rattle.region_core.proofs.Kept.{kept_is}
use Rattle.region_core.proofs.region.Region.stands_on.Goals as goal

pub returns-then-ne-clause-value : goal.returns-then-ne-clause-value
returns-then-ne-clause-value c =
    let run = run_seen c.self.inside.place.home c.self.inside.place.floor c.self.inside.live c.in-Some.live c.args.self.now
    c.self.view_is c.in-Some.is in (
      not_spent (run_in c.self.inside.place.floor c.in-Some.live) c.args.self.now run,
      sym c.number-own.ensures.value ∙ c.if-own-number.false,
      differ c.rules.ensures.value c.rules-2.ensures.value (rules_decide _ _) c.ne.ensures c.if-ne.true,
    )

pub returns-then-ne-2-clause-value : goal.returns-then-ne-2-clause-value
returns-then-ne-2-clause-value c =
    let run = run_seen c.self.inside.place.home c.self.inside.place.floor c.self.inside.live c.in-Some.live c.args.self.now
    c.self.view_is c.in-Some.is in (
      not_spent (run_in c.self.inside.place.floor c.in-Some.live) c.args.self.now run,
      sym c.number-own.ensures.value ∙ c.if-own-number.false,
      agree c.rules.ensures.value c.rules-2.ensures.value (rules_decide _ _) c.ne.ensures c.if-ne.false,
      differ c.grid.ensures.value c.grid-grid.ensures.value (grid_decides _ _) c.ne-2.ensures c.if-ne-2.true,
    )

pub returns-then-ne-3-clause-value : goal.returns-then-ne-3-clause-value
returns-then-ne-3-clause-value c =
    let run = run_seen c.self.inside.place.home c.self.inside.place.floor c.self.inside.live c.in-Some.live c.args.self.now
    c.self.view_is c.in-Some.is in (
      not_spent (run_in c.self.inside.place.floor c.in-Some.live) c.args.self.now run,
      sym c.number-own.ensures.value ∙ c.if-own-number.false,
      agree c.rules.ensures.value c.rules-2.ensures.value (rules_decide _ _) c.ne.ensures c.if-ne.false,
      agree c.grid.ensures.value c.grid-grid.ensures.value (grid_decides _ _) c.ne-2.ensures c.if-ne-2.false,
      c.floor-floor.ensures.value,
      c.floor-then-ne-3.ensures.value,
      λ same. differ c.floor.ensures.value c.floor-floor.ensures.value (stamp_decides _ _)
          c.ne-3.ensures c.if-ne-3.true (sym c.floor-then-ne-3.ensures.value ∙ sym same ∙ c.floor-floor.ensures.value),
    )

pub first_apart-requires-clause-region : goal.first_apart-requires-clause-region
first_apart-requires-clause-region c =
    let number : c.args.self.now.home.number ≡ c.args.number =
    sym c.number-own.ensures.value ∙ c.if-own-number.false in
    let grid : c.args.self.now.home.grid ≡ c.grid-grid.result.now =
    agree c.grid.ensures.value refl (grid_decides _ _) c.ne-2.ensures c.if-ne-2.false in
    subst (λ (n : ℕ). IsRegion c.grid-grid.result.now n) number
    (subst (λ (g : GridData). IsRegion g c.args.self.now.home.number) grid c.number-own.ensures.kept.place.number)

pub first_apart-requires-clause-cells : goal.first_apart-requires-clause-cells
first_apart-requires-clause-cells c =
    subst (λ (g : GridData). HasCells g (slice_get c.placed.result.now)) (sym c.grid-grid.ensures.value)
    (subst (λ (placed : List Placed). HasCells c.args.state.now.grid (slice_get placed))
    (sym c.placed.ensures.value)
    (cell_states_are_orderly c.args.state.now c.placed.ensures.kept).rows.cell)

pub first_apart-requires-clause-count : goal.first_apart-requires-clause-count
first_apart-requires-clause-count c =
    subst (λ (placed : List Placed). length placed ≤ 65536) (sym c.placed.ensures.value)
    (few_rows c.args.state.now c.placed.ensures.kept)

pub returns-in-Some-first_apart-clause-value : goal.returns-in-Some-first_apart-clause-value
returns-in-Some-first_apart-clause-value c =
    let run = run_seen c.self.inside.place.home c.self.inside.place.floor c.self.inside.live c.in-Some.live c.args.self.now
    c.self.view_is c.in-Some.is in (
      sym c.number-own.ensures.value ∙ c.if-own-number.false,
      agree c.rules.ensures.value c.rules-2.ensures.value (rules_decide _ _) c.ne.ensures c.if-ne.false,
      agree c.grid.ensures.value c.grid-grid.ensures.value (grid_decides _ _) c.ne-2.ensures c.if-ne-2.false,
      agree c.floor.ensures.value c.floor-floor.ensures.value (stamp_decides _ _) c.ne-3.ensures c.if-ne-3.false,
      (
        run_in c.self.inside.place.floor c.in-Some.live,
        run,
        differs_in_row c.args.state.now c.args.number (base_in c.in-Some.live) c.grid-grid.result.now
            c.placed.result.now c.in-Some-first_apart.disk c.grid-grid.ensures.value c.placed.ensures.value
            c.in-Some-first_apart.ensures,
      ),
    )

pub returns-in-None-clause-value : goal.returns-in-None-clause-value
returns-in-None-clause-value c =
    let run = run_seen c.self.inside.place.home c.self.inside.place.floor c.self.inside.live c.in-Some.live c.args.self.now
    c.self.view_is c.in-Some.is in
    stands c.args.state.now c.args.number (run_in c.self.inside.place.floor c.in-Some.live) c.args.self.now
    c.grid-grid.result.now c.placed.result.now run
    (sym c.number-own.ensures.value ∙ c.if-own-number.false)
    (agree c.rules.ensures.value c.rules-2.ensures.value (rules_decide _ _) c.ne.ensures c.if-ne.false)
    (agree c.grid.ensures.value c.grid-grid.ensures.value (grid_decides _ _) c.ne-2.ensures c.if-ne-2.false)
    (agree c.floor.ensures.value c.floor-floor.ensures.value (stamp_decides _ _) c.ne-3.ensures c.if-ne-3.false)
    c.grid-grid.ensures.value c.placed.ensures.value c.in-None.ensures

pub first_apart-requires-clause-few : goal.first_apart-requires-clause-few
first_apart-requires-clause-few c =
    (subst (λ (o : Option Live). IfSome o (IsLive c.self.inside.place)) c.in-Some.is
    c.self.invariant.alive).body.right.base.number

pub returns-in_default-clause-kept : goal.returns-in_default-clause-kept
returns-in_default-clause-kept c = kept_is _ _ _ c.self.view_is c.self.invariant

pub returns-in-Some-first_apart-clause-kept : goal.returns-in-Some-first_apart-clause-kept
returns-in-Some-first_apart-clause-kept c = c.number-own.ensures.kept

pub returns-in-None-clause-kept : goal.returns-in-None-clause-kept
returns-in-None-clause-kept c = c.number-own.ensures.kept

pub returns-then-ne-3-clause-kept : goal.returns-then-ne-3-clause-kept
returns-then-ne-3-clause-kept c = c.number-own.ensures.kept

pub returns-then-ne-2-clause-kept : goal.returns-then-ne-2-clause-kept
returns-then-ne-2-clause-kept c = c.number-own.ensures.kept

pub returns-then-ne-clause-kept : goal.returns-then-ne-clause-kept
returns-then-ne-clause-kept c = c.number-own.ensures.kept
