use Rattle.std.proofs.Common.{◌≡◌, ℕ, true, false, [], ◌∷◌, Option, sym, ap, ◌∙◌}
use Rattle.std.specs.Prelude.{if◌then◌else◌, ◌||◌, None}
use Rattle.std.specs.FinMap as map
use Rattle.cell_grid.specs.Grid.{GridData}
use Rattle.region_view.specs.declared.action.Placed.{Placed}
use Rattle.region_view.specs.Placing.{Placing}
use Rattle.region_view.specs.Messages.{told_row, sees}
use Rattle.region_view.proofs.messages.told_row.Goals as goal

told_leaving : (grid : GridData) (region : ℕ) (before : Placing) (row : ℕ × Option Placed) → sees grid region row.1 ≡ false →
    sees grid region (before row.0) ≡ true → ((row.0, None) ∷ []) ≡ told_row grid region before row
told_leaving grid region before row unseen saw =
    sym (λ i. if saw i || unseen i then (row.0, (if unseen i then row.1 else None)) ∷ [] else [])

untold : (grid : GridData) (region : ℕ) (before : Placing) (row : ℕ × Option Placed) → sees grid region row.1 ≡ false →
    sees grid region (before row.0) ≡ false → [] ≡ told_row grid region before row
untold grid region before row unseen unseen_before =
    sym (λ i. if unseen_before i || unseen i then (row.0, (if unseen i then row.1 else None)) ∷ [] else [])

pub returns-then-sees-2-clause-told : goal.returns-then-sees-2-clause-told
returns-then-sees-2-clause-told c =
    told_leaving c.args.grid.now c.args.to (map.get c.args.before.now) c.args.row.now
    (ap (sees c.args.grid.now c.args.to) (sym c.as_ref.ensures.value) ∙ sym c.sees.ensures ∙ c.if-sees.false)
    (ap (sees c.args.grid.now c.args.to) (sym (c.as_ref-else-sees.ensures.value ∙ c.get.ensures)) ∙ sym c.sees-else-sees.ensures ∙ c.if-sees-2.true)

pub returns-else-sees-2-clause-told : goal.returns-else-sees-2-clause-told
returns-else-sees-2-clause-told c =
    untold c.args.grid.now c.args.to (map.get c.args.before.now) c.args.row.now
    (ap (sees c.args.grid.now c.args.to) (sym c.as_ref.ensures.value) ∙ sym c.sees.ensures ∙ c.if-sees.false)
    (ap (sees c.args.grid.now c.args.to) (sym (c.as_ref-else-sees.ensures.value ∙ c.get.ensures)) ∙ sym c.sees-else-sees.ensures ∙ c.if-sees-2.false)
