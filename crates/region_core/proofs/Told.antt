-- What the queue is told of a collision: its disks, by the numbers of its stamp.
use Rattle.std.proofs.Common.{◌≡◌, inl, inr, ℕ, ◌==◌, [], ◌∷◌, ◌++◌, List, Bool, true, false, Option, Some, None, refl, sym, ap, ◌∙◌, subst}
use Rattle.std.specs.Prelude.{⊤, IfSome, if◌then◌else◌, option_map}
use Rattle.std.proofs.lemmas.Bool.{eqb-true}
use Rattle.std.specs.List.{Contains}
use Rattle.fixed_motion.specs.declared.disk.Disk.{Disk}
use Rattle.event_rules.specs.declared.change.Change.{Change}
use Rattle.region_view.specs.declared.action.Placed.{Placed}
use Rattle.region_view.specs.declared.action.Action.TheVariants.{Hit}
use Rattle.region_view.specs.Acting.{redisked}
use Rattle.region_view.specs.Naming.{IsSameBut}
use Rattle.region_view.specs.Placing.{Placing}
use Rattle.region_view.specs.Setting.{RowList, after_action, get_over, rows_set, numbers_of}
use Rattle.region_view.specs.Views.{ViewData, rows_in}
use Rattle.region_view.proofs.Naming.{none_among}
use Rattle.region_view.proofs.Puts.{set_rows_are_put_over}
use Rattle.region_queue.specs.Finding.{KeepCells}
use Rattle.local_run.proofs.Aside.{first_or_later}
use Rattle.local_run.proofs.Touched.{same_but}
use Rattle.local_run.proofs.Untouched.{as_rows}

-- at numbers other than these the same stands after it
pub hit_leaves : (view : ViewData) (change : Change) (ids : List ℕ) → Contains ids change.stamp.first →
    IfSome change.second (λ _. Contains ids change.stamp.second) →
    IsSameBut ids view (after_action view (Hit change))
hit_leaves view change ids first second i none = same_but view (rows_set (rows_in view) (Hit change)) i
    (λ has. none (by_rows change.second second (rows_in view change.stamp.first) (rows_in view change.stamp.second) has))
  where
    one : (j : ℕ) → Contains ids j → Contains (j ∷ []) i → Contains ids i
    one j there has = elim (first_or_later j [] i has) [
      | inl same ↦ subst (Contains ids) (sym same) there
      | inr more ↦ absurd (none_among i more)
    ]

    by_rows : (b : Option Disk) → IfSome b (λ _. Contains ids change.stamp.second) → (o r : Option Placed) →
        Contains (numbers_of (as_rows (redisked change.stamp.first (Some change.first) o
        ++ redisked change.stamp.second b r))) i → Contains ids i
    by_rows None second None r has = absurd (none_among i has)
    by_rows None second (Some o) r has = one change.stamp.first first has
    by_rows (Some b) second None None has = absurd (none_among i has)
    by_rows (Some b) second None (Some r) has = one change.stamp.second second has
    by_rows (Some b) second (Some o) None has = one change.stamp.first first has
    by_rows (Some b) second (Some o) (Some r) has =
        elim (first_or_later change.stamp.first (change.stamp.second ∷ []) i has) [
          | inl same ↦ subst (Contains ids) (sym same) first
          | inr later ↦ one change.stamp.second second later
        ]

-- ---- the cells of its disks
abbrev in_cell : Option Placed → Option ℕ
in_cell = option_map (λ p. p.cell)

-- each of these rows is in the cell of the one at its number
abbrev StayInCells : Placing → RowList → Type 0
StayInCells at [] = ⊤
StayInCells at (r ∷ rows) = (in_cell r.1 ≡ in_cell (at r.0)) × StayInCells at rows

over_in_cell : (at : Placing) (rows : RowList) (i : ℕ) (o : Option Placed) → StayInCells at rows → in_cell o ≡ in_cell (at i) →
    in_cell (get_over rows i o) ≡ in_cell (at i)
over_in_cell at [] i o stay here = here
over_in_cell at (r ∷ rows) i o stay here =
    over_in_cell at rows i (if i == r.0 then r.1 else o) stay.1 (by_test (i == r.0) refl)
  where
    by_test : (b : Bool) → (i == r.0) ≡ b → in_cell (if b then r.1 else o) ≡ in_cell (at i)
    by_test true e = stay.0 ∙ ap (λ (n : ℕ). in_cell (at n)) (sym (eqb-true i r.0 e))
    by_test false e = here

-- each disk is in the same cell after it
pub hit_keeps_cells : (view : ViewData) (change : Change) → KeepCells view (after_action view (Hit change))
hit_keeps_cells view change i =
    ap in_cell (set_rows_are_put_over view (rows_set (rows_in view) (Hit change)) i)
    ∙ over_in_cell (rows_in view) (rows_set (rows_in view) (Hit change)) i (rows_in view i)
    (by_rows change.second (rows_in view change.stamp.first) (rows_in view change.stamp.second) refl refl) refl
  where
    by_rows : (b : Option Disk) (o r : Option Placed) → rows_in view change.stamp.first ≡ o → rows_in view change.stamp.second ≡ r →
        StayInCells (rows_in view) (as_rows (redisked change.stamp.first (Some change.first) o
        ++ redisked change.stamp.second b r))
    by_rows None None r one other = tt
    by_rows None (Some o) r one other = (sym (ap in_cell one), tt)
    by_rows (Some b) None None one other = tt
    by_rows (Some b) None (Some r) one other = (sym (ap in_cell other), tt)
    by_rows (Some b) (Some o) None one other = (sym (ap in_cell one), tt)
    by_rows (Some b) (Some o) (Some r) one other = (sym (ap in_cell one), (sym (ap in_cell other), tt))
