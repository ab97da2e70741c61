-- The rows of a state on which all regions stand.
use Rattle.std.proofs.Common.{◌≡◌, ℕ, suc, List, [], ◌∷◌, Some, sym, ap₂, ◌∙◌, subst, refl}
use Rattle.std.specs.Prelude.{slice_get}
use Rattle.std.proofs.lemmas.Option.{none-some, same_Some}
use Rattle.cell_grid.specs.Grid.{GridData, IsRegion, Owns}
use Rattle.cell_grid.proofs.Owners.{each_cell_has_one_owner, own_is_in_reach}
use Rattle.region_view.specs.declared.action.Placed.{Placed}
use Rattle.cell_sequence.specs.State.{CellStateData, IsCellState}
use Rattle.cell_sequence.specs.Laws.{Sees}
use Rattle.cell_sequence.proofs.Orderly.{known, cell_states_are_orderly}
use Rattle.local_run.specs.LocalRun.{Local}
use Rattle.local_run.specs.Opening.{RegionData}
use Rattle.commit_horizon.specs.Horizon.{runs_of, AllStand}
use Rattle.commit_horizon.specs.Laws.{RowsAreOfOwners, OneListOfRows}
use Rattle.commit_horizon.proofs.Standing.{region_at}

begins_in_view : (state : CellStateData) (regions : List RegionData) (k : ℕ) → AllStand state regions →
    IsRegion state.grid k → Sees state k (runs_of regions k).base
begins_in_view state regions k stand within =
    let at = region_at state regions k stand within in
    let stands = stand.each k _ at in
    subst (λ (run : Local). Sees state k run.base)
    (sym (same_Some (runs_of regions k) stands.run stands.alive)) stands.base

pub rows_are_of_owners : RowsAreOfOwners
rows_are_of_owners state regions k i p stand within owns =
    let sees = begins_in_view state regions k stand within i p in (
      λ there. (sees.0 there).0,
      λ here. sees.1 (here, own_is_in_reach state.grid k p.cell owns),
    )

-- ---- one list
-- lists that have the same at each place
same_at_all : {A : Type 0} (xs ys : List A) → ((i : ℕ) (x : A) → slice_get xs i ≡ Some x → slice_get ys i ≡ Some x) →
    ((i : ℕ) (y : A) → slice_get ys i ≡ Some y → slice_get xs i ≡ Some y) → ys ≡ xs
same_at_all [] [] there back = refl
same_at_all [] (y ∷ ys) there back = absurd (none-some y (back 0 y refl))
same_at_all (x ∷ xs) [] there back = absurd (none-some x (there 0 x refl))
same_at_all (x ∷ xs) (y ∷ ys) there back = ap₂ (λ (v : _) (vs : List _). v ∷ vs)
    (same_Some y x (there 0 x refl))
    (same_at_all xs ys (λ i. there (suc i)) (λ i. back (suc i)))

same_grid : (state other : CellStateData) (regions : List RegionData) (k : ℕ) → AllStand state regions →
    AllStand other regions → IsRegion state.grid k → state.grid ≡ other.grid
same_grid state other regions k stand stand_other within =
    let at = region_at state regions k stand within in
    sym (stand.each k _ at).grid ∙ (stand_other.each k _ at).grid

-- a row of one is a row of the other
row_of_other : (state other : CellStateData) (regions : List RegionData) → IsCellState state →
    AllStand state regions → AllStand other regions → (i : ℕ) (p : Placed) →
    slice_get state.placed i ≡ Some p → slice_get other.placed i ≡ Some p
row_of_other state other regions is stand stand_other i p here =
    let cell = (cell_states_are_orderly state is).rows.cell i p here in
    let owner = each_cell_has_one_owner state.grid p.cell (known state is).sizes cell in
    let grid = same_grid state other regions owner.0 stand stand_other owner.1 in
    let begins = (rows_are_of_owners state regions owner.0 i p stand owner.1 owner.2).1 here in
    (rows_are_of_owners other regions owner.0 i p stand_other
    (subst (λ (g : GridData). IsRegion g owner.0) grid owner.1)
    (subst (λ (g : GridData). Owns g owner.0 p.cell) grid owner.2)).0 begins

pub one_list_of_rows : OneListOfRows
one_list_of_rows state other regions is is_other stand stand_other = same_at_all state.placed other.placed
    (row_of_other state other regions is stand stand_other)
    (row_of_other other state regions is_other stand_other stand)
