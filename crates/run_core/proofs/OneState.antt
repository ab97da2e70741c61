-- The one state on which regions stand.
use Rattle.std.proofs.Common.{◌≡◌, ℕ, zero, suc, ◌+◌, ◌<◌, ◌≤◌, List, [], ◌∷◌, ◌++◌, length, take, drop, get_or, slice_get, fold}
use Rattle.std.proofs.Common.{append-nil, sym, ap, ap₂, ◌∙◌, refl, arith, Option, Some, None}
use Rattle.std.specs.Prelude.{option_map}
use Rattle.std.specs.Option.{option_or, option_to_list}
use Rattle.std.proofs.Math.ListN.{drop_of_length-le}
use Rattle.std.proofs.Math.Seq.{take-length}
use Rattle.std.proofs.lemmas.List.{take_all, take_more, length-set}
use Rattle.std.proofs.lemmas.Option.{same_Some, slice_get-get_or}
use Rattle.event_stamps.specs.declared.Stamp.{Stamp}
use Rattle.region_view.specs.declared.action.Placed.{Placed}
use Rattle.region_view.specs.declared.action.Action.{Action}
use Rattle.region_view.specs.Acting.{stamp_of, new_rows}
use Rattle.region_view.proofs.Seen.{no_row}
use Rattle.cell_grid.proofs.Owners.{each_cell_has_one_owner}
use Rattle.cell_sequence.specs.Run.{put_row}
use Rattle.cell_sequence.specs.State.{CellStateData, IsCellState, last_stamp, followed, followed_by, raised, later}
use Rattle.cell_sequence.proofs.Orderly.{known, cell_states_are_orderly}
use Rattle.local_run.specs.LocalRun.{Local}
use Rattle.local_run.specs.Opening.{RegionData}
use Rattle.run_floors.specs.Floors.{IsPast}
use Rattle.region_core.specs.FirstRows.{row_in, first_row}
use Rattle.commit_horizon.specs.Horizon.{runs_of, AllStand}
use Rattle.commit_horizon.proofs.Rows.{rows_are_of_owners}
use Rattle.commit_horizon.proofs.Standing.{region_on, region_at}
use Rattle.run_core.specs.Standing.{row_among, rows_among, seen_as, GoesOnTo, ComesOf}
use Rattle.run_core.proofs.Advancing.{rules_after}
use Rattle.run_core.proofs.Simulating.{grid_after}

-- ---- a row
-- some region begins with a row of a disk, and no other begins with another one
row_of_any : (regions : List RegionData) (i : ℕ) (p : Placed) →
    ((k : ℕ) (region : RegionData) (q : Placed) → slice_get regions k ≡ Some region →
    first_row region i ≡ Some q → q ≡ p) → (k : ℕ) (region : RegionData) → slice_get regions k ≡ Some region →
    first_row region i ≡ Some p → row_among regions i ≡ Some p
row_of_any [] i p one k region at has = cc
row_of_any (r ∷ regions) i p one zero region at has =
    ap (λ (v : Option Placed). option_or v (row_among regions i))
    (ap (λ (v : RegionData). first_row v i) (same_Some r region at) ∙ has)
row_of_any (r ∷ regions) i p one (suc k) region at has =
    by_first (row_of_any regions i p (λ j. one (suc j)) k region at has) (first_row r i) refl
  where
    by_first : row_among regions i ≡ Some p → (found : Option Placed) → first_row r i ≡ found →
        option_or found (row_among regions i) ≡ Some p
    by_first rest None is = rest
    by_first rest (Some q) is = ap Some (one 0 r q refl is)

-- the row in the regions from one on
pub row_here : (regions : List RegionData) (k : ℕ) (region : RegionData) (i : ℕ) →
    slice_get regions k ≡ Some region → row_among (drop k regions) i
    ≡ option_or (first_row region i) (row_among (drop (k + 1) regions) i)
row_here [] k region i at = cc
row_here (r ∷ regions) zero region i at =
    ap (λ (v : RegionData). option_or (first_row v i) (row_among regions i)) (same_Some r region at)
row_here (r ∷ regions) (suc k) region i at =
    let more : suc (k + 1) ≡ suc k + 1 = omega arith in
    row_here regions k region i at
    ∙ ap (λ (n : ℕ). option_or (first_row region i) (row_among (drop n (r ∷ regions)) i)) more

pub row_past : (regions : List RegionData) (k i : ℕ) → length regions ≤ k → row_among (drop k regions) i ≡ None
row_past [] zero i past = refl
row_past [] (suc k) i past = refl
row_past (r ∷ regions) zero i past = absurd (omega arith)
row_past (r ∷ regions) (suc k) i past = row_past regions k i (omega arith)

module _ (state : CellStateData) (regions : List RegionData) (is : IsCellState state)
    (stand : AllStand state regions) where
  -- a region that stands begins only with rows of the state
  begins_with : (k : ℕ) (region : RegionData) (i : ℕ) (p q : Placed) → slice_get state.placed i ≡ Some p →
      slice_get regions k ≡ Some region → first_row region i ≡ Some q → q ≡ p
  begins_with k region i p q here at has =
      let stands = stand.each k region at in
      let first = sym (ap (λ (v : Option Local). row_in (option_map (λ (run : Local). run.base) v) i) stands.alive)
      ∙ has in
      same_Some q p (sym ((stands.base i q).0 first).0 ∙ here)

  row_is : (i : ℕ) (p : Placed) → slice_get state.placed i ≡ Some p → row_among regions i ≡ Some p
  row_is i p here =
      let cell = (cell_states_are_orderly state is).rows.cell i p here in
      let owner = each_cell_has_one_owner state.grid p.cell (known state is).sizes cell in
      row_of_any regions i p (λ k region q at has. begins_with k region i p q here at has) owner.0
      (region_on state owner.0 (runs_of regions owner.0)) (region_at state regions owner.0 stand owner.1)
      ((rows_are_of_owners state regions owner.0 i p stand owner.1 owner.2).1 here)

  rows_upto : (n : ℕ) → n ≤ length state.placed → rows_among regions n ≡ take n state.placed
  unfolding rows_among
  rows_upto zero le = refl
  rows_upto (suc n) le =
      let lt : n < length state.placed = omega arith in
      let row = row_is n (get_or state.placed n no_row) (slice_get-get_or state.placed n no_row lt) in
      ap₂ (λ (xs ys : List Placed). xs ++ ys) (rows_upto n (omega arith)) (ap option_to_list row)
      ∙ sym (take_more state.placed n no_row lt)
      ∙ ap (λ (m : ℕ). take m state.placed) (let e : n + 1 ≡ suc n = omega arith in e)

  -- so the rows with which they begin are those of the state
  pub rows_are : rows_among regions (length state.placed) ≡ state.placed
  rows_are = rows_upto (length state.placed) (omega arith) ∙ take-length state.placed

-- ---- the state
pub seen_is : (earlier : CellStateData) (last : Option Stamp) (floor : Stamp) (regions : List RegionData)
    (state : CellStateData) → GoesOnTo earlier last floor regions state →
    seen_as earlier last floor regions ≡ state
seen_is earlier last floor regions state goes =
    ap (λ (n : ℕ). later earlier (rows_among regions n) last floor) (sym goes.count)
    ∙ ap (λ (rows : List Placed). later earlier rows last floor) (rows_are state regions goes.is goes.stand)
    ∙ sym goes.is_later

-- the row of a disk is there
pub row_there : (earlier : CellStateData) (last : Option Stamp) (floor : Stamp) (regions : List RegionData)
    (state : CellStateData) → GoesOnTo earlier last floor regions state → (i : ℕ) → i < length state.placed →
    row_among regions i ≡ slice_get state.placed i
row_there earlier last floor regions state goes i lt =
    let here = slice_get-get_or state.placed i no_row lt in
    row_is state regions goes.is goes.stand i (get_or state.placed i no_row) here ∙ sym here

-- with the rows of the state, the state that the earlier one goes on to is the state
pub with_rows : (earlier : CellStateData) (last : Option Stamp) (floor : Stamp) (regions : List RegionData)
    (state : CellStateData) → GoesOnTo earlier last floor regions state → (rows : List Placed) →
    rows ≡ state.placed → later earlier rows last floor ≡ state
with_rows earlier last floor regions state goes rows are =
    ap (λ (v : List Placed). later earlier v last floor) are ∙ sym goes.is_later

-- ---- a committed state
pub stands_on_it : (state : CellStateData) (floor : Stamp) (regions : List RegionData) → IsCellState state →
    floor ≡ state.floor → AllStand state regions → IsPast state.last state.floor →
    GoesOnTo state None floor regions state
stands_on_it state floor regions is floor_is stand past = record {
  is = is;
  past = past;
  stand = stand;
  is_later = λ i. record state { floor = sym floor_is i };
  count = refl;
}

-- ---- after more actions
pub opening_after : (xs : List Action) (state : CellStateData) → (followed_by state xs).opening ≡ state.opening
opening_after [] state = refl
opening_after (x ∷ xs) state = opening_after xs (followed state x)

length_put : (rows : List (ℕ × Placed)) (placed : List Placed) → length (fold put_row placed rows) ≡ length placed
length_put [] placed = refl
length_put (r ∷ rows) placed = length_put rows (put_row placed r) ∙ length-set placed r.0 r.1

count_after : (xs : List Action) (state : CellStateData) →
    length (followed_by state xs).placed ≡ length state.placed
count_after [] state = refl
count_after (x ∷ xs) state = count_after xs (followed state x)
    ∙ length_put (new_rows (slice_get state.placed) x) state.placed

-- if there is an action, the last one's stamp is known
last_of_some : (x : Action) (xs : List Action) (a b : Option Stamp) →
    option_or (last_stamp (x ∷ xs)) a ≡ option_or (last_stamp (x ∷ xs)) b
last_of_some x [] a b = refl
last_of_some x (y ∷ xs) a b = last_of_some y xs a b

last_after : (xs : List Action) (state : CellStateData) →
    (followed_by state xs).last ≡ option_or (last_stamp xs) state.last
last_after [] state = refl
last_after (x ∷ []) state = refl
last_after (x ∷ y ∷ xs) state = last_after (y ∷ xs) (followed state x)
    ∙ last_of_some y xs (Some (stamp_of x)) state.last

or_in_turn : (a b c : Option Stamp) → option_or a (option_or b c) ≡ option_or (option_or a b) c
or_in_turn None b c = refl
or_in_turn (Some s) b c = refl

-- the run goes on from a state by more actions
pub goes_on_by : (earlier : CellStateData) (last : Option Stamp) (floor : Stamp) (given : List RegionData)
    (state : CellStateData) → GoesOnTo earlier last floor given state → (batch : List Action) (made : Option Stamp)
    (h : Stamp) (left : List RegionData) (new : CellStateData) → IsCellState new → IsPast new.last new.floor → AllStand new left →
    new ≡ raised h (followed_by state batch) → made ≡ last_stamp batch →
    GoesOnTo earlier (option_or made last) h left new
goes_on_by earlier last floor given state goes batch made h left new is past stand new_is made_is = record {
  is = is;
  past = past;
  stand = stand;
  is_later = λ i. record {
    rules = rules i;
    grid = grid i;
    opening = opening i;
    last = last_is i;
    placed = new.placed;
    floor = floor_is i;
  };
  count = ap (λ (v : CellStateData). length v.placed) new_is ∙ count_after batch state ∙ goes.count;
}
  where
    rules : new.rules ≡ earlier.rules
    rules = ap (λ (v : CellStateData). v.rules) new_is ∙ rules_after batch state
        ∙ ap (λ (v : CellStateData). v.rules) goes.is_later

    grid : new.grid ≡ earlier.grid
    grid = ap (λ (v : CellStateData). v.grid) new_is ∙ grid_after batch state
        ∙ ap (λ (v : CellStateData). v.grid) goes.is_later

    opening : new.opening ≡ earlier.opening
    opening = ap (λ (v : CellStateData). v.opening) new_is ∙ opening_after batch state
        ∙ ap (λ (v : CellStateData). v.opening) goes.is_later

    last_is : new.last ≡ option_or (option_or made last) earlier.last
    last_is = ap (λ (v : CellStateData). v.last) new_is ∙ last_after batch state
        ∙ ap₂ (λ (a b : Option Stamp). option_or a b) (sym made_is)
        (ap (λ (v : CellStateData). v.last) goes.is_later) ∙ or_in_turn made last earlier.last

    floor_is : new.floor ≡ h
    floor_is = ap (λ (v : CellStateData). v.floor) new_is

-- it has the rules and the grid of the earlier one
pub comes_of : (earlier at : CellStateData) (last : Option Stamp) (floor : Stamp) (regions : List RegionData)
    (state : CellStateData) → at ≡ earlier → GoesOnTo earlier last floor regions state →
    ComesOf at state.floor regions state
comes_of earlier at last floor regions state same goes = record {
  is = goes.is;
  rules_are = ap (λ (v : CellStateData). v.rules) goes.is_later ∙ ap (λ (v : CellStateData). v.rules) (sym same);
  grid_is = ap (λ (v : CellStateData). v.grid) goes.is_later ∙ ap (λ (v : CellStateData). v.grid) (sym same);
  floor_is = refl;
  stand = goes.stand;
}

-- other regions stand on it too
pub still_goes : (earlier : CellStateData) (last : Option Stamp) (floor : Stamp) (given worked : List RegionData)
    (state : CellStateData) → GoesOnTo earlier last floor given state → AllStand state worked →
    GoesOnTo earlier last floor worked state
still_goes earlier last floor given worked state goes stand =
    record { is = goes.is; past = goes.past; stand = stand; is_later = goes.is_later; count = goes.count }

-- what a vector has after all of it was written
pub written_back : {A : Type 0} (new items : List A) (len : ℕ) → length new ≡ len → length items ≡ len →
    new ≡ take len (new ++ drop (length new) items)
written_back new items len same was =
    let le : length items ≤ length new = omega (arith, same, was) in
    let most : length new ≤ len = omega (arith, same) in
    sym (ap (λ v. take len (new ++ v)) (drop_of_length-le items le)
    ∙ ap (λ v. take len v) (append-nil new) ∙ take_all len new most)
