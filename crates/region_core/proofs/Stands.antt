-- Whether a view is what a region sees of placed disks, row by row.
use Rattle.std.proofs.Common.{◌≡◌, ◌≢◌, ◌⊎◌, inl, inr, ℕ, ◌+◌, ◌-◌, ◌*◌, ◌%◌, ◌<◌, ◌≤◌, Bool, true, false, Decides, List, length, Option, Some, None, refl, sym, ap, ◌∙◌, subst, arith}
use Rattle.std.specs.Prelude.{◌↔◌, IsTrue, slice_get, option_map, not}
use Rattle.std.specs.FinMap as map
use Rattle.std.proofs.lemmas.Nat.{mod-mul-add}
use Rattle.std.proofs.lemmas.Option.{none-some, same_Some, slice_get_within}
use Rattle.event_stamps.specs.declared.Stamp.{Stamp}
use Rattle.cell_grid.specs.Grid.{GridData, Reaches}
use Rattle.region_view.specs.declared.action.Placed.{Placed}
use Rattle.region_view.specs.Views.{ViewData, IsViewOf}
use Rattle.cell_sequence.specs.State.{CellStateData}
use Rattle.local_run.specs.declared.home.Home.{Home}
use Rattle.region_core.specs.declared.live.Live.{Live}
use Rattle.local_run.specs.LocalRun.{Local}
use Rattle.local_run.specs.Opening.{RegionData}
use Rattle.region_core.specs.Live.{run_in}
use Rattle.local_run.specs.Standing.{StandsOn, SeesRow, IsSeenAt, IsUnseenFirst, DiffersFirstAt}
use Rattle.region_core.proofs.Shown.{seen_as}

-- ---- one row
pub sees_here : (grid : GridData) (k : ℕ) (row : Placed) → Reaches grid k row.cell →
    SeesRow grid k (Some row) (Some row)
sees_here grid k row reach p = (
  λ e. (e, subst (λ (r : Placed). Reaches grid k r.cell) (same_Some row p e) reach),
  λ h. h.0,
)

pub sees_none : (grid : GridData) (k : ℕ) (row : Placed) → ¬ Reaches grid k row.cell →
    SeesRow grid k (Some row) None
sees_none grid k row out p = (
  λ e. absurd (none-some p e),
  λ h. absurd (out (subst (λ (r : Placed). Reaches grid k r.cell) (sym (same_Some row p h.0)) h.1)),
)

-- it sees exactly one thing of a row
sees_one : (grid : GridData) (k : ℕ) (row a b : Option Placed) → SeesRow grid k row a → SeesRow grid k row b →
    a ≡ b
sees_one grid k row (Some p) b sees also = sym ((also p).1 ((sees p).0 refl))
sees_one grid k row None (Some q) sees also = absurd (none-some q ((sees q).1 ((also q).0 refl)))
sees_one grid k row None None sees also = refl

-- what is found at a number of placed disks and a view
pub seen_at : (grid : GridData) (k : ℕ) (placed : List Placed) (view : ViewData) (i : ℕ) (row : Placed)
    (seen : Option Placed) (result : Bool) → slice_get placed i ≡ Some row → SeesRow grid k (Some row) seen →
    IsTrue result ↔ (map.get view i ≡ seen) → IsTrue result ↔ IsSeenAt grid k (slice_get placed) view i
seen_at grid k placed view i row seen result at sees is = (
  λ h. subst (λ (r : Option Placed). SeesRow grid k r (map.get view i)) (sym at)
      (subst (SeesRow grid k (Some row)) (sym (is.0 h)) sees),
  λ here. is.1 (sees_one grid k (Some row) (map.get view i) seen
      (subst (λ (r : Option Placed). SeesRow grid k r (map.get view i)) at here) sees),
)

-- ---- all rows
past_row : (grid : GridData) (k : ℕ) (placed : List Placed) (view : ViewData) (i : ℕ) →
    length placed ≤ i → map.get view i ≡ None → IsSeenAt grid k (slice_get placed) view i
past_row grid k placed view i past none p = (
  λ e. absurd (none-some p (sym none ∙ e)),
  λ h. absurd (let within = slice_get_within placed i p h.0 in omega arith),
)

below_or_past : (i n : ℕ) → (i < n) ⊎ (n ≤ i)
below_or_past i n = grind arith

pub sees_all : (grid : GridData) (k : ℕ) (placed : List Placed) (view : ViewData) →
    ((i : ℕ) → i < length placed → IsSeenAt grid k (slice_get placed) view i) →
    ((i : ℕ) → length placed ≤ i → map.get view i ≡ None) → IsViewOf grid k (slice_get placed) view
sees_all grid k placed view seen none i = elim (below_or_past i (length placed)) [
  | inl lt ↦ seen i lt
  | inr past ↦ past_row grid k placed view i past (none i past)
]

-- a row of a number past the last disk
pub unseen_past : (grid : GridData) (k : ℕ) (placed : List Placed) (view : ViewData) (disk : ℕ) (p : Placed) →
    ((i : ℕ) → i < length placed → IsSeenAt grid k (slice_get placed) view i) → length placed ≤ disk →
    map.get view disk ≡ Some p → ((i : ℕ) → length placed ≤ i → i < disk → map.get view i ≡ None) →
    IsUnseenFirst grid k (slice_get placed) view disk
unseen_past grid k placed view disk p seen past is none = (
  λ here. let within = slice_get_within placed disk p ((here p).0 is).0 in omega arith,
  λ i lt. elim (below_or_past i (length placed)) [
    | inl before ↦ seen i before
    | inr after ↦ past_row grid k placed view i after (none i after lt)
  ],
)

-- ---- the whole
-- the local run of a region that there is a body of
pub run_seen : (home : Home) (floor : Stamp) (o : Option Live) (live : Live) (region : RegionData) →
    seen_as home floor o ≡ region → o ≡ Some live → region.run ≡ Some (run_in floor live)
run_seen home floor o live region here is =
    sym (ap (λ (r : RegionData). r.run) here) ∙ ap (option_map (run_in floor)) is

pub not_spent : (run : Local) (region : RegionData) → region.run ≡ Some run → region.run ≢ None
not_spent run region is none = none-some run (sym none ∙ is)

-- what the code's `!=` says of two values that it has
pub differ : {A : Type 0} {x y a b : A} {eq ne : Bool} → x ≡ a → y ≡ b → Decides eq (x ≡ y) → ne ≡ not eq →
    ne ≡ true → a ≢ b
differ here there decides is differs same =
    let found = decides.1 (here ∙ same ∙ sym there) in cc

pub agree : {A : Type 0} {x y a b : A} {eq ne : Bool} → x ≡ a → y ≡ b → Decides eq (x ≡ y) → ne ≡ not eq →
    ne ≡ false → a ≡ b
agree {eq = true} here there decides is same = sym here ∙ decides.0 refl ∙ there
agree {eq = false} here there decides is same = cc

pub stands : (state : CellStateData) (k : ℕ) (run : Local) (region : RegionData) (grid : GridData)
    (placed : List Placed) → region.run ≡ Some run → region.home.number ≡ k →
    region.home.rules ≡ state.rules → region.home.grid ≡ state.grid → region.floor ≡ state.floor →
    grid ≡ state.grid → placed ≡ state.placed → IsViewOf grid k (slice_get placed) run.base →
    StandsOn state k region
stands state k run region grid placed alive number rules grids floor grid_is placed_is base = record {
  run = run;
  alive = alive;
  number = number;
  rules = rules;
  grid = grids;
  floor = floor;
  base = subst (λ (g : GridData). IsViewOf g k (slice_get state.placed) run.base) grid_is
      (subst (λ (ps : List Placed). IsViewOf grid k (slice_get ps) run.base) placed_is base);
}

pub differs_in_row : (state : CellStateData) (k : ℕ) (view : ViewData) (grid : GridData)
    (placed : List Placed) (i : ℕ) → grid ≡ state.grid → placed ≡ state.placed →
    IsUnseenFirst grid k (slice_get placed) view i → DiffersFirstAt state k view i
differs_in_row state k view grid placed i grid_is placed_is unseen =
    let here = subst (λ (g : GridData). IsUnseenFirst g k (slice_get state.placed) view i) grid_is
    (subst (λ (ps : List Placed). IsUnseenFirst grid k (slice_get ps) view i) placed_is unseen) in
    record { here = here.0; before = here.1 }

-- ---- columns
rest_of_row : (start index : ℕ) → start ≤ index → start + (index - start) ≡ index
rest_of_row start index le = omega arith

-- a cell that isn't before the start of a row, nor past its end, is in the column whose number is its distance from the
-- start
pub column_is : (row columns index cell count : ℕ) → index ≡ cell → columns ≡ count → row * columns ≤ index →
    index - row * columns < columns → index - row * columns ≡ cell % count
column_is row columns index cell count same of le lt =
    sym (mod-mul-add row columns (index - row * columns) lt)
    ∙ ap (λ (n : ℕ). n % columns) (rest_of_row (row * columns) index le ∙ same) ∙ ap (λ (n : ℕ). cell % n) of
