-- The regions that stand on a cell state, and why others don't.
use Rattle.std.specs.Prelude.{◌≡◌, ◌≢◌, ◌↔◌, ℕ, ◌<◌, Option, Some, None, Result, Ok, Err, slice_get}
use Rattle.std.specs.FinMap as map
use Rattle.cell_grid.specs.Grid.{GridData, Reaches}
use Rattle.region_view.specs.declared.action.Placed.{Placed}
use Rattle.region_view.specs.Placing.{Placing}
use Rattle.region_view.specs.Views.{ViewData, IsViewOf}
use Rattle.cell_sequence.specs.State.{CellStateData}
use Rattle.local_run.specs.declared.answers.Differs.{Differs}
use Rattle.local_run.specs.declared.answers.Differs.TheVariants.{Spent, Number, Rules, Grid, Floor, Row}
use Rattle.local_run.specs.LocalRun.{Local}
use Rattle.local_run.specs.Opening.{RegionData}

-- it isn't spent, it is the region of this number with the state's rules and grid, its floor is the state's, and it
-- begins in its view of the state
pub record StandsOn (state : CellStateData) (k : ℕ) (region : RegionData) : Type 0 where
  pub run : Local
  pub alive : region.run ≡ Some run
  pub number : region.home.number ≡ k
  pub rules : region.home.rules ≡ state.rules
  pub grid : region.home.grid ≡ state.grid
  pub floor : region.floor ≡ state.floor
  pub base : IsViewOf state.grid k (slice_get state.placed) run.base

-- this is exactly what the region sees of a row
abbrev pub SeesRow : GridData → ℕ → Option Placed → Option Placed → Type 0
SeesRow grid k row found = (p : Placed) → (found ≡ Some p) ↔ ((row ≡ Some p) × Reaches grid k p.cell)

-- at a number, the view has exactly what the region sees of the state
abbrev pub IsSeenAt : GridData → ℕ → Placing → ViewData → ℕ → Type 0
IsSeenAt grid k at view i = SeesRow grid k (at i) (map.get view i)

-- the least number at which it doesn't, for placed disks
abbrev pub IsUnseenFirst : GridData → ℕ → Placing → ViewData → ℕ → Type 0
IsUnseenFirst grid k at view i = (¬ IsSeenAt grid k at view i)
    × ((j : ℕ) → j < i → IsSeenAt grid k at view j)

-- the least number at which it doesn't
pub record DiffersFirstAt (state : CellStateData) (k : ℕ) (view : ViewData) (i : ℕ) : Type 0 where
  pub here : ¬ IsSeenAt state.grid k (slice_get state.placed) view i
  pub before : (j : ℕ) → j < i → IsSeenAt state.grid k (slice_get state.placed) view j

-- the first of these in which it differs: it is spent, its number, rules, grid or floor, or its first view
abbrev pub DiffersBy : CellStateData → ℕ → RegionData → Differs → Type 0
DiffersBy state k region Spent = region.run ≡ None
DiffersBy state k region (Number kept given) = (region.run ≢ None)
    × (kept ≡ k) × (given ≡ region.home.number) × (kept ≢ given)
DiffersBy state k region Rules = (region.run ≢ None) × (region.home.number ≡ k)
    × (region.home.rules ≢ state.rules)
DiffersBy state k region Grid = (region.run ≢ None) × (region.home.number ≡ k)
    × (region.home.rules ≡ state.rules) × (region.home.grid ≢ state.grid)
DiffersBy state k region (Floor kept given) = (region.run ≢ None) × (region.home.number ≡ k)
    × (region.home.rules ≡ state.rules) × (region.home.grid ≡ state.grid)
    × (kept ≡ state.floor) × (given ≡ region.floor) × (kept ≢ given)
DiffersBy state k region (Row i) = (region.home.number ≡ k)
    × (region.home.rules ≡ state.rules) × (region.home.grid ≡ state.grid)
    × (region.floor ≡ state.floor)
    × ((run : Local) × (region.run ≡ Some run) × DiffersFirstAt state k run.base i)

-- whether it stands on the state with this number, or the first thing in which it differs
abbrev pub TellsStanding : CellStateData → ℕ → RegionData → Result (Unit {0}) Differs → Type 0
TellsStanding state k region (Ok _) = StandsOn state k region
TellsStanding state k region (Err differs) = DiffersBy state k region differs
