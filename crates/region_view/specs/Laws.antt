-- What a region knows of the events of its own columns.
use Rattle.std.specs.Prelude.{◌≡◌, ◌↔◌, ℕ, [], ◌∷◌, ⊤, Some, IfSome, MatchOption, Result, Ok}
use Rattle.std.specs.FinMap as map
use Rattle.fixed_motion.specs.declared.rules.Rules.{Rules}
use Rattle.event_stamps.specs.declared.Stamp.{Stamp}
use Rattle.event_rules.specs.declared.change.Limit.{Limit}
use Rattle.fixed_motion.specs.Rules.{IsChecked}
use Rattle.cell_grid.specs.Grid.{GridData, HasSizes, IsGridOf, IsRegion, IsCell, Reaches}
use Rattle.region_view.specs.declared.action.Placed.{Placed}
use Rattle.region_view.specs.declared.action.Action.{Action}
use Rattle.region_view.specs.Placing.{Placing, IsCellCandidate, IsHome, IsNative, IsValidPlacing}
use Rattle.region_view.specs.Acting.{stamp_of, ActsAs}
use Rattle.region_view.specs.Views.{ViewData, rows_in, IsViewOf}
use Rattle.region_view.specs.Setting.{RowList, AreRows, set_rows, rows_at, rows_set, get_over}
use Rattle.region_view.specs.Setting.{put_over, AreValidRows, IsInOrder}
use Rattle.region_view.specs.declared.rows.Message.{Message}
use Rattle.region_view.specs.Messages.{RecordsCell, message_of}

-- all recorded cells are cells of the grid
abbrev pub HasCells : GridData → Placing → Type 0
HasCells grid at = (i : ℕ) (p : Placed) → at i ≡ Some p → IsCell grid p.cell

-- each event has one home
abbrev pub EachEventHasOneHome : Type 0
EachEventHasOneHome = (rules : Rules) (grid : GridData) (at : Placing) (s : Stamp) → HasSizes grid →
    HasCells grid at → IsCellCandidate rules grid at s →
    (k : ℕ) × IsRegion grid k × IsHome grid at k s
    × ((j : ℕ) → IsRegion grid j → IsHome grid at j s → j ≡ k)

-- the native candidates of a region in its view are the events of the state whose home it is
abbrev pub NativesAreHome : Type 0
NativesAreHome = (rules : Rules) (grid : GridData) (k : ℕ) (at : Placing) (view : ViewData)
    (s : Stamp) → HasSizes grid → IsRegion grid k → HasCells grid at →
    IsViewOf grid k at view →
    (IsNative rules grid k (rows_in view) s ↔
    (IsCellCandidate rules grid at s × IsHome grid at k s))

-- they do the same in the view as in the state
abbrev pub NativesActAlike : Type 0
NativesActAlike = (rules : Rules) (grid : GridData) (k : ℕ) (at : Placing) (view : ViewData) (s : Stamp)
    (r : Result Action Limit) → HasSizes grid →
    IsRegion grid k → HasCells grid at → IsViewOf grid k at view → IsCellCandidate rules grid at s →
    IsHome grid at k s →
    (ActsAs rules grid (rows_in view) s r ↔ ActsAs rules grid at s r)

-- ---- rows that are set
-- looking up after rows are set is looking up with the rows put over
abbrev pub SetRowsArePutOver : Type 0
SetRowsArePutOver = (view : ViewData) (rows : RowList) (i : ℕ) →
    map.get (set_rows view rows) i ≡ get_over rows i (map.get view i)

-- setting some rows is undone by setting what stood at their numbers before
abbrev pub SwapIsUndone : Type 0
SwapIsUndone = (view : ViewData) (rows : RowList) →
    set_rows (set_rows view rows) (rows_at (rows_in view) rows) ≡ view

-- valid rows leave a valid view valid
abbrev pub SettingKeepsValid : Type 0
SettingKeepsValid = (rules : Rules) (grid : GridData) (view : ViewData) (rows : RowList) →
    IsValidPlacing rules grid (rows_in view) → AreValidRows rules grid rows →
    IsValidPlacing rules grid (rows_in (set_rows view rows))

-- ---- the results of events
-- the rows of an action are at most two, the lesser number first
abbrev pub ActionsHaveRows : Type 0
ActionsHaveRows = (at : Placing) (x : Action) → IsInOrder x → AreRows (rows_set at x)

-- an action of this stamp that sets valid rows
pub record IsValidAction (rules : Rules) (grid : GridData) (at : Placing) (s : Stamp)
    (x : Action) : Type 0 where
  pub stamp : stamp_of x ≡ s
  pub order : IsInOrder x
  pub cell : RecordsCell grid x
  pub rows : AreValidRows rules grid (rows_set at x)

-- the result of an event of a valid placing is valid, also if disks overlap
abbrev pub ActionsAreValid : Type 0
ActionsAreValid = (rules : Rules) (grid : GridData) (at : Placing) (s : Stamp) (x : Action) →
    IsChecked rules → IsGridOf rules grid → IsValidPlacing rules grid at →
    IsCellCandidate rules grid at s → ActsAs rules grid at s (Ok x) → IsValidAction rules grid at s x

-- ---- what is told
-- a message of this action: its rows are in order, and they are valid if those of the action are
pub record IsFaithful (rules : Rules) (grid : GridData) (at : Placing) (x : Action)
    (m : Message) : Type 0 where
  pub stamp : m.stamp ≡ stamp_of x
  pub order : IsInOrder x → AreRows m.rows
  pub valid : AreValidRows rules grid (rows_set at x) → AreValidRows rules grid m.rows

-- each message of an action is faithful to it
abbrev pub MessagesAreFaithful : Type 0
MessagesAreFaithful = (rules : Rules) (grid : GridData) (q : ℕ) (at : Placing) (x : Action)
    (m : Message) → message_of grid q at x ≡ Some m → IsFaithful rules grid at x m

-- the region reaches the cells of these rows
abbrev pub AreInReach : GridData → ℕ → RowList → Type 0
AreInReach grid region [] = ⊤
AreInReach grid region (r ∷ rows) =
    IfSome r.1 (λ p. Reaches grid region p.cell) × AreInReach grid region rows

-- rows that a region reaches, set in its view of a state, make its view of the state with these rows
abbrev pub HomeSees : Type 0
HomeSees = (grid : GridData) (k : ℕ) (at : Placing) (view : ViewData) (rows : RowList) →
    IsViewOf grid k at view → AreInReach grid k rows →
    IsViewOf grid k (put_over at rows) (set_rows view rows)

-- so do the rows that it is told, and if it is told nothing its view stays right
abbrev pub ToldSees : Type 0
ToldSees = (grid : GridData) (q : ℕ) (at : Placing) (view : ViewData) (x : Action) →
    IsViewOf grid q at view → IsInOrder x →
    MatchOption (message_of grid q at x) (IsViewOf grid q (put_over at (rows_set at x)) view)
    (λ m. IsViewOf grid q (put_over at (rows_set at x)) (set_rows view m.rows))
