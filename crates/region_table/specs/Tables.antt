-- What contracts see of the table and its seats, and what their calls do to them.
use Rattle.std.specs.Prelude.{◌≡◌, ℕ, ◌+◌, ◌<◌, ◌≤◌, ◌^◌, List, [], length, map, slice_get, slice_index, Some, None, IfSome, All, true, eqb, refl}
use Rattle.std.specs.List.{IsDistinct}
use Rattle.std.specs.Coded.{Coded, code_by, coded×, coded_list}
use Rattle.atomic_table.specs.Seated.{TableId, table_id_coded}
use Rattle.atomic_table.specs.Table.{State, Me}
use mathlib.Core.Option.{some}
use lib.ListN.{get_elem?}
use Rattle.local_run.specs.Opening.{RegionData, spent}
use Rattle.local_run.specs.Bursts.{IsAtPlace}
use Rattle.fixed_motion.specs.declared.rules.Rules.{Rules}
use Rattle.fixed_motion.specs.Rules.{IsChecked}
use Rattle.event_stamps.specs.declared.Stamp.{Stamp}
use Rattle.event_stamps.specs.Order.{Before, end_stamp}
use Rattle.cell_grid.specs.declared.grid.TheConstants.{MAX_REGIONS}
use Rattle.cell_grid.specs.Grid.{GridData, IsGridOf}
use Rattle.local_run.specs.Codes.{region_code}
use Rattle.region_table.specs.declared.rule.Hold.{Hold}
use Rattle.region_table.specs.declared.rule.Note.{Note}
use Rattle.region_table.specs.declared.rule.TableView.{TableView}
use Rattle.region_table.specs.contracts.rule.TableView as view
use Rattle.region_table.specs.declared.take_out.TakeOut.{TakeOut}
use Rattle.region_table.specs.declared.take_out.TakeOut.TheVariants.{Out, Away, Worn}
use Rattle.region_table.specs.Bases.{MayLieIn, count_of, CountsAsOpened}
use Rattle.region_table.specs.Rule.{Content, IsHomeWord, version_of, last_version, slots_of, first_view, is_noted, seeing, holding, putting, TellsAll, Kept, IsFoundAtHome, IsNotBeforeKnown}

-- which table it is, and what it was opened with
pub record RegionTableData : Type 0 where
  pub id : TableId
  pub opened : List RegionData

-- whose seat it is, and what it knows
pub record SeatData : Type 0 where
  pub table : TableId
  pub view : TableView

-- a table is stored as its two parts
abbrev pub table_code : Coded RegionTableData
table_code = code_by (TableId × List RegionData) (coded× table_id_coded (coded_list region_code))
    (λ t. (t.id, t.opened)) (λ p. record { id = p.0; opened = p.1 }) (λ _. refl)

-- a seat is stored as its two parts
abbrev pub seat_code : Coded SeatData
seat_code = code_by (TableId × TableView) (coded× table_id_coded view.the_row.coded)
    (λ s. (s.table, s.view)) (λ p. record { table = p.0; view = p.1 }) (λ _. refl)

-- the seat is of this table
pub record IsSeatOf (table : RegionTableData) (seat : SeatData) : Type 0 where
  pub table_is : seat.table ≡ table.id
  pub opened : seat.view.opened ≡ table.opened

-- the seat is of this table, and holds no slot
abbrev pub IsIdleSeat : RegionTableData → SeatData → Type 0
IsIdleSeat table seat = IsSeatOf table seat × (slots_of seat.view.held ≡ [])

-- the seat of a table that was just opened
abbrev pub first_seat : RegionTableData → SeatData
first_seat table = record { table = table.id; view = first_view table.opened }

-- the seat with another view
abbrev pub with_view : SeatData → TableView → SeatData
with_view seat v = record { table = seat.table; view = v }

-- ---- what the table keeps
-- a slot and a word for each region that it was opened with, which are those of one grid
pub record IsKeptTable (id : TableId) (opened : List RegionData) (rules : Rules) (grid : GridData) (floor : Stamp) : Type 0 where
  pub words : id.words ≡ length opened
  pub slots : id.slots ≡ length opened
  pub count : length opened ≡ grid.regions
  pub some : 0 < length opened
  pub most : length opened ≤ MAX_REGIONS
  pub each : (k : ℕ) (region : RegionData) → slice_get opened k ≡ Some region → IsAtPlace rules grid floor k region
  pub checked : IsChecked rules
  pub of_rules : IsGridOf rules grid
  pub in_time : ¬ Before (end_stamp rules.end) floor

-- ---- what a seat keeps
-- slot k with nothing in it
abbrev pub emptied : ℕ → ℕ × Content
emptied k = (k, None)

-- it carries the slots that its view names as held, in this order, each emptied, and can put all of them back
pub record IsKeptSeat (me : Me Content TableView) (order : List ℕ) : Type 0 where
  pub carried : me.1 ≡ map emptied order
  pub held : slots_of me.0.held ≡ order
  pub distinct : IsDistinct eqb order
  pub fresh : All (λ (h : Hold). h.version < last_version) me.0.held
  pub few : All (λ (k : ℕ). k < MAX_REGIONS) order

-- ---- what the calls do to a seat
-- the answer, given the word that was found
abbrev pub AnswersTo : SeatData → ℕ → ℕ → TakeOut → SeatData → Type 0
AnswersTo old k word (Out region) new = IsHomeWord word × (version_of word < last_version)
    × (new ≡ with_view old (holding old.view k word)) × IsFoundAtHome old.view k word region
AnswersTo old k word Away new = (¬ IsHomeWord word) × (new ≡ with_view old (seeing old.view k word))
AnswersTo old k word Worn new = IsHomeWord word × (version_of word ≡ last_version)
    × (new ≡ with_view old (seeing old.view k word))

-- the seat found a word in slot k, not before what it knew, and answers by it
pub record TakesOut (old : SeatData) (k : ℕ) (answer : TakeOut) (new : SeatData) : Type 0 where
  pub word : ℕ
  pub fits : word < 2 ^ 64
  pub later : IsNotBeforeKnown old.view k word
  pub answers : AnswersTo old k word answer new

-- the seat puts the region back into slot k, one version after the one at which it took it
pub record PutsBack (old : SeatData) (k : ℕ) (region : RegionData) (new : SeatData) : Type 0 where
  pub version : ℕ
  pub took : All (λ (h : Hold). h.slot ≡ k → h.version ≡ version) old.view.held
  pub puts : new ≡ with_view old (putting old.view k (version + 1) (count_of region))

-- a spent region with this number
abbrev pub spent_at : ℕ → Rules → GridData → Stamp → RegionData
spent_at k rules grid floor = record { home = record { number = k; rules = rules; grid = grid }; floor = floor; run = None }

-- what is given back for slot k, by its word and what it holds
abbrev pub ComesOfSlot : List ℕ → List Content → Rules → GridData → Stamp → ℕ → RegionData → Type 0
ComesOfSlot words contents rules grid floor k region = (word : ℕ) (content : Content) → get_elem? words k ≡ some word → get_elem? contents k ≡ some content
    → (IsHomeWord word → IfSome content (λ (found : RegionData). region ≡ found))
    × ((¬ IsHomeWord word) → region ≡ spent_at k rules grid floor)

-- what is found in slot k of a table that is closed: the region that was at home, or a spent one in its place
pub record ClosesAt (opened : List RegionData) (s : State Content TableView) (k : ℕ) (region : RegionData) : Type 0 where
  pub home : IsHomeWord (slice_index s.words k) → get_elem? s.homes k ≡ some (some (Some region))
  pub out : ¬ IsHomeWord (slice_index s.words k) → (first : RegionData) → slice_get opened k ≡ Some first → region ≡ spent first

-- what a seat's own puts left in slot k: the number of entries that it noted last, or the one at opening
pub record IsLeft (opened : List RegionData) (v : TableView) (k : ℕ) (region : RegionData) : Type 0 where
  pub version : ℕ
  pub lies : MayLieIn opened k region
  pub at_first : version ≡ 0 → CountsAsOpened opened k region
  pub last : 0 < version → is_noted k version v.notes ≡ true
  pub latest : All (λ (n : Note). n.slot ≡ k → n.version ≤ version) v.notes
  pub noted : TellsAll k version region v

-- the same for each of the regions
abbrev pub AreLeft : List RegionData → TableView → List RegionData → Type 0
AreLeft opened v regions = (k : ℕ) (region : RegionData) → slice_get regions k ≡ Some region → IsLeft opened v k region

-- the regions come from a state in the rule, in which the seat stands
pub record Closes (table : RegionTableData) (seat : SeatData) (regions : List RegionData) : Type 0 where
  pub state : State Content TableView
  pub kept : Kept table.opened state
  pub seen : (id : ℕ) × (get_elem? state.views id ≡ some seat.view)
  pub count : length regions ≡ length table.opened
  pub each : (k : ℕ) (region : RegionData) → slice_get regions k ≡ Some region → ClosesAt table.opened state k region
