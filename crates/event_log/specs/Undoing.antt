-- The view before a log, from the view after it.
use Rattle.std.specs.Prelude.{◌≡◌, ℕ, ◌-◌, List, [], ◌∷◌, ◌++◌, ⊤, take, drop, length, slice_get, Option, Some, None, IfSome, unwrap_or, true, false, if◌then◌else◌}
use Rattle.std.specs.FinMap as map
use Rattle.region_view.specs.declared.action.Placed.{Placed}
use Rattle.region_view.specs.declared.action.Action.TheVariants.{Cross, Hit}
use Rattle.region_view.specs.declared.rows.Message.{Message}
use Rattle.region_view.specs.Views.{ViewData, rows_in}
use Rattle.region_view.specs.Setting.{RowList, set_rows, rows_at, rows_set, get_over}
use Rattle.local_run.specs.declared.entry.Entry.{Entry}
use Rattle.local_run.specs.declared.entry.Entry.TheVariants.{Native, Heard}
use Rattle.event_log.specs.Logged.{Logged, backs_in, sets}

-- ---- forth
-- the rows that an entry sets in a view
abbrev pub rows_by : ViewData → Entry → RowList
rows_by view (Native action) = rows_set (rows_in view) action
rows_by view (Heard q m) = m.rows

-- the view after an entry
abbrev pub view_with : ViewData → Logged → ViewData
view_with view l = set_rows view (rows_by view l.0)

-- the view after a log
abbrev pub view_after : ViewData → List Logged → ViewData
view_after view [] = view
view_after view (l ∷ log) = view_after (view_with view l) log

-- beside each entry are the rows that stood at the numbers of the rows that it sets
abbrev pub LeadBack : ViewData → List Logged → Type 0
LeadBack view [] = ⊤
LeadBack view (l ∷ log) = (l.1 ≡ rows_at (rows_in view) (rows_by view l.0)) × LeadBack (view_with view l) log

-- ---- back
-- the view once the rows are set that lead back, those of the last entry first
abbrev pub undone : ViewData → List RowList → ViewData
undone view [] = view
undone view (back ∷ backs) = set_rows (undone view backs) back

-- the rows that lead back over the last entry
abbrev pub last_back : List Logged → RowList
last_back log = unwrap_or (slice_get (backs_in log) (length log - 1)) []

-- what the first entry that sets a disk found there; none if no entry sets it
abbrev pub first_found : ℕ → List RowList → Option (Option Placed)
first_found disk [] = None
first_found disk (back ∷ backs) = if sets disk back then Some (get_over back disk None) else first_found disk backs

-- ---- late messages
-- an entry sets no disk of these rows, and sets the same rows if these are set before
pub record IsAside (rows : RowList) (view : ViewData) (e : Entry) : Type 0 where
  pub same : rows_by (set_rows view rows) e ≡ rows_by view e
  pub apart : (disk : ℕ) → sets disk rows ≡ true → sets disk (rows_by view e) ≡ false

-- each entry of a log is aside, in the view before it
abbrev pub LoggedAreAside : RowList → ViewData → List Logged → Type 0
LoggedAreAside rows view [] = ⊤
LoggedAreAside rows view (l ∷ log) = IsAside rows view l.0 × LoggedAreAside rows (view_with view l) log

-- none of these rows is of a disk that an entry names or whose row it sets
abbrev pub Spares : RowList → Entry → Type 0
Spares rows (Native (Cross s cell)) = sets s.first rows ≡ false
Spares rows (Native (Hit change)) = (sets change.stamp.first rows ≡ false)
    × IfSome change.second (λ _. sets change.stamp.second rows ≡ false)
Spares rows (Heard q m) = (disk : ℕ) → sets disk rows ≡ true → sets disk m.rows ≡ false

-- suppose that a message is put before such entries, with what stands in the newest view at the numbers of its rows:
-- its rows lead back, and so do all the others, and the newest view gets the rows of the message
pub record IsWovenIn (base : ViewData) (before after : List Logged) (q : ℕ) (m : Message) : Type 0 where
  pub back : LeadBack base (before ++ (Heard q m, rows_at (rows_in (view_after base (before ++ after))) m.rows) ∷ after)
  pub newest : view_after base (before ++ (Heard q m, rows_at (rows_in (view_after base (before ++ after))) m.rows) ∷ after)
      ≡ set_rows (view_after base (before ++ after)) m.rows

-- ---- laws
-- an entry that is pushed with what stood there leads back; what stays of the first entries does too, and what stays of
-- the last ones does from a later base view
pub record StillLead (base : ViewData) (log : List Logged) : Type 0 where
  pub pushed : (e : Entry) →
      LeadBack base (log ++ (e, rows_at (rows_in (view_after base log)) (rows_by (view_after base log) e)) ∷ [])
  pub taken : (n : ℕ) → LeadBack base (take n log)
  pub rest : (n : ℕ) → LeadBack (view_after base (take n log)) (drop n log)

-- a log that leads back still does so in this way
abbrev pub ChangesLeadBack : Type 0
ChangesLeadBack = (base : ViewData) (log : List Logged) → LeadBack base log → StillLead base log

-- an entry that spares the rows is aside, in any view
abbrev pub SparingIsAside : Type 0
SparingIsAside = (rows : RowList) (view : ViewData) (e : Entry) → Spares rows e → IsAside rows view e

-- if the entries after a place are aside, a message is woven in there in this way
abbrev pub WovenLeadsBack : Type 0
WovenLeadsBack = (base : ViewData) (before after : List Logged) (q : ℕ) (m : Message) →
    LeadBack base (before ++ after) → LoggedAreAside m.rows (view_after base before) after →
    IsWovenIn base before after q m

-- the base view is the newest one with all entries undone
abbrev pub BaseIsUndone : Type 0
BaseIsUndone = (base : ViewData) (log : List Logged) → LeadBack base log →
    undone (view_after base log) (backs_in log) ≡ base

-- a row of the base view is the one that the first entry setting its disk found, or that of the newest view if no entry
-- sets it
abbrev pub FirstsAreFound : Type 0
FirstsAreFound = (newest : ViewData) (backs : List RowList) (disk : ℕ) →
    map.get (undone newest backs) disk ≡ unwrap_or (first_found disk backs) (map.get newest disk)
