-- How entries are kept: heads, narrow rows, and entries kept whole.
use Rattle.std.specs.Prelude.{◌≡◌, ℕ, zero, suc, ◌+◌, ◌-◌, ◌<◌, ◌≤◌, List, [], ◌∷◌, ⊤, pos, map, length, slice_index_or, Option, Some, None}
use Rattle.fixed_motion.specs.declared.disk.Disk.{Disk}
use Rattle.event_stamps.specs.declared.Stamp.{Stamp}
use Rattle.event_stamps.specs.Order.{first_stamp}
use Rattle.region_view.specs.declared.action.Placed.{Placed}
use Rattle.region_view.specs.declared.action.Action.TheVariants.{Cross, Hit}
use Rattle.region_view.specs.Setting.{RowList}
use Rattle.local_run.specs.declared.entry.Entry.{Entry}
use Rattle.local_run.specs.declared.entry.Entry.TheVariants.{Native}
use Rattle.local_run.specs.declared.entry.TheConstants.{MAX_ENTRIES}
use Rattle.event_log.specs.declared.heads.Head.{Head}
use Rattle.event_log.specs.declared.heads.Form.{Form}
use Rattle.event_log.specs.declared.heads.Form.TheVariants.{Crossing, Single, Double, Whole}
use Rattle.event_log.specs.Logged.{Logged, logged_stamp}

-- ---- places
-- how many narrow rows an entry has
abbrev pub row_count : Form → ℕ
row_count Crossing = 1
row_count Single = 2
row_count Double = 4
row_count Whole = 0

-- 1 if the entry is kept whole, else 0
abbrev pub whole_count : Form → ℕ
whole_count Crossing = 0
whole_count Single = 0
whole_count Double = 0
whole_count Whole = 1

-- the place of the first narrow row of a head's entry
abbrev pub row_place : Head → ℕ
row_place h = h.row

-- the place of a head's entry among those kept whole, if it is one of them
abbrev pub whole_place : Head → ℕ
whole_place h = h.whole

-- how many narrow rows a head's entry has
abbrev pub row_size : Head → ℕ
row_size h = row_count h.form

-- 1 if a head's entry is kept whole, else 0
abbrev pub whole_size : Head → ℕ
whole_size h = whole_count h.form

-- the heads cut the places from one to another into pieces, in their order
abbrev pub AreCut : (Head → ℕ) → (Head → ℕ) → ℕ → List Head → ℕ → Type 0
AreCut place size start [] end = start ≡ end
AreCut place size start (h ∷ hs) end = (place h ≡ start) × AreCut place size (start + size h) hs end

-- where the piece of a head begins; past the last one, where all pieces end
abbrev pub edge_of : (Head → ℕ) → ℕ → List Head → ℕ → ℕ
edge_of place end [] n = end
edge_of place end (h ∷ hs) zero = place h
edge_of place end (h ∷ hs) (suc n) = edge_of place end hs n

-- the head once there is one more entry before it that is kept whole
abbrev pub raised_head : Head → Head
raised_head h = record {
  stamp = h.stamp;
  cell = h.cell;
  row = h.row;
  whole = h.whole + 1;
  form = h.form;
}

-- the head once this many narrow rows and entries kept whole before it are gone
abbrev pub lowered : ℕ → ℕ → Head → Head
lowered rows wholes h = record {
  stamp = h.stamp;
  cell = h.cell;
  row = h.row - rows;
  whole = h.whole - wholes;
  form = h.form;
}

-- ---- what is read
-- the record in a row; if there is none, one of zeros
abbrev pub disk_or : Option Placed → Disk
disk_or None = record {
  x = pos 0;
  y = pos 0;
  vx = pos 0;
  vy = pos 0;
  size = pos 0;
  base = 0;
  mark = 0;
}
disk_or (Some p) = p.disk

-- what stands in the narrow rows
abbrev pub NarrowList : Type 0
NarrowList = List (Option Placed)

-- what stands in a narrow row; past the end nothing does
abbrev pub row_at : NarrowList → ℕ → Option Placed
row_at rows i = slice_index_or rows i None

-- the record in a narrow row; if there is none, one of zeros
abbrev pub disk_at : NarrowList → ℕ → Disk
disk_at rows i = disk_or (row_at rows i)

-- what is read past the end of the entries kept whole
abbrev pub no_whole : Logged
no_whole = (Native (Cross first_stamp 0), [])

-- an entry kept whole, by its place
abbrev pub whole_at : List Logged → ℕ → Logged
whole_at wholes i = slice_index_or wholes i no_whole

-- the entry of a head that is kept in a form
abbrev pub entry_as : NarrowList → List Logged → Head → Form → Entry
entry_as rows wholes h Crossing = Native (Cross h.stamp h.cell)
entry_as rows wholes h Single = Native (Hit (record {
  stamp = h.stamp;
  first = disk_at rows (h.row + 1);
  second = None;
}))
entry_as rows wholes h Double = Native (Hit (record {
  stamp = h.stamp;
  first = disk_at rows (h.row + 2);
  second = Some (disk_at rows (h.row + 3));
}))
entry_as rows wholes h Whole = (whole_at wholes h.whole).0

-- the rows that lead back over it
abbrev pub back_as : NarrowList → List Logged → Head → Form → RowList
back_as rows wholes h Crossing = (h.stamp.first, row_at rows h.row) ∷ []
back_as rows wholes h Single = (h.stamp.first, row_at rows h.row) ∷ []
back_as rows wholes h Double =
    (h.stamp.first, row_at rows h.row) ∷ (h.stamp.second, row_at rows (h.row + 1)) ∷ []
back_as rows wholes h Whole = (whole_at wholes h.whole).1

-- the entry of a head, and the rows that lead back over it
abbrev pub logged : NarrowList → List Logged → Head → Logged
logged rows wholes h = (entry_as rows wholes h h.form, back_as rows wholes h h.form)

-- the whole log
abbrev pub log_of : NarrowList → List Logged → List Head → List Logged
log_of rows wholes heads = map (logged rows wholes) heads

-- ---- what holds of them
-- the disks of a pair are in order
abbrev pub IsOrdered : Stamp → Form → Type 0
IsOrdered s Crossing = ⊤
IsOrdered s Single = ⊤
IsOrdered s Double = s.first < s.second
IsOrdered s Whole = ⊤

-- the same for each head
abbrev pub AreHeadsOrdered : List Head → Type 0
AreHeadsOrdered [] = ⊤
AreHeadsOrdered (h ∷ hs) = IsOrdered h.stamp h.form × AreHeadsOrdered hs

-- heads with their rows and the entries kept whole
pub record AreLaid (rows : NarrowList) (wholes : List Logged) (heads : List Head) : Type 0 where
  -- the narrow rows are in the order of the entries, and so are the entries kept whole
  pub row_cut : AreCut row_place row_size 0 heads (length rows)
  pub whole_cut : AreCut whole_place whole_size 0 heads (length wholes)
  -- each stamp is that of the entry
  pub stamps : map (λ h. h.stamp) heads ≡ map logged_stamp (log_of rows wholes heads)
  pub order : AreHeadsOrdered heads
  pub few : length heads ≤ MAX_ENTRIES
