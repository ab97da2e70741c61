-- Placed disks in an array by number.
use Rattle.std.specs.Prelude.{ℕ, ◌+◌, ◌^◌, ◌<◌, ◌≤◌, List, [], ◌∷◌, length, slice_index_or, slice_set, Option, Some, None, IfSome}
use Rattle.std.specs.FinMap as map
use Rattle.region_view.specs.declared.action.Placed.{Placed}
use Rattle.region_view.specs.Compact.{IsSmallRow}
use Rattle.region_view.specs.Views.{ViewData}

-- what stands at each number, up to some number
abbrev pub SlotList : Type 0
SlotList = List (Option Placed)

-- the numbers fit 32 bits
pub record AreFew (rows : SlotList) : Type 0 where
  pub few : length rows ≤ 2 ^ 32

-- what stands at a number; past the end nothing does
abbrev pub slot_at : SlotList → ℕ → Option Placed
slot_at slots i = slice_index_or slots i None

-- a row may stand at the number
pub record TakesRow (slots : SlotList) (i : ℕ) (p : Placed) : Type 0 where
  pub within : i < length slots
  pub small : IsSmallRow p

-- what may be set at the number; if nothing stands there, no room is needed
abbrev pub MaySet : SlotList → ℕ → Option Placed → Type 0
MaySet slots i row = IfSome row (TakesRow slots i)

-- the slots with this at a number
abbrev pub set_slot : SlotList → ℕ → Option Placed → SlotList
set_slot slots i row = slice_set slots i row

-- the disks with their numbers; the first slot is that of number n
abbrev pub numbered_rows : ℕ → SlotList → List (ℕ × Placed)
numbered_rows n [] = []
numbered_rows n (None ∷ rows) = numbered_rows (n + 1) rows
numbered_rows n (Some p ∷ rows) = (n, p) ∷ numbered_rows (n + 1) rows

-- the placed disks by number
abbrev pub placed_in : SlotList → ViewData
placed_in slots = map.from_entries (numbered_rows 0 slots)
