-- Views by position.
use Rattle.std.specs.Prelude.{◌≡◌, ℕ, ◌<◌, List, [], ◌∷◌, ◌++◌, ⊤, nat_le, if◌then◌else◌}
use Rattle.std.specs.FinMap as map
use Rattle.region_view.specs.Views.{ViewData}
use Rattle.region_view.specs.Setting.{RowList, set_rows}

-- the state of a region after each number of steps that is kept, in the order of the numbers
abbrev pub SavedData : Type 0
SavedData = List (ℕ × ViewData)

-- positions rise strictly, all after one
abbrev pub PositionsRiseAfter : ℕ → SavedData → Type 0
PositionsRiseAfter n [] = ⊤
PositionsRiseAfter n (pair ∷ pairs) = (n < pair.0) × PositionsRiseAfter pair.0 pairs

-- there is a first pair, and positions rise strictly
abbrev pub AreSaved : SavedData → Type 0
AreSaved [] = ⊥
AreSaved (pair ∷ pairs) = PositionsRiseAfter pair.0 pairs

-- the first position; if there are no pairs, 0
abbrev pub first_position : SavedData → ℕ
first_position [] = 0
first_position (pair ∷ pairs) = pair.0

-- the first view; if there are no pairs, one without rows
abbrev pub first_saved : SavedData → ViewData
first_saved [] = map.empty
first_saved (pair ∷ pairs) = pair.1

-- the last pair, or the one given if there are no others
abbrev pub last_pair : ℕ × ViewData → SavedData → ℕ × ViewData
last_pair pair [] = pair
last_pair pair (next ∷ pairs) = last_pair next pairs

-- the last pair is this one
abbrev pub EndsWith : SavedData → ℕ × ViewData → Type 0
EndsWith [] pair = ⊥
EndsWith (first ∷ pairs) pair = pair ≡ last_pair first pairs

-- a position is after the last one
abbrev pub IsAfterLast : SavedData → ℕ → Type 0
IsAfterLast [] position = ⊤
IsAfterLast (first ∷ pairs) position = (last_pair first pairs).0 < position

-- one pair more: at this position, the last view with the rows set
abbrev pub Appends : SavedData → SavedData → ℕ → RowList → Type 0
Appends old new position rows = (last : ℕ × ViewData) × EndsWith old last
    × (new ≡ old ++ (position, set_rows last.1 rows) ∷ [])

-- those of a list whose positions aren't greater than one
abbrev pub up_to : ℕ → SavedData → SavedData
up_to position [] = []
up_to position (pair ∷ pairs) = if nat_le pair.0 position then pair ∷ up_to position pairs else []

-- the same, but for the first, which is kept
abbrev pub dropped_after : ℕ → SavedData → SavedData
dropped_after position [] = []
dropped_after position (pair ∷ pairs) = pair ∷ up_to position pairs

-- from the pair of the greatest position on that isn't greater than one
abbrev pub dropped_before : ℕ → SavedData → SavedData
dropped_before position [] = []
dropped_before position (pair ∷ []) = pair ∷ []
dropped_before position (pair ∷ next ∷ pairs) =
    if nat_le next.0 position then dropped_before position (next ∷ pairs) else pair ∷ next ∷ pairs
