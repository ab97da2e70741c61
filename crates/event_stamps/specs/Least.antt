-- The least stamp with a property.
use Rattle.std.specs.Prelude.{◌≡◌, Option, Some, None, if◌then◌else◌, MatchOption}
use Rattle.std.specs.Ordering.{is_lt}
use Rattle.event_stamps.specs.declared.Stamp.{Stamp}
use Rattle.event_stamps.specs.Order.{Before, stamp_cmp}

-- P holds for it, and for none before it
abbrev pub IsLeast : (Stamp → Type 0) → Stamp → Type 0
IsLeast P s = P s × ((t : Stamp) → P t → ¬ Before t s)

-- P holds for no stamp
abbrev pub HasNone : (Stamp → Type 0) → Type 0
HasNone P = (s : Stamp) → ¬ P s

-- the only one for which P holds
abbrev pub IsOnly : (Stamp → Type 0) → Stamp → Type 0
IsOnly P s = P s × ((t : Stamp) → P t → t ≡ s)

-- the least one for which P holds; none if there is none
abbrev pub IsLeastOf : (Stamp → Type 0) → Option Stamp → Type 0
IsLeastOf P found = MatchOption found (HasNone P) (IsLeast P)

-- the earlier of two; of one, that one; none if both are none
abbrev pub earlier_of : Option Stamp → Option Stamp → Option Stamp
earlier_of None b = b
earlier_of (Some s) None = Some s
earlier_of (Some s) (Some t) = if is_lt (stamp_cmp t s) then Some t else Some s
