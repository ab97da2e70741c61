-- Lists of items with stamps, in the order of the stamps.
use Rattle.std.specs.Prelude.{◌≡◌, ◌⊎◌, List, [], ◌∷◌, ⊤, Bool, if◌then◌else◌}
use Rattle.std.specs.Ordering.{is_lt}
use Rattle.event_stamps.specs.declared.Stamp.{Stamp}
use Rattle.event_stamps.specs.Order.{Before, stamp_cmp}

-- whether the first stamp comes before the second
abbrev pub is_before : Stamp → Stamp → Bool
is_before s t = is_lt (stamp_cmp s t)

-- the item is in the list
abbrev pub IsAmong : {A : Type 0} → A → List A → Type 0
IsAmong x [] = ⊥
IsAmong x (y ∷ ys) = (x ≡ y) ⊎ IsAmong x ys

-- ---- stamps that rise; `key` gives the stamp of an item
-- they rise strictly, all after one
abbrev pub KeysRiseAfter : {A : Type 0} → (A → Stamp) → Stamp → List A → Type 0
KeysRiseAfter key s [] = ⊤
KeysRiseAfter key s (x ∷ xs) = Before s (key x) × KeysRiseAfter key (key x) xs

-- they rise strictly
abbrev pub KeysRise : {A : Type 0} → (A → Stamp) → List A → Type 0
KeysRise key [] = ⊤
KeysRise key (x ∷ xs) = KeysRiseAfter key (key x) xs

-- they rise strictly, none before one
abbrev pub RisesFrom : {A : Type 0} → (A → Stamp) → Stamp → List A → Type 0
RisesFrom key s [] = ⊤
RisesFrom key s (x ∷ xs) = (¬ Before (key x) s) × KeysRiseAfter key (key x) xs

-- the last one, or another if the list has none
abbrev pub last_key : {A : Type 0} → (A → Stamp) → Stamp → List A → Stamp
last_key key s [] = s
last_key key s (x ∷ xs) = last_key key (key x) xs

-- ---- the parts of a list
-- all of it is before a stamp
abbrev pub AllBefore : {A : Type 0} → (A → Stamp) → Stamp → List A → Type 0
AllBefore key s [] = ⊤
AllBefore key s (x ∷ xs) = Before (key x) s × AllBefore key s xs

-- the items before a stamp, up to the first that isn't
abbrev pub keyed_below : {A : Type 0} → (A → Stamp) → Stamp → List A → List A
keyed_below key s [] = []
keyed_below key s (x ∷ xs) = if is_before (key x) s then x ∷ keyed_below key s xs else []

-- the rest, from that item on
abbrev pub keyed_from : {A : Type 0} → (A → Stamp) → Stamp → List A → List A
keyed_from key s [] = []
keyed_from key s (x ∷ xs) = if is_before (key x) s then keyed_from key s xs else x ∷ xs
