-- Lists of messages, and where two of them first disagree.
use Rattle.std.specs.Prelude.{◌≡◌, ◌≢◌, ◌⊎◌, ℕ, List, ◌∷◌, ◌++◌, None, take, slice_get}
use Rattle.event_stamps.specs.declared.Stamp.{Stamp}
use Rattle.event_stamps.specs.Order.{Before}
use Rattle.event_stamps.specs.Ordered as ordered
pub use Rattle.event_stamps.specs.Ordered.{is_before, IsAmong}
use Rattle.event_stamps.specs.Least.{IsLeast}
use Rattle.region_view.specs.declared.rows.Message.{Message}

-- ---- as lists by stamps
-- the stamp of a message
abbrev pub message_key : Message → Stamp
message_key m = m.stamp

-- stamps rise strictly, all after one
abbrev pub RisesAfter : Stamp → List Message → Type 0
RisesAfter s ms = ordered.KeysRiseAfter message_key s ms

-- stamps rise strictly
abbrev pub Rises : List Message → Type 0
Rises ms = ordered.KeysRise message_key ms

-- the messages before a stamp
abbrev pub below : Stamp → List Message → List Message
below s ms = ordered.keyed_below message_key s ms

-- the messages from a stamp on
abbrev pub from : Stamp → List Message → List Message
from s ms = ordered.keyed_from message_key s ms

-- the messages with one more, at its place
abbrev pub with_message : Message → List Message → List Message
with_message m ms = below m.stamp ms ++ m ∷ from m.stamp ms

-- none of them has this stamp
abbrev pub IsFree : Stamp → List Message → Type 0
IsFree s ms = (m : Message) → IsAmong m ms → m.stamp ≢ s

-- a stamp is after all of them
abbrev pub IsAfterAll : List Message → Stamp → Type 0
IsAfterAll ms s = (m : Message) → IsAmong m ms → Before m.stamp s

-- the same messages before a stamp
abbrev pub AgreeBelow : Stamp → List Message → List Message → Type 0
AgreeBelow s a b = below s a ≡ below s b

-- two lists are the same in their first n messages, and differ in the next unless both end there
pub record StartAlike (n : ℕ) (a b : List Message) : Type 0 where
  pub same : take n a ≡ take n b
  pub apart : slice_get a n ≡ slice_get b n → slice_get a n ≡ None

-- the first disagreement: they agree below each stamp up to it, and below none after it
pub record AgreesUpTo (a b : List Message) (d : Stamp) : Type 0 where
  pub below : (t : Stamp) → ¬ Before d t → AgreeBelow t a b
  pub beyond : (t : Stamp) → Before d t → ¬ AgreeBelow t a b

-- at this stamp a message of the one isn't among those of the other
abbrev pub DisagreeAt : List Message → List Message → Stamp → Type 0
DisagreeAt a b s = ((m : Message) × (m.stamp ≡ s) × IsAmong m a × ¬ IsAmong m b)
    ⊎ ((m : Message) × (m.stamp ≡ s) × IsAmong m b × ¬ IsAmong m a)

-- the first disagreement in other words: the least stamp at which they disagree
abbrev pub IsFirstDisagreement : List Message → List Message → Stamp → Type 0
IsFirstDisagreement a b s = IsLeast (DisagreeAt a b) s
