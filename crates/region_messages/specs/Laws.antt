-- What holds of all trails.
use Rattle.std.specs.Prelude.{◌≡◌, ◌↔◌, List, ◌++◌}
use Rattle.event_stamps.specs.declared.Stamp.{Stamp}
use Rattle.event_stamps.specs.Order.{Before}
use Rattle.region_view.specs.declared.rows.Message.{Message}
use Rattle.region_messages.specs.Trails.{IsAmong, Rises, below, from, AgreeBelow, AgreesUpTo, IsFirstDisagreement}

-- trails agree below a stamp if and only if the stamp isn't after the end of their agreement
abbrev pub AgreeUpTo : Type 0
AgreeUpTo = (a b : List Message) (d t : Stamp) → AgreesUpTo a b d →
    (AgreeBelow t a b ↔ ¬ Before d t)

-- the same for the least stamp at which they disagree
abbrev pub AgreeUntilFirst : Type 0
AgreeUntilFirst = (a b : List Message) (d t : Stamp) → Rises a → Rises b →
    IsFirstDisagreement a b d → (AgreeBelow t a b ↔ ¬ Before d t)

-- the messages below a stamp are those of the trail that are before it
abbrev pub BelowIsBefore : Type 0
BelowIsBefore = (a : List Message) (t : Stamp) (m : Message) → Rises a →
    (IsAmong m (below t a) ↔ (IsAmong m a × Before m.stamp t))

-- a trail that takes the messages of another from the end of their agreement on is the other
abbrev pub AgreedPartIsKept : Type 0
AgreedPartIsKept = (a b : List Message) (d : Stamp) → AgreesUpTo a b d → below d a ++ from d b ≡ b

-- the two parts of a trail make the whole
abbrev pub PartsMakeTheWhole : Type 0
PartsMakeTheWhole = (a : List Message) (t : Stamp) → below t a ++ from t a ≡ a
