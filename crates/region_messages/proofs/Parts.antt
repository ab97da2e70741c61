-- The messages of a trail before a stamp, and those from it on.
use Rattle.std.proofs.Common.{◌≡◌, ◌⊎◌, List, [], ◌∷◌, ◌++◌, ap, ◌∙◌}
use Rattle.event_stamps.specs.declared.Stamp.{Stamp}
use Rattle.event_stamps.specs.Order.{Before}
use Rattle.event_stamps.proofs.StampOrder.{not_before_itself}
use Rattle.event_stamps.proofs.Parts as parts
use Rattle.region_view.specs.declared.rows.Message.{Message}
use Rattle.region_messages.specs.Trails.{IsAmong, Rises, below, from, message_key}
use Rattle.region_messages.specs.Laws.{BelowIsBefore, AgreedPartIsKept, PartsMakeTheWhole}

-- ---- laws
pub split : PartsMakeTheWhole
split ms t = parts.split message_key ms t

pub members_below : BelowIsBefore
members_below a t m r = (
  λ h. (parts.below_among message_key t a m h, parts.below_before message_key t a m h),
  λ h. parts.among_below message_key t a m r h.0 h.1,
)

pub agreed_part : AgreedPartIsKept
agreed_part a b d agree =
    ap (λ (v : List Message). v ++ from d b) (agree.below d (not_before_itself d)) ∙ split b d

-- ---- lists by stamps, for proofs about trails
pub below_first : (t : Stamp) (m : Message) (ms : List Message) → Before m.stamp t →
    below t (m ∷ ms) ≡ m ∷ below t ms
below_first t m ms = parts.below_first message_key t m ms

pub below_none : (t : Stamp) (m : Message) (ms : List Message) → ¬ Before m.stamp t →
    below t (m ∷ ms) ≡ []
below_none t m ms = parts.below_none message_key t m ms

pub among_below : (t : Stamp) (ms : List Message) (n : Message) → Rises ms → IsAmong n ms →
    Before n.stamp t → IsAmong n (below t ms)
among_below t ms n = parts.among_below message_key t ms n

pub below_among : (t : Stamp) (ms : List Message) (n : Message) → IsAmong n (below t ms) →
    IsAmong n ms
below_among t ms n = parts.below_among message_key t ms n

pub from_among : (t : Stamp) (ms : List Message) (n : Message) → IsAmong n (from t ms) →
    IsAmong n ms
from_among t ms n = parts.from_among message_key t ms n

pub rises_below : (t : Stamp) (ms : List Message) → Rises ms → Rises (below t ms)
rises_below t ms = parts.rises_below message_key t ms

pub rises_replaced : (t : Stamp) (a b : List Message) → Rises (below t a) → Rises b →
    Rises (below t a ++ from t b)
rises_replaced t a b = parts.rises_replaced message_key t a b

pub below_replaced : (t : Stamp) (a b : List Message) → below t (below t a ++ from t b) ≡ below t a
below_replaced t a b = parts.below_replaced message_key t a b

pub among_replaced : (t : Stamp) (a b : List Message) (m : Message) → IsAmong m (below t a ++ from t b) →
    IsAmong m a ⊎ IsAmong m b
among_replaced t a b m = parts.among_replaced message_key t a b m

pub first_of_below : (t : Stamp) (m : Message) (ns ms : List Message) → below t ns ≡ m ∷ ms →
    (rest : List Message) × (ns ≡ m ∷ rest) × (below t rest ≡ ms)
first_of_below t m ns ms = parts.first_of_below message_key t m ns ms
