-- What is among the members of a list, and trails that rise.
use Rattle.std.proofs.Common.{List, ◌++◌, ◌∷◌, []}
use Rattle.event_stamps.specs.declared.Stamp.{Stamp}
use Rattle.event_stamps.specs.Order.{Before}
use Rattle.event_stamps.proofs.StampOrder.{not_before_itself}
use Rattle.event_stamps.proofs.Rising as rising
pub use Rattle.event_stamps.proofs.Rising.{among_left, among_right, among_either}
use Rattle.region_view.specs.declared.rows.Message.{Message}
use Rattle.region_messages.specs.Trails.{IsAmong, RisesAfter, Rises, IsAfterAll, message_key}

pub rises_tail : (s : Stamp) (ms : List Message) → RisesAfter s ms → Rises ms
rises_tail s ms = rising.rises_tail message_key s ms

pub among_rises : (s : Stamp) (ms : List Message) (n : Message) → RisesAfter s ms → IsAmong n ms →
    Before s n.stamp
among_rises s ms n = rising.among_after message_key s ms n

pub rises_push : (ms : List Message) (m : Message) → Rises ms → IsAfterAll ms m.stamp →
    Rises (ms ++ m ∷ [])
rises_push ms m r h = rising.rises_joined message_key m.stamp ms (m ∷ []) r
    (rising.before_each message_key m.stamp ms h) (not_before_itself m.stamp, tt)
