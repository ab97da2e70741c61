-- What is among the messages of a copy that is brought up to date.
use Rattle.std.proofs.Common.{◌≡◌, ◌⊎◌, inl, inr, ℕ, List, ◌++◌, take, drop, subst}
use Rattle.std.proofs.lemmas.List.{take-append-drop}
use Rattle.event_stamps.specs.declared.Stamp.{Stamp}
use Rattle.region_view.specs.declared.rows.Message.{Message}
use Rattle.region_messages.specs.Trails.{IsAmong, below, from}
use Rattle.region_messages.proofs.Among.{among_left}
use Rattle.region_messages.proofs.Parts.{below_among, among_replaced}

pub among_first : (n : ℕ) (ms : List Message) (m : Message) → IsAmong m (take n ms) → IsAmong m ms
among_first n ms m h = subst (IsAmong m) (take-append-drop n ms) (among_left m (take n ms) (drop n ms) h)

-- its first messages, and those of another from a stamp on
pub among_filled : (n : ℕ) (t : Stamp) (copy own kept new : List Message) (m : Message) → kept ≡ take n copy →
    new ≡ below t kept ++ from t own → IsAmong m new → IsAmong m copy ⊎ IsAmong m own
among_filled n t copy own kept new m first is h = elim (among_replaced t kept own m (subst (IsAmong m) is h)) [
  | inl early ↦ inl (among_first n copy m (subst (IsAmong m) first early))
  | inr late ↦ inr late
]

-- its first messages before a stamp
pub among_cut : (n : ℕ) (t : Stamp) (copy kept new : List Message) (m : Message) → kept ≡ take n copy →
    new ≡ below t kept → IsAmong m new → IsAmong m copy
among_cut n t copy kept new m first is h =
    among_first n copy m (subst (IsAmong m) first (below_among t kept m (subst (IsAmong m) is h)))
