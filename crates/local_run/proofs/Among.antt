-- Trails that rise, and what waits in them.
use Rattle.std.proofs.Common.{◌≡◌, ◌≢◌, ◌⊎◌, inl, inr, ℕ, zero, suc, List}
use Rattle.std.proofs.Common.{[], ◌∷◌, sym, ap, subst, refl, arith}
use Rattle.event_stamps.specs.declared.Stamp.{Stamp}
use Rattle.event_stamps.specs.Order.{Before}
use Rattle.event_stamps.proofs.Parts as parts
use Rattle.region_view.specs.declared.rows.Message.{Message}
use Rattle.region_messages.specs.Trails.{IsAmong, Rises, below, message_key}
use Rattle.region_messages.proofs.Among.{rises_tail}
use Rattle.local_run.specs.LocalRun.{Trails, trail_of, messages_after_first, without_first, IsWaiting}

-- ---- trails that rise
pub rises_rest : (ms : List Message) → Rises ms → Rises (messages_after_first ms)
rises_rest [] h = tt
rises_rest (m ∷ ms) h = rises_tail m.stamp ms h

pub among_rest : (ms : List Message) (n : Message) → IsAmong n (messages_after_first ms) → IsAmong n ms
among_rest [] n h = h
among_rest (m ∷ ms) n h = inr h

pub below_nil : (s : Stamp) (ms : List Message) →
    ((m : Message) → IsAmong m ms → ¬ Before m.stamp s) → below s ms ≡ []
below_nil s ms = parts.below_nil message_key s ms

-- ---- the trails of the regions
pub same_trail : (ts : Trails) (q : ℕ) → trail_of (without_first ts q) q ≡ messages_after_first (trail_of ts q)
same_trail [] q = refl
same_trail (t ∷ ts) zero = refl
same_trail (t ∷ ts) (suc q) = same_trail ts q

pub other_trail : (ts : Trails) (q k : ℕ) → k ≢ q → trail_of (without_first ts q) k ≡ trail_of ts k
other_trail [] q k ne = refl
other_trail (t ∷ ts) zero zero ne = absurd (ne refl)
other_trail (t ∷ ts) zero (suc k) ne = refl
other_trail (t ∷ ts) (suc q) zero ne = refl
other_trail (t ∷ ts) (suc q) (suc k) ne = other_trail ts q k (λ e. ne (ap suc e))

pub same_or_other : (m n : ℕ) → (m ≡ n) ⊎ (m ≢ n)
same_or_other m n = grind arith

pub waits_among : (ts : Trails) (q : ℕ) (m : Message) → IsAmong m (trail_of ts q) →
    IsWaiting ts m.stamp
unfolding IsWaiting
waits_among ts q m among = (q, m, among, refl)

pub waits_first : (ts : Trails) (q : ℕ) (m : Message) (rest : List Message) →
    trail_of ts q ≡ m ∷ rest → IsWaiting ts m.stamp
waits_first ts q m rest is = waits_among ts q m (subst (IsAmong m) (sym is) (inl refl))

-- trails each of which rises
abbrev pub AllRise : Trails → Type 0
AllRise ts = (q : ℕ) → Rises (trail_of ts q)

pub rise_without : (ts : Trails) (q : ℕ) → AllRise ts → AllRise (without_first ts q)
rise_without ts q rise k = elim (same_or_other k q) [
  | inl is ↦ subst (λ (x : ℕ). Rises (trail_of (without_first ts q) x)) (sym is)
      (subst Rises (sym (same_trail ts q)) (rises_rest (trail_of ts q) (rise q)))
  | inr other ↦ subst Rises (sym (other_trail ts q k other)) (rise k)
]
