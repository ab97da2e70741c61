-- The first messages of trails that rise tell which message is due.
use Rattle.std.proofs.Common.{◌≡◌, inl, inr, ℕ, List, [], ◌∷◌, sym, ap, ◌∙◌, subst, refl, Option}
use Rattle.event_stamps.specs.declared.Stamp.{Stamp}
use Rattle.event_stamps.specs.Order.{Before}
use Rattle.event_stamps.specs.Least.{IsLeast, HasNone, IsLeastOf, earlier_of}
use Rattle.event_stamps.proofs.StampOrder.{before_trans}
use Rattle.event_stamps.proofs.Least.{least_of_either}
use Rattle.region_view.specs.declared.rows.Message.{Message}
use Rattle.region_messages.specs.Trails.{IsAmong, Rises}
use Rattle.region_messages.proofs.Among.{among_rises}
use Rattle.local_run.specs.declared.home.Home.{Home}
use Rattle.local_run.specs.LocalRun.{At, Trails, trail_of, IsWaiting, IsOwn, IsOffered}
use Rattle.local_run.proofs.Among.{AllRise, waits_first}

-- no first message is before a stamp
abbrev pub NoHeadBefore : Trails → Stamp → Type 0
NoHeadBefore ts s = (q : ℕ) (m : Message) (rest : List Message) → trail_of ts q ≡ m ∷ rest →
    ¬ Before m.stamp s

-- then none that waits is
pub none_waits_before : (ts : Trails) (s t : Stamp) → AllRise ts → NoHeadBefore ts s → IsWaiting ts t →
    ¬ Before t s
unfolding IsWaiting
none_waits_before ts s t rise heads (q, m, among, is) less = by_trail (trail_of ts q) refl among
  where
    before : Before m.stamp s
    before = subst (λ (v : Stamp). Before v s) (sym is) less

    by_trail : (ms : List Message) → trail_of ts q ≡ ms → IsAmong m ms → ⊥
    by_trail [] none among = among
    by_trail (n ∷ rest) first (inl same) =
        heads q n rest first (subst (λ (v : Message). Before v.stamp s) same before)
    by_trail (n ∷ rest) first (inr more) = heads q n rest first
        (before_trans n.stamp m.stamp s (among_rises n.stamp rest m (subst Rises first (rise q)) more) before)

-- a first message that no other is before is the least that waits
pub due_of_heads : (ts : Trails) (q : ℕ) (m : Message) (rest : List Message) → AllRise ts →
    trail_of ts q ≡ m ∷ rest → NoHeadBefore ts m.stamp → IsLeast (IsWaiting ts) m.stamp
due_of_heads ts q m rest rise first heads =
    (waits_first ts q m rest first, λ t waits. none_waits_before ts m.stamp t rise heads waits)

pub none_waits : (ts : Trails) → ((q : ℕ) → trail_of ts q ≡ []) → HasNone (IsWaiting ts)
unfolding IsWaiting
none_waits ts none s (q, m, among, is) = subst (IsAmong m) (none q) among

-- if no first message is before the stamp and only that of q has it, no other message has it
pub only_of_heads : (ts : Trails) (q : ℕ) (s : Stamp) → AllRise ts → NoHeadBefore ts s →
    ((r : ℕ) (n : Message) (rest : List Message) → trail_of ts r ≡ n ∷ rest → n.stamp ≡ s → r ≡ q) →
    (r : ℕ) (n : Message) → IsAmong n (trail_of ts r) → n.stamp ≡ s → r ≡ q
only_of_heads ts q s rise heads alone r n among is = by_trail (trail_of ts r) refl among
  where
    by_trail : (ms : List Message) → trail_of ts r ≡ ms → IsAmong n ms → r ≡ q
    by_trail [] none among = absurd among
    by_trail (m ∷ rest) first (inl same) =
        alone r m rest first (ap (λ (v : Message). v.stamp) (sym same) ∙ is)
    by_trail (m ∷ rest) first (inr more) = absurd (heads r m rest first
        (subst (Before m.stamp) is (among_rises m.stamp rest n (subst Rises first (rise r)) more)))

-- the least of the native candidates and that of the messages give the due stamp
pub due_of_both : (h : Home) (a : At) (own waiting : Option Stamp) → IsLeastOf (IsOwn h a.view) own →
    IsLeastOf (IsWaiting a.waiting) waiting → IsLeastOf (IsOffered h a) (earlier_of own waiting)
due_of_both h a own waiting here there =
    least_of_either (IsOwn h a.view) (IsWaiting a.waiting) (IsOffered h a) own waiting
    (λ t x. inl x) (λ t x. inr x) (λ t x. x) here there
