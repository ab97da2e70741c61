-- Trails with one more message, and what waits of them.
use Rattle.std.proofs.Common.{◌≡◌, ◌≢◌, inl, inr, ℕ, List, [], ◌∷◌, ◌++◌, sym, ap, ◌∙◌, subst, refl}
use Rattle.event_stamps.specs.Order.{Before}
use Rattle.event_stamps.proofs.Parts.{below_first, below_none, from_later, from_here}
use Rattle.region_view.specs.declared.rows.Message.{Message}
use Rattle.region_messages.specs.Trails.{IsAmong, with_message, message_key}
use Rattle.local_run.specs.declared.home.Home.{Home}
use Rattle.local_run.specs.declared.entry.Entry.{Entry}
use Rattle.local_run.specs.declared.entry.Entry.TheVariants.{Native, Heard}
use Rattle.local_run.specs.LocalRun.{At, Trails, trail_of, messages_after_first, without_first, after_entry, after_log, Moves}
use Rattle.local_run.proofs.Among.{same_trail, other_trail, same_or_other}
use Rattle.local_run.proofs.Logs.{AllBefore}

-- ---- one trail
-- what comes before the message stays first
with_later : (m n : Message) (ms : List Message) → Before n.stamp m.stamp →
    with_message m (n ∷ ms) ≡ n ∷ with_message m ms
with_later m n ms lt =
    let first = below_first message_key m.stamp n ms lt in
    let rest = from_later message_key m.stamp n ms lt in
    λ i. first i ++ m ∷ rest i

-- if nothing comes before it, it is the first
pub with_first : (m : Message) (ms : List Message) →
    ((n : Message) → IsAmong n ms → ¬ Before n.stamp m.stamp) → with_message m ms ≡ m ∷ ms
with_first m [] late = refl
with_first m (n ∷ ns) late =
    let first = below_none message_key m.stamp n ns (late n (inl refl)) in
    let rest = from_here message_key m.stamp n ns (late n (inl refl)) in
    λ i. first i ++ m ∷ rest i

-- ---- all trails
-- the trail of region q has one more message, and the others are the same
abbrev pub IsInserted : ℕ → Message → Trails → Trails → Type 0
IsInserted q m w v = (trail_of v q ≡ with_message m (trail_of w q))
    × ((k : ℕ) → k ≢ q → trail_of v k ≡ trail_of w k)

-- so it stays if a message before it is taken in
inserted_heard : (q : ℕ) (m : Message) (w v : Trails) (p : ℕ) (n : Message) (rest : List Message) →
    trail_of w p ≡ n ∷ rest → Before n.stamp m.stamp → IsInserted q m w v →
    IsInserted q m (without_first w p) (without_first v p)
inserted_heard q m w v p n rest is lt inserted = (at_q, at_other)
  where
    here : q ≡ p → trail_of (without_first v q) q ≡ with_message m (trail_of (without_first w q) q)
    here same =
        let first : trail_of w q ≡ n ∷ rest = subst (λ (x : ℕ). trail_of w x ≡ n ∷ rest) (sym same) is in
        same_trail v q
        ∙ ap messages_after_first (inserted.0 ∙ ap (with_message m) first ∙ with_later m n rest lt)
        ∙ sym (ap (with_message m) (same_trail w q ∙ ap messages_after_first first))

    at_q : trail_of (without_first v p) q ≡ with_message m (trail_of (without_first w p) q)
    at_q = elim (same_or_other q p) [
      | inl same ↦ subst (λ (x : ℕ). trail_of (without_first v x) q
          ≡ with_message m (trail_of (without_first w x) q)) same (here same)
      | inr other ↦ other_trail v p q other ∙ inserted.0
          ∙ sym (ap (with_message m) (other_trail w p q other))
    ]

    at_other : (k : ℕ) → k ≢ q → trail_of (without_first v p) k ≡ trail_of (without_first w p) k
    at_other k apart = elim (same_or_other k p) [
      | inl same ↦ subst (λ (x : ℕ). trail_of (without_first v x) k ≡ trail_of (without_first w x) k) same
          (same_trail v k ∙ ap messages_after_first (inserted.1 k apart) ∙ sym (same_trail w k))
      | inr other ↦ other_trail v p k other ∙ inserted.1 k apart ∙ sym (other_trail w p k other)
    ]

abbrev pub with_trails : At → Trails → At
with_trails a v = record { view = a.view; waiting = v }

-- and along entries that are before it, which lead to the same view
pub inserted_along : (h : Home) (q : ℕ) (m : Message) (xs : List Entry) (a : At) (v : Trails) →
    Moves h a xs → AllBefore m.stamp xs → IsInserted q m a.waiting v →
    IsInserted q m (after_log a xs).waiting (after_log (with_trails a v) xs).waiting
    × ((after_log (with_trails a v) xs).view ≡ (after_log a xs).view)
inserted_along h q m [] a v moves all inserted = (inserted, refl)
inserted_along h q m (Native x ∷ xs) a v moves all inserted =
    inserted_along h q m xs (after_entry a (Native x)) v moves.1 all.1 inserted
inserted_along h q m (Heard p n ∷ xs) a v moves all inserted =
    inserted_along h q m xs (after_entry a (Heard p n)) (without_first v p) moves.1 all.1
    (inserted_heard q m a.waiting v p n moves.0.first.0 moves.0.first.1 all.0 inserted)
