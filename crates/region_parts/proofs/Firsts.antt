-- The first messages of the regions, one after another.
use Rattle.std.proofs.Common.{◌≡◌, ◌≢◌, ◌⊎◌, inl, inr, ℕ, zero, suc, ◌+◌, ◌<◌, ◌≤◌, Bool, List, [], ◌∷◌, length, Option, Some, None, refl, sym, ap, subst, ◌∙◌, arith}
use Rattle.std.specs.Prelude.{slice_get, if◌then◌else◌}
use Rattle.std.proofs.lemmas.Option.{none-some, same_Some}
use Rattle.event_stamps.specs.declared.Stamp.{Stamp}
use Rattle.event_stamps.specs.Order.{Before}
use Rattle.event_stamps.proofs.StampOrder.{before_decides, before_trans, not_before_itself}
use Rattle.region_view.specs.declared.rows.Message.{Message}
use Rattle.region_messages.specs.Trails.{is_before}
use Rattle.local_run.specs.LocalRun.{Trails, trail_of}
use Rattle.region_parts.specs.Inbox.{InboxData, next_from, taken_from, nearer_of, HasStamp, IsHeadOf, IsLeastHead, IsSharedHead}
use Rattle.region_messages.proofs.Order.{is_before_true, is_before_false}

-- ---- the least of them
-- none of the first messages of the regions below a number is before it; or there are none
abbrev pub IsLeastBelow : InboxData → ℕ → Option (ℕ × Stamp) → Type 0
IsLeastBelow inbox n None = (q : ℕ) → q < n → next_from inbox q ≡ None
IsLeastBelow inbox n (Some head) = IsHeadOf inbox head.0 head.1
    × ((q : ℕ) (m : Message) → q < n → next_from inbox q ≡ Some m → ¬ Before m.stamp head.1)

pub none_below : (inbox : InboxData) → IsLeastBelow inbox 0 None
none_below inbox q lt = absurd (omega arith)

below_or_last : (q n : ℕ) → q < n + 1 → (q < n) ⊎ (q ≡ n)
below_or_last q n lt = grind arith

one_first : (inbox : InboxData) (n : ℕ) (m : Message) → next_from inbox n ≡ Some m → (q : ℕ) (x : Message) →
    q ≡ n → next_from inbox q ≡ Some x → x ≡ m
one_first inbox n m is q x same next =
    sym (same_Some _ x (sym is ∙ ap (next_from inbox) (sym same) ∙ next))

pub nearer_is : (inbox : InboxData) (n : ℕ) (least : Option (ℕ × Stamp)) (next : Option Message) →
    IsLeastBelow inbox n least → next_from inbox n ≡ next →
    IsLeastBelow inbox (n + 1) (nearer_of least n next)
nearer_is inbox n None None below is = λ q lt. elim (below_or_last q n lt) [
  | inl less ↦ below q less
  | inr same ↦ ap (next_from inbox) same ∙ is
]
nearer_is inbox n (Some head) None below is = (
  below.0,
  λ q m lt next. elim (below_or_last q n lt) [
    | inl less ↦ below.1 q m less next
    | inr same ↦ absurd (none-some m (sym is ∙ ap (next_from inbox) (sym same) ∙ next))
  ],
)
nearer_is inbox n None (Some m) below is = (
  (m, is, refl),
  λ q x lt next. elim (below_or_last q n lt) [
    | inl less ↦ absurd (none-some x (sym (below q less) ∙ next))
    | inr same ↦ subst (λ (v : Message). ¬ Before v.stamp m.stamp) (sym (one_first inbox n m is q x same next))
        (not_before_itself m.stamp)
  ],
)
nearer_is inbox n (Some head) (Some m) below is = by_test (before_decides m.stamp head.1)
  where
    by_test : Before m.stamp head.1 ⊎ ¬ Before m.stamp head.1 →
        IsLeastBelow inbox (n + 1) (if is_before m.stamp head.1 then Some (n, m.stamp) else Some head)
    by_test (inl lt) = subst (λ (b : Bool).
        IsLeastBelow inbox (n + 1) (if b then Some (n, m.stamp) else Some head))
        (sym (is_before_true m.stamp head.1 lt)) (
          (m, is, refl),
          λ q x near next. elim (below_or_last q n near) [
            | inl less ↦ λ before. below.1 q x less next (before_trans x.stamp m.stamp head.1 before lt)
            | inr same ↦ subst (λ (v : Message). ¬ Before v.stamp m.stamp)
                (sym (one_first inbox n m is q x same next)) (not_before_itself m.stamp)
          ],
        )
    by_test (inr not) = subst (λ (b : Bool).
        IsLeastBelow inbox (n + 1) (if b then Some (n, m.stamp) else Some head))
        (sym (is_before_false m.stamp head.1 not)) (
          below.0,
          λ q x near next. elim (below_or_last q n near) [
            | inl less ↦ below.1 q x less next
            | inr same ↦ subst (λ (v : Message). ¬ Before v.stamp head.1)
                (sym (one_first inbox n m is q x same next)) not
          ],
        )

pub no_trail_past : (ts : Trails) (q : ℕ) → length ts ≤ q → trail_of ts q ≡ []
no_trail_past [] q le = refl
no_trail_past (t ∷ ts) zero le = absurd (omega arith)
no_trail_past (t ∷ ts) (suc q) le = no_trail_past ts q (omega arith)

abbrev pub nothing_heard : List Message
nothing_heard = []

pub none_in_nothing : (k : ℕ) → slice_get nothing_heard k ≡ None
none_in_nothing zero = refl
none_in_nothing (suc k) = refl

-- regions that don't exist have no first messages
pub none_past : (inbox : InboxData) (q : ℕ) → length inbox.heard ≤ q → next_from inbox q ≡ None
none_past inbox q le =
    ap (λ (ms : List Message). slice_get ms (taken_from inbox q)) (no_trail_past inbox.heard q le)
    ∙ none_in_nothing (taken_from inbox q)

pub below_or_past : (q n : ℕ) → (q < n) ⊎ (n ≤ q)
below_or_past q n = grind arith

pub least_of_all : (inbox : InboxData) (n : ℕ) (least : Option (ℕ × Stamp)) → length inbox.heard ≡ n →
    IsLeastBelow inbox n least → IsLeastHead inbox least
least_of_all inbox n None len below = λ q. elim (below_or_past q n) [
  | inl lt ↦ below q lt
  | inr past ↦ none_past inbox q (omega arith)
]
least_of_all inbox n (Some head) len below = (
  below.0,
  λ q m next. elim (below_or_past q n) [
    | inl lt ↦ below.1 q m lt next
    | inr past ↦ absurd (none-some m (sym (none_past inbox q (omega arith)) ∙ next))
  ],
)

-- ---- shared stamps
-- the first message of another region below a number has this stamp
abbrev pub IsSharedBelow : InboxData → ℕ → ℕ → Stamp → Type 0
IsSharedBelow inbox n from s = (q : ℕ) × (m : Message) × (q < n) × (q ≢ from)
    × (next_from inbox q ≡ Some m) × (m.stamp ≡ s)

pub not_shared_below : (inbox : InboxData) (from : ℕ) (s : Stamp) → ¬ IsSharedBelow inbox 0 from s
not_shared_below inbox from s (q, m, lt, other, next, is) = omega arith

-- nor is it shared at all, if there are no regions from that number on
pub none_shared : (inbox : InboxData) (n from : ℕ) (s : Stamp) → length inbox.heard ≤ n →
    ¬ IsSharedBelow inbox n from s → ¬ IsSharedHead inbox from s
none_shared inbox n from s all none (q, m, other, next, is) = elim (below_or_past q n) [
  | inl lt ↦ none (q, m, lt, other, next, is)
  | inr past ↦ none-some m (sym (none_past inbox q (omega arith)) ∙ next)
]

-- the message that has a stamp
pub with_stamp : (o : Option Message) (s : Stamp) → HasStamp o s → (m : Message) × (o ≡ Some m) × (m.stamp ≡ s)
with_stamp None s never = absurd never
with_stamp (Some m) s is = (m, refl, is)
