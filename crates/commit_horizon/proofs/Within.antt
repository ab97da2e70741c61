-- The bounds of the commit horizon: the least of some stamps bounds what each of them bounds.
use Rattle.std.proofs.Common.{◌≡◌, ◌⊎◌, inl, inr, ℕ, ◌+◌, ◌<◌, Bool, true, false, ◌≤◌, List, length, sym, ap, ◌∙◌, subst, refl, arith}
use Rattle.std.proofs.Common.{Option, Some, None}
use Rattle.std.specs.Prelude.{◌↔◌, if◌then◌else◌, unwrap_or, slice_get, IfSome, MatchOption}
use Rattle.std.proofs.lemmas.Option.{none-some, same_Some, slice_get_within}
use Rattle.event_stamps.specs.declared.Stamp.{Stamp}
use Rattle.event_stamps.specs.Order.{Before, end_stamp}
use Rattle.event_stamps.specs.Least.{earlier_of}
use Rattle.event_stamps.proofs.StampOrder.{before_trans}
use Rattle.region_view.specs.declared.rows.Message.{Message}
use Rattle.region_messages.specs.Trails.{is_before, AgreesUpTo, below}
use Rattle.region_messages.proofs.Order.{before_from_true, not_before_from_false, not_after_before}
use Rattle.local_run.specs.declared.home.Home.{Home}
use Rattle.local_run.specs.LocalRun.{Local, start_of, now_of, IsOffered, IsWaiting, IsRight, sent_to, trail_of}
use Rattle.local_run.specs.Opening.{RegionData}
use Rattle.local_run.specs.Keeping.{IsKept, IsDueAt, IsDueIn, IsSent, IsHeard, SendsTo, HearsOf}
use Rattle.local_run.proofs.Right.{waiting_was_heard}
use Rattle.local_run.proofs.Valid.{own_before_end}
use Rattle.commit_horizon.specs.Bounds.{IsUpToStamp, HoldsUpTo, OfFirst, OfAll, IsUpToDueOf, IsUpToDue, AgreeOn}
use Rattle.commit_horizon.specs.Bounds.{AllAgree, IsUpToAll, later_of}

-- ---- two stamps
pub up_to_earlier : (a b : Option Stamp) (t : Stamp) → IsUpToStamp (earlier_of a b) t ↔ (IsUpToStamp a t × IsUpToStamp b t)
up_to_earlier None b t = (λ h. (tt, h), λ h. h.1)
up_to_earlier (Some s) None t = (λ h. (h, tt), λ h. h.0)
up_to_earlier (Some s) (Some u) t = by_test (is_before u s) refl
  where
    by_test : (b : Bool) → is_before u s ≡ b →
        IsUpToStamp (if b then Some u else Some s) t ↔ ((¬ Before s t) × (¬ Before u t))
    by_test true e = (λ h. (λ less. h (before_trans u s t (before_from_true u s e) less), h), λ h. h.1)
    by_test false e =
        (λ h. (h, λ less. h (not_after_before s u t (not_before_from_false u s e) less)), λ h. h.0)

pub up_to_later : (s u t : Stamp) → (¬ Before (later_of s u) t) ↔ ((¬ Before s t) ⊎ (¬ Before u t))
up_to_later s u t = by_test (is_before s u) refl
  where
    by_test : (b : Bool) → is_before s u ≡ b →
        (¬ Before (if b then u else s) t) ↔ ((¬ Before s t) ⊎ (¬ Before u t))
    by_test true e = (
      λ h. inr h,
      λ h. elim h [
        | inl not ↦ λ less. not (before_trans s u t (before_from_true s u e) less)
        | inr not ↦ not
      ],
    )
    by_test false e = (
      λ h. inl h,
      λ h. elim h [
        | inl not ↦ not
        | inr not ↦ λ less. not (not_after_before u s t (not_before_from_false s u e) less)
      ],
    )

-- the earlier of two bounds is a bound of both
pub holds_earlier : (P Q R : Stamp → Type 0) (a b : Option Stamp) → HoldsUpTo P a → HoldsUpTo Q b →
    ((t : Stamp) → R t ↔ (P t × Q t)) → HoldsUpTo R (earlier_of a b)
holds_earlier P Q R a b ha hb both = record {
  exactly = λ t. (
    λ h. let parts = (both t).0 h in
        (up_to_earlier a b t).1 ((ha.exactly t).0 parts.0, (hb.exactly t).0 parts.1),
    λ h. let parts = (up_to_earlier a b t).0 h in
        (both t).1 ((ha.exactly t).1 parts.0, (hb.exactly t).1 parts.1),
  );
}

pub earlier_is_some : (s : Stamp) (b : Option Stamp) →
    earlier_of (Some s) b ≡ Some (unwrap_or (earlier_of (Some s) b) s)
earlier_is_some s None = refl
earlier_is_some s (Some u) = by_test (is_before u s)
  where
    by_test : (b : Bool) →
        (if b then Some u else Some s) ≡ Some (unwrap_or (if b then Some u else Some s) s)
    by_test true = refl
    by_test false = refl

-- ---- one region after the other
pub holds_none : (P : RegionData → Stamp → Type 0) (regions : List RegionData) →
    HoldsUpTo (OfFirst P regions 0) None
holds_none P regions = record { exactly = λ t. (λ h. tt, λ h k region lt at. absurd (omega arith)) }

below_or_last : (k n : ℕ) → k < n + 1 → (k < n) ⊎ (k ≡ n)
below_or_last k n lt = grind arith

pub holds_more : (P : RegionData → Stamp → Type 0) (regions : List RegionData) (n : ℕ) (region : RegionData)
    (a b : Option Stamp) → slice_get regions n ≡ Some region → HoldsUpTo (OfFirst P regions n) a →
    HoldsUpTo (P region) b → HoldsUpTo (OfFirst P regions (n + 1)) (earlier_of a b)
holds_more P regions n region a b there first more =
    holds_earlier (OfFirst P regions n) (P region) (OfFirst P regions (n + 1)) a b first more (λ t. (
      λ h. (λ k r lt at. h k r (omega arith) at, h n region (omega arith) there),
      λ h k r lt at. elim (below_or_last k n lt) [
        | inl less ↦ h.0 k r less at
        | inr same ↦ subst (λ (v : RegionData). P v t)
            (same_Some region r (sym there ∙ ap (slice_get regions) (sym same) ∙ at)) h.1
      ],
    ))

pub holds_all : (P : RegionData → Stamp → Type 0) (regions : List RegionData) (n : ℕ) (a : Option Stamp) →
    length regions ≤ n → HoldsUpTo (OfFirst P regions n) a → HoldsUpTo (OfAll P regions) a
holds_all P regions n a le holds = record {
  exactly = λ t. (
    λ h. (holds.exactly t).0 (λ k r lt at. h k r (slice_get_within regions k r at) at),
    λ up k r lt at. (holds.exactly t).1 up k r (omega arith) at,
  );
}

pub kept_more : (regions : List RegionData) (n : ℕ) (region : RegionData) → slice_get regions n ≡ Some region →
    ((k : ℕ) (r : RegionData) → k < n → slice_get regions k ≡ Some r → IsKept r) → IsKept region →
    (k : ℕ) (r : RegionData) → k < n + 1 → slice_get regions k ≡ Some r → IsKept r
kept_more regions n region there before kept k r lt at = elim (below_or_last k n lt) [
  | inl less ↦ before k r less at
  | inr same ↦ subst IsKept (same_Some region r (sym there ∙ ap (slice_get regions) (sym same) ∙ at)) kept
]

-- the least of all bounds
pub least_holds : (end : Stamp) (regions : List RegionData) (due apart : Option Stamp) →
    HoldsUpTo (OfAll IsUpToDue regions) due → HoldsUpTo (AllAgree regions) apart →
    HoldsUpTo (IsUpToAll end regions) (Some (unwrap_or (earlier_of (Some end) (earlier_of due apart)) end))
least_holds end regions due apart is_due is_apart =
    let others = holds_earlier (OfAll IsUpToDue regions) (AllAgree regions)
    (λ t. OfAll IsUpToDue regions t × AllAgree regions t) due apart is_due is_apart
    (λ t. (λ h. h, λ h. h)) in
    subst (HoldsUpTo (IsUpToAll end regions)) (earlier_is_some end (earlier_of due apart))
    (holds_earlier (λ t. ¬ Before end t) (λ t. OfAll IsUpToDue regions t × AllAgree regions t)
    (IsUpToAll end regions) (Some end) (earlier_of due apart)
    (record { exactly = λ t. (λ h. h, λ h. h) }) others
    (λ t. (λ h. (h.0, (h.1, h.2)), λ h. (h.0, h.1.0, h.1.1))))

-- ---- what is due
-- what is offered is before the end
pub offered_in_time : (h : Home) (r : Local) (s : Stamp) → IsRight h r → IsOffered h (now_of r) s →
    Before s (end_stamp h.rules.end)
unfolding IsWaiting
offered_in_time h r s right (inl own) = own_before_end h (now_of r).view s own
offered_in_time h r s right (inr (q, m, among, is)) =
    subst (λ (v : Stamp). Before v (end_stamp h.rules.end)) is
    ((right.heard q).before_end m (waiting_was_heard (start_of r) r.log q m among))

due_of_run : (h : Home) (floor : Stamp) (run : Option Local) (due : Stamp) →
    ¬ Before (end_stamp h.rules.end) floor → IfSome run (IsRight h) → IsDueAt h floor run due → (t : Stamp) →
    IsUpToDueOf h floor run t ↔ (¬ Before (later_of due floor) t)
due_of_run h floor None due in_time right is t = (
  λ not. (up_to_later due floor t).1 (inr not),
  λ not. elim ((up_to_later due floor t).0 not) [
    | inl other ↦ subst (λ (v : Stamp). ¬ Before v t) is other
    | inr other ↦ other
  ],
)
due_of_run h floor (Some run) due in_time right (inl least) t = (
  λ up. (up_to_later due floor t).1 (up.1 due least.0),
  λ not. elim ((up_to_later due floor t).0 not) [
    | inl other ↦ (
      λ less. other (before_trans due (end_stamp h.rules.end) t (offered_in_time h run due right least.0) less),
      λ s off. inl (λ less. other (not_after_before due s t (least.1 s off) less)),
    )
    | inr other ↦ (
      λ less. other (not_after_before floor (end_stamp h.rules.end) t in_time less),
      λ s off. inr other,
    )
  ],
)
due_of_run h floor (Some run) due in_time right (inr (none, is)) t = (
  λ up. (up_to_later due floor t).1 (inl (subst (λ (v : Stamp). ¬ Before v t) (sym is) up.0)),
  λ not. (
    elim ((up_to_later due floor t).0 not) [
      | inl other ↦ subst (λ (v : Stamp). ¬ Before v t) is other
      | inr other ↦ λ less. other (not_after_before floor (end_stamp h.rules.end) t in_time less)
    ],
    λ s off. absurd (none s off),
  ),
)

pub due_holds : (region : RegionData) (due : Stamp) → IsKept region → IsDueIn region due →
    HoldsUpTo (IsUpToDue region) (Some (later_of due region.floor))
due_holds region due kept is = record {
  exactly = due_of_run region.home region.floor region.run due kept.floor kept.run is;
}

-- ---- what is sent and heard
one_sent : (region : RegionData) (to : ℕ) (a b : List Message) → IsSent region to a → IsSent region to b → a ≡ b
one_sent region to a b (run, is, sends, e) (other, other_is, other_sends, f) =
    e ∙ ap (λ (v : Local). sent_to region.home.grid to v.base v.log) (same_Some run other (sym is ∙ other_is))
    ∙ sym f

one_heard : (region : RegionData) (from : ℕ) (a b : List Message) → IsHeard region from a →
    IsHeard region from b → a ≡ b
one_heard region from a b (run, is, hears, e) (other, other_is, other_hears, f) =
    e ∙ ap (λ (v : Local). trail_of v.heard from) (same_Some run other (sym is ∙ other_is)) ∙ sym f

pub none_sent : (sender hearer : RegionData) (to : ℕ) → to ≡ hearer.home.number →
    (sender.run ≡ None) ⊎ (¬ SendsTo sender.home to) → HoldsUpTo (AgreeOn sender hearer) None
none_sent sender hearer to is none = record {
  exactly = λ t. (
    λ h. tt,
    λ h a b sent heard. absurd (elim none [
      | inl spent ↦ none-some sent.0 (sym spent ∙ sent.1)
      | inr not ↦ not (subst (SendsTo sender.home) (sym is) sent.2)
    ]),
  );
}

pub none_heard : (sender hearer : RegionData) (from : ℕ) → from ≡ sender.home.number →
    (hearer.run ≡ None) ⊎ (¬ HearsOf hearer.home from) → HoldsUpTo (AgreeOn sender hearer) None
none_heard sender hearer from is none = record {
  exactly = λ t. (
    λ h. tt,
    λ h a b sent heard. absurd (elim none [
      | inl spent ↦ none-some heard.0 (sym spent ∙ heard.1)
      | inr not ↦ not (subst (HearsOf hearer.home) (sym is) heard.2)
    ]),
  );
}

pub apart_holds : (sender hearer : RegionData) (sent heard : List Message) (found : Option Stamp) →
    IsSent sender hearer.home.number sent → IsHeard hearer sender.home.number heard →
    MatchOption found (sent ≡ heard) (AgreesUpTo sent heard) → HoldsUpTo (AgreeOn sender hearer) found
apart_holds sender hearer sent heard None is_sent is_heard same = record {
  exactly = λ t. (
    λ h. tt,
    λ h a b a_sent b_heard. ap (below t) (one_sent sender hearer.home.number a sent a_sent is_sent ∙ same
        ∙ one_heard hearer sender.home.number heard b is_heard b_heard),
  );
}
apart_holds sender hearer sent heard (Some d) is_sent is_heard agree = record {
  exactly = λ t. (
    λ h less. agree.beyond t less (h sent heard is_sent is_heard),
    λ not a b a_sent b_heard. ap (below t) (one_sent sender hearer.home.number a sent a_sent is_sent)
        ∙ agree.below t not ∙ ap (below t) (one_heard hearer sender.home.number heard b is_heard b_heard),
  );
}
