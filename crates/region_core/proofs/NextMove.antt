-- The move that comes next, given what a region keeps.
use Rattle.std.proofs.Common.{◌≡◌, ◌≢◌, ◌⊎◌, inl, inr, ℕ, ◌<◌, ◌≤◌, suc, List, [], ◌∷◌, drop, sym, ap, ◌∙◌, subst, refl, arith, Option, Some, None, Ok}
use Rattle.std.specs.Prelude.{◌↔◌, slice_get}
use Rattle.std.proofs.lemmas.Option.{none-some, same_Some}
use Rattle.event_stamps.specs.declared.Stamp.{Stamp}
use Rattle.event_stamps.specs.Order.{Before}
use Rattle.event_stamps.specs.Least.{IsLeast, IsLeastOf, earlier_of}
use Rattle.event_stamps.proofs.Least.{one_least}
use Rattle.region_view.specs.declared.action.Action.{Action}
use Rattle.region_view.specs.declared.rows.Message.{Message}
use Rattle.region_view.specs.Acting.{stamp_of}
use Rattle.region_view.specs.Placing.{IsNative}
use Rattle.region_view.specs.Views.{ViewData, rows_in}
use Rattle.region_queue.specs.Queue.{QueueData, IsOf}
use Rattle.local_run.specs.declared.home.Home.{Home}
use Rattle.local_run.specs.declared.entry.Entry.{Entry}
use Rattle.region_core.specs.declared.live.Live.{Live}
use Rattle.local_run.specs.declared.moves.Move.TheVariants.{Answer, Run, TakeIn}
use Rattle.local_run.specs.declared.answers.Step.TheVariants.{Tied}
use Rattle.local_run.specs.Entries.{entry_stamp, clock_of, last_entry_stamp}
use Rattle.local_run.specs.LocalRun.{At, Local, trail_of, IsInPlace, IsOwn, IsWaiting, IsDue, ComesToInView}
use Rattle.local_run.specs.Answers.{HasDue, IsInTurn, IsShared}
use Rattle.region_parts.specs.Inbox.{InboxData, next_from, head_stamp, IsHeadOf, IsLeastHead, IsSharedHead}
use Rattle.local_run.specs.Taken.{taken_of}
use Rattle.event_log.specs.Logged.{entries_in}
use Rattle.region_core.specs.Live.{run_in, start_in, now_in, IsInbox, IsBodyOf}
use Rattle.local_run.specs.Moves.{Fits, ComesAfter}
use Rattle.local_run.proofs.Among.{waits_first, same_or_other}
use Rattle.local_run.proofs.Heads.{NoHeadBefore, due_of_heads, none_waits}
use Rattle.local_run.proofs.Taken.{next_waits, none_is_next}
use Rattle.local_run.proofs.Right.{waiting_rise}
use Rattle.local_run.proofs.Choices.{heard_is_move, heads_are_shared}
use Rattle.region_view.proofs.ValidRows.{actions_are_valid}
use Rattle.local_run.proofs.Valid.{own_candidate, valid_now}
use Rattle.region_parts.proofs.Firsts.{none_past, no_trail_past, none_in_nothing}

below_or_past : (q n : ℕ) → (q < n) ⊎ (n ≤ q)
below_or_past q n = grind arith

-- ---- what waits, by the inbox
next_at : (home : Home) (live : Live) → IsInbox home (entries_in live.log) live.inbox → (q : ℕ) →
    q < home.grid.regions → (o : Option Message) → next_from live.inbox q ≡ o →
    slice_get (trail_of live.inbox.heard q) (taken_of q (entries_in live.log)) ≡ o
next_at home live inbox q lt o next =
    subst (λ (n : ℕ). slice_get (trail_of live.inbox.heard q) n ≡ o) (inbox.taken q lt) next

pub waits_next : (home : Home) (live : Live) → IsInbox home (entries_in live.log) live.inbox → (q : ℕ)
    (m : Message) → next_from live.inbox q ≡ Some m →
    (rest : List Message) × (trail_of (now_in live).waiting q ≡ m ∷ rest)
waits_next home live inbox q m next = elim (below_or_past q home.grid.regions) [
  | inl lt ↦ (
    drop (suc (taken_of q (entries_in live.log))) (trail_of live.inbox.heard q),
    next_waits (start_in live) (entries_in live.log) q m (next_at home live inbox q lt (Some m) next),
  )
  | inr past ↦
      let none = none_past live.inbox q (let same = inbox.regions in omega arith) in
      absurd (none-some m (sym none ∙ next))
]

none_next : (home : Home) (live : Live) → IsInbox home (entries_in live.log) live.inbox → (q : ℕ) →
    next_from live.inbox q ≡ None → trail_of (now_in live).waiting q ≡ []
none_next home live inbox q next = elim (below_or_past q home.grid.regions) [
  | inl lt ↦ none_is_next (start_in live) (entries_in live.log) q (next_at home live inbox q lt None next)
  | inr past ↦
      let nothing = no_trail_past live.inbox.heard q (let same = inbox.regions in omega arith) in
      none_is_next (start_in live) (entries_in live.log) q
      (ap (λ (ms : List Message). slice_get ms (taken_of q (entries_in live.log))) nothing
      ∙ none_in_nothing (taken_of q (entries_in live.log)))
]

pub next_of_waits : (home : Home) (live : Live) → IsInbox home (entries_in live.log) live.inbox → (q : ℕ)
    (m : Message) (rest : List Message) → trail_of (now_in live).waiting q ≡ m ∷ rest →
    next_from live.inbox q ≡ Some m
next_of_waits home live inbox q m rest waits = by_next (next_from live.inbox q) refl
  where
    no_message : [] ≡ m ∷ rest → ⊥
    no_message e = cc

    same_first : {n : Message} {more : List Message} → n ∷ more ≡ m ∷ rest → n ≡ m
    same_first e = cc

    by_next : (o : Option Message) → next_from live.inbox q ≡ o → next_from live.inbox q ≡ Some m
    by_next None is = absurd (no_message (sym (none_next home live inbox q is) ∙ waits))
    by_next (Some n) is =
        let first = waits_next home live inbox q n is in
        is ∙ ap (λ (v : Message). Some v) (same_first (sym first.1 ∙ waits))

-- the least of the first messages is the least that waits
pub least_waiting : (home : Home) (floor : Stamp) (live : Live) (head : Option (ℕ × Stamp)) →
    IsBodyOf home floor live → IsLeastHead live.inbox head →
    IsLeastOf (IsWaiting (now_in live).waiting) (head_stamp head)
least_waiting home floor live None is none =
    none_waits (now_in live).waiting (λ q. none_next home live is.inbox q (none q))
least_waiting home floor live (Some head) is ((m, next, same), least) =
    let first = waits_next home live is.inbox head.0 m next in
    subst (IsLeast (IsWaiting (now_in live).waiting)) same
    (due_of_heads (now_in live).waiting head.0 m first.0
    (waiting_rise home (run_in floor live) is.right) first.1
    (λ q n rest waits. subst (λ (s : Stamp). ¬ Before n.stamp s) (sym same)
    (least q n (next_of_waits home live is.inbox q n rest waits))))

-- ---- the due stamp
-- what the queue finds
pub own_least : (h : Home) (queue : QueueData) (view : ViewData) (o : Option Stamp) →
    IsOf queue h.rules h.grid h.number →
    IsLeastOf (IsNative queue.rules queue.grid queue.region (rows_in view)) o →
    IsLeastOf (IsOwn h view) o
unfolding IsOwn
own_least h queue view o of least =
    subst (λ (x : Home). IsLeastOf (IsNative x.rules x.grid x.number (rows_in view)) o)
    (λ i. record { number = of.region i; rules = of.rules i; grid = of.grid i }) least

-- if no message waits
pub alone_is_earlier : (own : Option Stamp) → earlier_of own None ≡ own
alone_is_earlier None = refl
alone_is_earlier (Some s) = refl

-- a native candidate has the due stamp if and only if the least of them does
pub own_at : (h : Home) (a : At) (own due : Stamp) → IsLeast (IsOwn h a.view) own → IsDue h a due →
    (own ≡ due) ↔ IsOwn h a.view due
own_at h a own due least is = (
  λ same. subst (IsOwn h a.view) same least.0,
  λ here. one_least (IsOwn h a.view) own due least (here, λ t native. is.1 t (inl native)),
)

-- if the least message doesn't have the due stamp, none has
pub none_at : (h : Home) (a : At) (s due : Stamp) → IsLeast (IsWaiting a.waiting) s → IsDue h a due →
    s ≢ due → ¬ IsWaiting a.waiting due
none_at h a s due least is other here =
    other (one_least (IsWaiting a.waiting) s due least (here, λ t waits. is.1 t (inr waits)))

pub own_due : (h : Home) (a : At) (due : Stamp) → IsDue h a due → ¬ IsWaiting a.waiting due →
    IsOwn h a.view due
own_due h a due is alone = elim is.0 [ inl native ↦ native | inr waits ↦ absurd (alone waits) ]

no_head_before : (h : Home) (a : At) (due : Stamp) → IsDue h a due → NoHeadBefore a.waiting due
no_head_before h a due is = λ q n rest first less.
    is.1 n.stamp (inr (waits_first a.waiting q n rest first)) less

-- ---- turns
pub too_early : (floor s : Stamp) (clock : Option Stamp) → Before s floor → ¬ ComesAfter floor clock s
too_early floor s None lt late = late lt
too_early floor s (Some last) lt after = after.0 lt

pub turn_by : (r : Local) (s : Stamp) → ComesAfter r.floor (last_entry_stamp r.log) s ↔ IsInTurn r s
turn_by r s = by_log r.log
  where
    last : (e : Entry) (es : List Entry) → (e ∷ es ≡ []) ⊎ Before (clock_of (entry_stamp e) es) s →
        Before (clock_of (entry_stamp e) es) s
    last e es (inl none) = cc
    last e es (inr lt) = lt

    by_log : (log : List Entry) → ComesAfter r.floor (last_entry_stamp log) s ↔
        ((¬ Before s r.floor) × ((log ≡ []) ⊎ Before (clock_of r.floor log) s))
    by_log [] = (λ late. (late, inl refl), λ turn. turn.0)
    by_log (e ∷ es) = (λ after. (after.0, inr after.1), λ turn. (turn.0, last e es turn.1))

-- ---- messages
pub tied_by_own : (h : Home) (floor : Stamp) (live : Live) (q : ℕ) (due : Stamp) → IsBodyOf h floor live →
    HasDue h (run_in floor live) due → IsInTurn (run_in floor live) due → IsHeadOf live.inbox q due →
    IsOwn h (now_in live).view due → Fits h (run_in floor live) (Answer (Tied due))
tied_by_own h floor live q due is here turn (m, next, same) own =
    let first = waits_next h live is.inbox q m next in
    let waits = subst (IsWaiting (now_in live).waiting) same
    (waits_first (now_in live).waiting q m first.0 first.1) in
    (here, turn, inl (own, waits), refl)

pub tied_by_other : (h : Home) (floor : Stamp) (live : Live) (q : ℕ) (due : Stamp) → IsBodyOf h floor live →
    HasDue h (run_in floor live) due → IsInTurn (run_in floor live) due → IsHeadOf live.inbox q due →
    IsSharedHead live.inbox q due → Fits h (run_in floor live) (Answer (Tied due))
tied_by_other h floor live q due is here turn (m, next, same) (k, n, other, there, also) =
    let first = waits_next h live is.inbox q m next in
    let second = waits_next h live is.inbox k n there in
    let shared = heads_are_shared h (now_in live) q k m n first.0 second.0 (λ e. other (sym e))
    first.1 second.1 (same ∙ sym also) in
    (here, turn, subst (IsShared h (now_in live)) same shared, refl)

-- a region has one first message
pub first_has : (inbox : InboxData) (q : ℕ) (s : Stamp) (m : Message) → IsHeadOf inbox q s →
    next_from inbox q ≡ Some m → m.stamp ≡ s
first_has inbox q s m (n, next, same) here =
    ap (λ (v : Message). v.stamp) (same_Some m n (sym here ∙ next)) ∙ same

pub take_fits : (h : Home) (floor : Stamp) (live : Live) (q : ℕ) (m : Message) → IsBodyOf h floor live →
    HasDue h (run_in floor live) m.stamp → IsInTurn (run_in floor live) m.stamp →
    next_from live.inbox q ≡ Some m → ¬ IsOwn h (now_in live).view m.stamp →
    ¬ IsSharedHead live.inbox q m.stamp → Fits h (run_in floor live) (TakeIn q m)
take_fits h floor live q m is due turn next alone only =
    let first = waits_next h live is.inbox q m next in (
      due,
      turn,
      heard_is_move h (now_in live) q m first.0 (waiting_rise h (run_in floor live) is.right) due.1
          first.1 alone (no_head_before h (now_in live) m.stamp due.1)
          (λ r n more there same. elim (same_or_other r q) [
            | inl here ↦ here
            | inr other ↦ absurd (only
                (r, n, other, next_of_waits h live is.inbox r n more there, same))
          ]),
    )

-- ---- events
pub event_fits : (h : Home) (floor : Stamp) (live : Live) (due : Stamp) (x : Action) → IsInPlace h →
    IsBodyOf h floor live → HasDue h (run_in floor live) due → IsInTurn (run_in floor live) due →
    ¬ IsWaiting (now_in live).waiting due → ComesToInView h (now_in live).view due (Ok x) →
    Fits h (run_in floor live) (Run x)
event_fits h floor live due x place is here turn alone comes =
    let own = own_due h (now_in live) due here.1 alone in
    let valid = actions_are_valid h.rules h.grid (rows_in (now_in live).view) due x place.checked
    place.grid (valid_now h (run_in floor live) place is.right)
    (own_candidate h (now_in live).view due own) comes in
    let same : due ≡ stamp_of x = sym valid.stamp in (
      subst (HasDue h (run_in floor live)) same here,
      subst (IsInTurn (run_in floor live)) same turn,
      record {
        due = subst (IsDue h (now_in live)) same here.1;
        native = subst (IsOwn h (now_in live).view) same own;
        alone = subst (λ (s : Stamp). ¬ IsWaiting (now_in live).waiting s) same alone;
        comes = subst (λ (s : Stamp). ComesToInView h (now_in live).view s (Ok x)) same comes;
      },
    )
