-- One region hears another: what it keeps.
use Rattle.std.proofs.Common.{◌≡◌, ◌≢◌, ◌⊎◌, inl, inr, ℕ, List, [], ◌∷◌, ◌++◌, append-nil, sym, ap, ◌∙◌, subst, refl}
use Rattle.std.specs.Prelude.{if◌then◌else◌}
use Rattle.event_stamps.specs.declared.Stamp.{Stamp}
use Rattle.event_stamps.specs.Order.{Before}
use Rattle.event_stamps.proofs.StampOrder.{before_decides, not_before_itself}
use Rattle.region_view.specs.declared.rows.Message.{Message}
use Rattle.region_view.specs.Views.{ViewData}
use Rattle.region_view.specs.Setting.{set_rows, after_action}
use Rattle.region_messages.specs.Trails.{is_before, IsAmong, Rises, below, AgreeBelow, AgreesUpTo}
use Rattle.region_messages.proofs.Order.{is_before_true, is_before_false, before_not_before}
use Rattle.region_messages.proofs.Parts.{among_below, below_among, below_first, below_none}
use Rattle.cell_sequence.specs.State.{CellStateData}
use Rattle.local_run.specs.declared.home.Home.{Home}
use Rattle.local_run.specs.declared.entry.Entry.{Entry}
use Rattle.local_run.specs.declared.entry.Entry.TheVariants.{Native, Heard}
use Rattle.local_run.specs.declared.answers.Hearing.{Hearing}
use Rattle.local_run.specs.declared.answers.Hearing.TheVariants.{Same, Rewound, Later, Apart}
use Rattle.local_run.specs.Entries.{entry_stamp, entries_below, entries_from}
use Rattle.local_run.specs.LocalRun.{At, Trails, Local, trail_of, messages_after_first, without_first, after_entry, after_log}
use Rattle.local_run.specs.LocalRun.{start_of, now_of, Moves, IsWaiting, IsOwn, IsOffered, IsRight}
use Rattle.local_run.specs.LocalRun.{sent_to}
use Rattle.local_run.specs.Answers.{HasHeard, HearsFrom}
use Rattle.local_run.specs.Opening.{home_of}
use Rattle.local_run.proofs.Among.{same_trail, other_trail, same_or_other}
use Rattle.local_run.proofs.Logs.{below_then_from, all_before_turn, among_before}
use Rattle.local_run.proofs.Right.{waiting_was_heard, right_rewound}
use Rattle.local_run.proofs.InTurn.{waiting_in_turn}
use Rattle.local_run.proofs.Determined.{entries_were_due}
use Rattle.local_run.proofs.Sent.{sent_below}

-- ---- what is new
pub record News (k : ℕ) (sent : List Message) (r new : Local) : Type 0 where
  pub at : Stamp
  pub agree : AgreesUpTo (trail_of r.heard k) sent at
  pub has : HasHeard k sent r at new

-- a hearing leaves the region as it was, or something is new
abbrev pub HearsWhat : ℕ → List Message → Local → Local → Type 0
HearsWhat k sent r new = ((trail_of r.heard k ≡ sent) × (new ≡ r)) ⊎ News k sent r new

pub hears_what : (k : ℕ) (sent : List Message) (r new : Local) (a : Hearing) → HearsFrom k sent r a new →
    HearsWhat k sent r new
hears_what k sent r new Same h = inl h
hears_what k sent r new (Later d) h = inr (record { at = d; agree = h.0; has = h.2 })
hears_what k sent r new (Rewound d) h = inr (record { at = d; agree = h.0; has = h.2 })
hears_what k sent r new Apart h = absurd h

-- ---- what is due
-- a message that was heard waits after a log, or was taken in
abbrev WaitsOrTaken : At → List Entry → ℕ → Message → Type 0
WaitsOrTaken a log q m = IsAmong m (trail_of (after_log a log).waiting q) ⊎ IsAmong (Heard q m) log

taken_later : (a : At) (e : Entry) (es : List Entry) (q : ℕ) (m : Message) →
    WaitsOrTaken (after_entry a e) es q m → WaitsOrTaken a (e ∷ es) q m
taken_later a e es q m (inl waits) = inl waits
taken_later a e es q m (inr taken) = inr (inr taken)

waits_or_taken : (h : Home) (a : At) (log : List Entry) (q : ℕ) (m : Message) → Moves h a log →
    IsAmong m (trail_of a.waiting q) → WaitsOrTaken a log q m
waits_or_taken h a [] q m moves among = inl among
waits_or_taken h a (Native x ∷ es) q m moves among = taken_later a (Native x) es q m
    (waits_or_taken h (after_entry a (Native x)) es q m moves.1 among)
waits_or_taken h a (Heard p n ∷ es) q m moves among =
    by_place (λ left. taken_later a (Heard p n) es q m
    (waits_or_taken h (after_entry a (Heard p n)) es q m moves.1 left)) (same_or_other q p)
  where
    at_first : q ≡ p →
        (IsAmong m (trail_of (without_first a.waiting p) q) → WaitsOrTaken a (Heard p n ∷ es) q m) →
        IsAmong m (n ∷ moves.0.first.0) → WaitsOrTaken a (Heard p n ∷ es) q m
    at_first here later (inl same) =
        inr (inl (ap (λ (x : ℕ). Heard x m) here ∙ ap (Heard p) same))
    at_first here later (inr more) = later (subst (IsAmong m)
        (sym (ap (trail_of (without_first a.waiting p)) here ∙ same_trail a.waiting p
        ∙ ap messages_after_first moves.0.first.1)) more)

    by_place : (IsAmong m (trail_of (without_first a.waiting p) q) → WaitsOrTaken a (Heard p n ∷ es) q m) →
        (q ≡ p) ⊎ (q ≢ p) → WaitsOrTaken a (Heard p n ∷ es) q m
    by_place later (inl here) = at_first here later
        (subst (IsAmong m) (ap (trail_of a.waiting) here ∙ moves.0.first.1) among)
    by_place later (inr other) = later (subst (IsAmong m) (sym (other_trail a.waiting p q other)) among)

-- the first of the entries from a stamp on isn't before it
first_from : (d : Stamp) (log : List Entry) (e : Entry) (es : List Entry) → entries_from d log ≡ e ∷ es →
    ¬ Before (entry_stamp e) d
first_from d [] e es is = cc
first_from d (x ∷ xs) e es is =
    by_test (before_decides (entry_stamp x) d) is (first_from d xs e es)
  where
    by_test : Before (entry_stamp x) d ⊎ ¬ Before (entry_stamp x) d →
        (if is_before (entry_stamp x) d then entries_from d xs else x ∷ xs) ≡ e ∷ es →
        (entries_from d xs ≡ e ∷ es → ¬ Before (entry_stamp e) d) → ¬ Before (entry_stamp e) d
    by_test (inl lt) h more = more (rw (is_before_true (entry_stamp x) d lt) at h)
    by_test (inr not) h more =
        let same : x ∷ xs ≡ e ∷ es = rw (is_before_false (entry_stamp x) d not) at h in
        let first : x ≡ e = cc in
        subst (λ (v : Entry). ¬ Before (entry_stamp v) d) first not

-- what is offered before d after the entries before d is offered after all
offered_now : (h : Home) (r : Local) (d s : Stamp) → IsRight h r → Before s d →
    IsOffered h (after_log (start_of r) (entries_below d r.log)) s → IsOffered h (now_of r) s
offered_now h r d s right lt off = by_rest (entries_from d r.log) refl
  where
    by_rest : (rest : List Entry) → entries_from d r.log ≡ rest → IsOffered h (now_of r) s
    by_rest [] is = subst (λ (log : List Entry). IsOffered h (after_log (start_of r) log) s)
        (sym (below_then_from d r.log ∙ ap (λ v. entries_below d r.log ++ v) is
        ∙ append-nil (entries_below d r.log))) off
    by_rest (e ∷ es) is =
        let due = entries_were_due h r (entries_below d r.log) es e right
        (below_then_from d r.log ∙ ap (λ v. entries_below d r.log ++ v) is) in
        absurd (due.1 s off (before_not_before s (entry_stamp e) d lt (first_from d r.log e es is)))

-- views go on without what waits
same_views : (view : ViewData) (w v : Trails) (log : List Entry) →
    (after_log (record { view = view; waiting = v }) log).view
    ≡ (after_log (record { view = view; waiting = w }) log).view
same_views view w v [] = refl
same_views view w v (Native x ∷ es) = same_views (after_action view x) w v es
same_views view w v (Heard q m ∷ es) =
    same_views (set_rows view m.rows) (without_first w q) (without_first v q) es

-- what a message that was heard agrees with
heard_before : (k q : ℕ) (sent : List Message) (r new : Local) (m : Message) (news : News k sent r new) →
    Rises (trail_of new.heard q) → IsAmong m (trail_of new.heard q) → Before m.stamp news.at →
    IsAmong m (trail_of r.heard q)
heard_before k q sent r new m news rises among lt = elim (same_or_other q k) [
  | inr other ↦ subst (IsAmong m) (news.has.others q other) among
  | inl here ↦
      let at = trail_of r.heard in
      let new_at = ap (trail_of new.heard) here ∙ news.has.trail in
      subst (λ (x : ℕ). IsAmong m (at x)) (sym here)
      (below_among news.at (at k) m
      (subst (IsAmong m) (sym (news.agree.below news.at (not_before_itself news.at)))
      (among_below news.at sent m (subst Rises new_at rises) (subst (IsAmong m) new_at among) lt)))
]

-- before the news nothing is due that wasn't due before
due_before : (h : Home) (k : ℕ) (sent : List Message) (r new : Local) (s : Stamp) → IsRight h r →
    IsRight h new → (news : News k sent r new) → Before s news.at → IsOffered h (now_of new) s →
    IsOffered h (now_of r) s
unfolding IsWaiting
due_before h k sent r new s right new_right news lt off =
    offered_now h r news.at s right lt (by_offer off)
  where
    kept : List Entry
    kept = entries_below news.at r.log

    view : (now_of new).view ≡ (after_log (start_of r) (entries_below news.at r.log)).view
    view = ap (λ (v : ViewData). (after_log (record { view = v; waiting = new.heard }) new.log).view)
        news.has.base
        ∙ ap (λ (log : List Entry). (after_log (record { view = r.base; waiting = new.heard }) log).view)
        news.has.log
        ∙ same_views r.base r.heard new.heard (entries_below news.at r.log)

    moves : Moves h (start_of r) (entries_below news.at r.log)
    moves = (right_rewound h r news.at right).moves

    taken : (q : ℕ) (m : Message) → IsAmong m (trail_of (now_of new).waiting q) → m.stamp ≡ s →
        IsAmong (Heard q m) (entries_below news.at r.log) → ⊥
    taken q m among is done =
        let turn = waiting_in_turn h new s new_right (q, m, among, is) in
        let all = all_before_turn new.floor s new.log new_right.rises turn.1 in
        let before = among_before s new.log (Heard q m) all
        (subst (IsAmong (Heard q m)) (sym news.has.log) done) in
        not_before_itself s (subst (λ (v : Stamp). Before v s) is before)

    by_offer : IsOffered h (now_of new) s →
        IsOffered h (after_log (start_of r) (entries_below news.at r.log)) s
    by_offer (inl own) = inl (subst (λ (v : ViewData). IsOwn h v s) view own)
    by_offer (inr (q, m, among, is)) =
        let heard = heard_before k q sent r new m news (new_right.heard q).rises
        (waiting_was_heard (start_of new) new.log q m among)
        (subst (λ (v : Stamp). Before v news.at) (sym is) lt) in
        elim (waits_or_taken h (start_of r) (entries_below news.at r.log) q m moves heard) [
          | inl waits ↦ inr (q, m, waits, is)
          | inr done ↦ absurd (taken q m among is done)
        ]

-- ---- what was sent
-- if d isn't before h, what is before h of the entries before d is what is before h of all
below_below : (h d : Stamp) (ms : List Message) → ¬ Before d h → below h (below d ms) ≡ below h ms
below_below h d [] late = refl
below_below h d (m ∷ ms) late = elim (before_decides m.stamp d) [
  | inl lt ↦ ap (below h) (below_first d m ms lt)
      ∙ ap (λ (v : List Message). if is_before m.stamp h then m ∷ v else []) (below_below h d ms late)
  | inr not ↦ ap (below h) (below_none d m ms not)
      ∙ sym (below_none h m ms (λ less. not (before_not_before m.stamp d h less late)))
]

-- ---- a run that stands for another below h
pub record IsLike (state : CellStateData) (h : Stamp) (k : ℕ) (r new : Local) : Type 0 where
  pub sent : (q : ℕ) →
      AgreeBelow h (sent_to state.grid q new.base new.log) (sent_to state.grid q r.base r.log)
  pub heard : (q : ℕ) → AgreeBelow h (trail_of r.heard q) (trail_of new.heard q)
  pub due : (s : Stamp) → Before s h → IsOffered (home_of state k) (now_of new) s →
      IsOffered (home_of state k) (now_of r) s

pub like_itself : (state : CellStateData) (h : Stamp) (k : ℕ) (r : Local) → IsLike state h k r r
like_itself state h k r = record { sent = λ q. refl; heard = λ q. refl; due = λ s lt off. off }

-- with news that aren't before h
pub like_with_news : (state : CellStateData) (h : Stamp) (q k : ℕ) (sent : List Message) (r new : Local) →
    IsRight (home_of state q) r → IsRight (home_of state q) new → (news : News k sent r new) →
    ¬ Before news.at h → IsLike state h q r new
like_with_news state h q k sent r new right new_right news late = record {
  sent = λ x. ap (below h) (ap (λ (v : ViewData). sent_to state.grid x v new.log) news.has.base
      ∙ ap (sent_to state.grid x r.base) news.has.log
      ∙ sent_below state.grid x r.base news.at r.floor r.log right.rises)
      ∙ below_below h news.at (sent_to state.grid x r.base r.log) late;
  heard = λ x. elim (same_or_other x k) [
    | inl here ↦ subst (λ (n : ℕ). AgreeBelow h (trail_of r.heard n) (trail_of new.heard n)) (sym here)
        (news.agree.below h late ∙ ap (below h) (sym news.has.trail))
    | inr other ↦ ap (below h) (sym (news.has.others x other))
  ];
  due = λ s lt off. due_before (home_of state q) k sent r new s right new_right news
      (before_not_before s news.at h lt late) off;
}
