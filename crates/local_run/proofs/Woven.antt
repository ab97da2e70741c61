-- A message that is woven into a log.
use Rattle.std.proofs.Common.{◌≡◌, ◌⊎◌, inl, inr, ℕ, List, [], ◌∷◌, ◌++◌, length, length-append, sym, ap, ◌∙◌, subst, refl, arith}
use Rattle.event_stamps.specs.declared.Stamp.{Stamp}
use Rattle.event_stamps.specs.Order.{Before}
use Rattle.event_stamps.proofs.StampOrder.{before_trans, not_before_itself}
use Rattle.event_stamps.proofs.IsBefore.{before_not_before}
use Rattle.event_stamps.proofs.Rising.{among_right, from_joined, last_joined}
use Rattle.event_stamps.proofs.Parts.{from_here}
use Rattle.region_view.specs.declared.rows.Message.{Message}
use Rattle.region_view.specs.Views.{ViewData}
use Rattle.region_view.specs.Setting.{set_rows}
use Rattle.region_messages.specs.Trails.{IsAmong, below, from, AgreeBelow, with_message, message_key}
use Rattle.region_messages.proofs.Parts.{below_replaced}
use Rattle.local_run.specs.declared.home.Home.{Home}
use Rattle.local_run.specs.declared.entry.Entry.{Entry}
use Rattle.local_run.specs.declared.entry.Entry.TheVariants.{Native, Heard}
use Rattle.local_run.specs.LocalRun.{At, Local, Trails, trail_of, messages_after_first, start_of, now_of, after_entry, after_log}
use Rattle.local_run.specs.Entries.{entry_stamp, entries_below, entries_from, EntriesRiseAfter, clock_of}
use Rattle.local_run.specs.LocalRun.{IsWaiting, IsOwn, IsOffered, IsDue, IsMove, IsHeardMove, Moves, IsHearable, IsRight, sent_to}
use Rattle.local_run.specs.Weaving.{AreAside, MayWeave, WeavingKeepsRight}
use Rattle.local_run.proofs.Among.{same_trail, other_trail, same_or_other, waits_among, waits_first}
use Rattle.local_run.proofs.Logs.{all_below, moves_split, moves_join, after_join, below_then_from}
use Rattle.local_run.proofs.Hears.{hearing, right_heard}
use Rattle.local_run.proofs.Sent.{sent_joined}
use Rattle.local_run.proofs.Staying.{SameTrails, IsLaterThan, beside, stays, stays_sent}
use Rattle.local_run.proofs.Inserted.{IsInserted, with_first, inserted_along}

due_of : (h : Home) (a : At) (e : Entry) → IsMove h a e → IsDue h a (entry_stamp e)
due_of h a (Native x) move = move.due
due_of h a (Heard q m) move = move.due

-- ---- the message at its place
-- if all that is offered comes after a message, which is the first of those that wait, it is the next move
taken_at_place : (h : Home) (a b : At) (q : ℕ) (m : Message) →
    ((s : Stamp) → IsOffered h a s → Before m.stamp s) → b.view ≡ a.view →
    IsInserted q m a.waiting b.waiting →
    IsHeardMove h b q m × SameTrails a.waiting (after_entry b (Heard q m)).waiting
unfolding IsWaiting
taken_at_place h a b q m after view inserted = (
  record {
    due = (inr (waits_first b.waiting q m (trail_of a.waiting q) first), not_before);
    first = (trail_of a.waiting q, first);
    alone = λ own. not_before_itself m.stamp (after m.stamp (inl (own_before m.stamp own)));
    only = λ k n among is. elim (waits k n among) [
      | inl same ↦ same.0
      | inr later ↦ absurd (not_before_itself m.stamp (subst (Before m.stamp) is later))
    ];
  },
  same,
)
  where
    late : (n : Message) → IsAmong n (trail_of a.waiting q) → ¬ Before n.stamp m.stamp
    late n among less = not_before_itself m.stamp
        (before_trans m.stamp n.stamp m.stamp (after n.stamp (inr (waits_among a.waiting q n among))) less)

    first : trail_of b.waiting q ≡ m ∷ trail_of a.waiting q
    first = inserted.0 ∙ with_first m (trail_of a.waiting q) late

    own_before : (s : Stamp) → IsOwn h b.view s → IsOwn h a.view s
    own_before s own = subst (λ (v : ViewData). IsOwn h v s) view own

    at_q : (n : Message) → IsAmong n (m ∷ trail_of a.waiting q) → (n ≡ m) ⊎ Before m.stamp n.stamp
    at_q n (inl same) = inl same
    at_q n (inr more) = inr (after n.stamp (inr (waits_among a.waiting q n more)))

    waits : (k : ℕ) (n : Message) → IsAmong n (trail_of b.waiting k) →
        ((k ≡ q) × (n ≡ m)) ⊎ Before m.stamp n.stamp
    waits k n among = elim (same_or_other k q) [
      | inl here ↦ elim (at_q n (subst (IsAmong n) first
          (subst (λ (x : ℕ). IsAmong n (trail_of b.waiting x)) here among))) [
            | inl same ↦ inl (here, same)
            | inr later ↦ inr later
          ]
      | inr other ↦ inr (after n.stamp
          (inr (waits_among a.waiting k n (subst (IsAmong n) (inserted.1 k other) among))))
    ]

    waiting_late : (s : Stamp) → IsWaiting b.waiting s → ¬ Before s m.stamp
    waiting_late s (k, n, among, is) less = elim (waits k n among) [
      | inl same ↦ not_before_itself m.stamp
          (subst (λ (x : Message). Before x.stamp m.stamp) same.1
          (subst (λ (t : Stamp). Before t m.stamp) (sym is) less))
      | inr later ↦ not_before_itself m.stamp (before_trans m.stamp n.stamp m.stamp later
          (subst (λ (t : Stamp). Before t m.stamp) (sym is) less))
    ]

    not_before : (s : Stamp) → IsOffered h b s → ¬ Before s m.stamp
    not_before s (inl own) less = not_before_itself m.stamp
        (before_trans m.stamp s m.stamp (after s (inl (own_before s own))) less)
    not_before s (inr waiting) less = waiting_late s waiting less

    same : SameTrails a.waiting (after_entry b (Heard q m)).waiting
    same k = elim (same_or_other k q) [
      | inl here ↦ subst (λ (x : ℕ). trail_of (after_entry b (Heard q m)).waiting x ≡ trail_of a.waiting x)
          (sym here) (same_trail b.waiting q ∙ ap messages_after_first first)
      | inr other ↦ other_trail b.waiting q k other ∙ inserted.1 k other
    ]

-- ---- the whole
-- the local run with these trails and this log
abbrev with_log : Local → Trails → List Entry → Local
with_log r v log = record { floor = r.floor; base = r.base; heard = v; log = log }

-- what holds of it
abbrev IsSound : Home → Local → Message → Local → Type 0
IsSound h r m new = IsRight h new × ((now_of new).view ≡ set_rows (now_of r).view m.rows)
    × ((k : ℕ) → sent_to h.grid k new.base new.log ≡ sent_to h.grid k r.base r.log)

woven_with : (h : Home) (r : Local) (q : ℕ) (m : Message) (v : Trails) (e : Entry) (ys : List Entry) →
    IsRight h r → MayWeave h r m → IsHearable h r.floor q (with_message m (trail_of r.heard q)) →
    IsInserted q m r.heard v → entries_from m.stamp r.log ≡ e ∷ ys →
    IsSound h r m (with_log r v (entries_below m.stamp r.log ++ Heard q m ∷ e ∷ ys))
woven_with h r q m v e ys right may hearable inserted is = (
  record {
    base = right.base;
    floor = right.floor;
    heard = heard.heard;
    moves = moves_join h start xs (Heard q m ∷ e ∷ ys) heard.moves (taken.0, moves_on);
    rises = from_joined entry_stamp r.floor m.stamp xs (Heard q m ∷ e ∷ ys) heard.rises
        (all_below m.stamp r.log) (not_before_itself m.stamp, rises)
        (hearable.from_floor m (among_right m (below m.stamp (trail_of r.heard q)) _ (inl refl)), rises);
    few =
        let sizes = ap length parts ∙ length-append xs (e ∷ ys) in
        let all = length-append xs (Heard q m ∷ e ∷ ys) in
        let room = may.room in
        omega arith;
  },
  view,
  sent,
)
  where
    xs : List Entry
    xs = entries_below m.stamp r.log

    start : At
    start = record { view = r.base; waiting = v }

    a : At
    a = after_log (start_of r) xs

    b : At
    b = after_log start xs

    parts : r.log ≡ xs ++ e ∷ ys
    parts = below_then_from m.stamp r.log ∙ ap (λ (es : List Entry). xs ++ es) is

    rises : EntriesRiseAfter m.stamp (e ∷ ys)
    rises = subst (EntriesRiseAfter m.stamp) is may.after

    moves : Moves h (start_of r) xs × Moves h a (e ∷ ys)
    moves = moves_split h (start_of r) xs (e ∷ ys) (subst (Moves h (start_of r)) parts right.moves)

    aside : AreAside h m.rows a (e ∷ ys)
    aside = subst (AreAside h m.rows a) is may.aside

    at_end : (now_of r) ≡ after_log a (e ∷ ys)
    at_end = ap (after_log (start_of r)) parts ∙ after_join (start_of r) xs (e ∷ ys)

    later : IsLaterThan h m.rows (after_log a (e ∷ ys)).view (clock_of m.stamp (e ∷ ys))
    later = subst (λ (x : At). IsLaterThan h m.rows x.view (clock_of m.stamp (e ∷ ys))) at_end
        (subst (IsLaterThan h m.rows (now_of r).view)
        (ap (clock_of r.floor) parts ∙ last_joined entry_stamp r.floor xs e ys) may.later)

    -- the entries before it
    heard : IsRight h (hearing m.stamp v r)
    heard = right_heard h r q (with_message m (trail_of r.heard q)) m.stamp v right agree hearable
        inserted.0 inserted.1
      where
        agree : AgreeBelow m.stamp (trail_of r.heard q) (with_message m (trail_of r.heard q))
        agree = sym (ap (λ (ms : List Message). below m.stamp (below m.stamp (trail_of r.heard q) ++ ms))
            (sym (from_here message_key m.stamp m (from m.stamp (trail_of r.heard q)) (not_before_itself m.stamp)))
            ∙ below_replaced m.stamp (trail_of r.heard q) (m ∷ from m.stamp (trail_of r.heard q)))

    along : IsInserted q m a.waiting b.waiting × (b.view ≡ a.view)
    along = inserted_along h q m xs (start_of r) v moves.0 (all_below m.stamp r.log) inserted

    -- the message
    after : (s : Stamp) → IsOffered h a s → Before m.stamp s
    after s offered = before_not_before m.stamp s (entry_stamp e) rises.0
        ((due_of h a e moves.1.0).1 s offered)

    taken : IsHeardMove h b q m × SameTrails a.waiting (after_entry b (Heard q m)).waiting
    taken = taken_at_place h a b q m after along.1 along.0

    -- the entries after it
    c : Trails
    c = (after_entry b (Heard q m)).waiting

    next : after_entry b (Heard q m) ≡ beside m.rows a c
    next = λ i. record { view = set_rows (along.1 i) m.rows; waiting = c }

    stay : Moves h (beside m.rows a c) (e ∷ ys)
        × ((after_log (beside m.rows a c) (e ∷ ys)).view ≡ set_rows (after_log a (e ∷ ys)).view m.rows)
    stay = stays h m.rows a c m.stamp (e ∷ ys) taken.1 moves.1 aside rises later

    moves_on : Moves h (after_entry b (Heard q m)) (e ∷ ys)
    moves_on = subst (λ (x : At). Moves h x (e ∷ ys)) (sym next) stay.0

    log : List Entry
    log = xs ++ Heard q m ∷ e ∷ ys

    view : (after_log start log).view ≡ set_rows (now_of r).view m.rows
    view = ap (λ (x : At). x.view) (after_join start xs (Heard q m ∷ e ∷ ys))
        ∙ ap (λ (x : At). (after_log x (e ∷ ys)).view) next ∙ stay.1
        ∙ sym (ap (λ (x : At). set_rows x.view m.rows) at_end)

    sent : (k : ℕ) → sent_to h.grid k r.base log ≡ sent_to h.grid k r.base r.log
    sent k = sent_joined h.grid k start xs (Heard q m ∷ e ∷ ys)
        ∙ ap (λ (x : ViewData). sent_to h.grid k r.base xs ++ sent_to h.grid k (set_rows x m.rows) (e ∷ ys)) along.1
        ∙ ap (λ (ms : List Message). sent_to h.grid k r.base xs ++ ms)
        (stays_sent h m.rows k a (e ∷ ys) moves.1 aside)
        ∙ sym (ap (sent_to h.grid k r.base) parts ∙ sent_joined h.grid k (start_of r) xs (e ∷ ys))

pub weaving_keeps_right : WeavingKeepsRight
weaving_keeps_right h r new q m right may hearable woven = by_late (entries_from m.stamp r.log) refl
  where
    by_late : (es : List Entry) → entries_from m.stamp r.log ≡ es → IsSound h r m new
    by_late [] none = absurd (may.late none)
    by_late (e ∷ ys) is = subst (IsSound h r m) same
        (woven_with h r q m new.heard e ys right may hearable (woven.trail, woven.others) is)
      where
        same : with_log r new.heard (entries_below m.stamp r.log ++ Heard q m ∷ e ∷ ys) ≡ new
        same =
            let log = woven.log ∙ ap (λ (es : List Entry). entries_below m.stamp r.log ++ Heard q m ∷ es) is in
            λ i. record {
              floor = sym woven.floor i;
              base = sym woven.base i;
              heard = new.heard;
              log = sym log i;
            }
