-- A right local run from a later floor on.
use Rattle.std.proofs.Common.{◌≡◌, inl, inr, ℕ, suc, ◌≤◌, List, [], ◌∷◌, ◌++◌, length, length-append, map, sym, ap, ◌∙◌, subst, refl, arith}
use Rattle.std.proofs.lemmas.List.{append_cancel_left, length-map, length-set}
use Rattle.std.proofs.Math.ListN.{get_or-map}
use Rattle.event_stamps.specs.declared.Stamp.{Stamp}
use Rattle.event_stamps.specs.Order.{Before, end_stamp}
use Rattle.event_stamps.proofs.StampOrder.{before_decides}
use Rattle.event_stamps.proofs.IsBefore.{before_not_before}
use Rattle.event_stamps.proofs.Rising.{rises_if_from}
use Rattle.event_stamps.proofs.Parts.{from_later, from_whole, from_after, rises_from}
use Rattle.cell_grid.specs.Grid.{GridData}
use Rattle.region_view.specs.declared.rows.Message.{Message}
use Rattle.region_messages.specs.Trails.{IsAmong, below, from, message_key}
use Rattle.region_messages.proofs.Parts.{split, from_among}
use Rattle.local_run.specs.declared.home.Home.{Home}
use Rattle.local_run.specs.declared.entry.Entry.{Entry}
use Rattle.local_run.specs.declared.entry.Entry.TheVariants.{Native, Heard}
use Rattle.local_run.specs.LocalRun.{At, Local, Trails, trail_of, messages_after_first, without_first, start_of, now_of}
use Rattle.local_run.specs.Entries.{entry_stamp, RiseFrom, entries_below, entries_from}
use Rattle.local_run.specs.LocalRun.{after_entry, after_log, IsOffered, IsMove, Moves}
use Rattle.local_run.specs.LocalRun.{IsInPlace, IsHearable, IsRight, sent_to}
use Rattle.local_run.specs.Laws.{RaisingKeepsRight}
use Rattle.local_run.specs.Raising.{raised_run, HasNoneWaitingBelow, IsRaised}
use Rattle.local_run.proofs.Among.{same_trail, other_trail, same_or_other, waits_among}
use Rattle.local_run.proofs.Logs.{moves_split, after_join, below_then_from, below_in, below_out}
use Rattle.local_run.proofs.Sent.{sent_below, sent_joined}
use Rattle.local_run.proofs.Valid.{valid_after}

fewer_from : (s : Stamp) (log : List Entry) → length (entries_from s log) ≤ length log
fewer_from s log =
    let parts = ap length (below_then_from s log) in
    let sizes = length-append (entries_below s log) (entries_from s log) in
    omega arith

-- ---- what waits after the entries before a stamp
-- an entry before a stamp takes in what is before it
from_without : (h : Home) (a : At) (s : Stamp) (e : Entry) (q : ℕ) → IsMove h a e →
    Before (entry_stamp e) s → from s (trail_of (after_entry a e).waiting q) ≡ from s (trail_of a.waiting q)
from_without h a s (Native x) q move lt = refl
from_without h a s (Heard p m) q move lt = elim (same_or_other q p) [
  | inl same ↦ subst (λ (k : ℕ). from s (trail_of (without_first a.waiting p) k) ≡ from s (trail_of a.waiting k))
      (sym same) here
  | inr other ↦ ap (from s) (other_trail a.waiting p q other)
]
  where
    here : from s (trail_of (without_first a.waiting p) p) ≡ from s (trail_of a.waiting p)
    here = ap (from s) (same_trail a.waiting p ∙ ap messages_after_first move.first.1)
        ∙ sym (ap (from s) move.first.1 ∙ from_later message_key s m move.first.0 lt)

-- nothing that is offered comes before a move
none_before_move : (h : Home) (a : At) (e : Entry) (t : Stamp) → IsMove h a e → IsOffered h a t →
    ¬ Before t (entry_stamp e)
none_before_move h a (Native x) t move offered = move.due.1 t offered
none_before_move h a (Heard p m) t move offered = move.due.1 t offered

-- if nothing waits before the stamp after the whole log, what waits is what was heard from the stamp on
waits_from : (h : Home) (a : At) (s : Stamp) (log : List Entry) → Moves h a log →
    ((q : ℕ) (m : Message) → IsAmong m (trail_of (after_log a log).waiting q) → ¬ Before m.stamp s) →
    (q : ℕ) → trail_of (after_log a (entries_below s log)).waiting q ≡ from s (trail_of a.waiting q)
waits_from h a s [] moves late q = sym (from_whole message_key s (trail_of a.waiting q) (late q))
waits_from h a s (e ∷ es) moves late q = elim (before_decides (entry_stamp e) s) [
  | inl lt ↦ ap (λ (log : List Entry). trail_of (after_log a log).waiting q) (below_in s e es lt)
      ∙ waits_from h (after_entry a e) s es moves.1 late q ∙ from_without h a s e q moves.0 lt
  | inr not ↦ ap (λ (log : List Entry). trail_of (after_log a log).waiting q) (below_out s e es not)
      ∙ sym (from_whole message_key s (trail_of a.waiting q) (λ m among less.
      none_before_move h a e m.stamp moves.0 (inr (waits_among a.waiting q m among))
      (before_not_before m.stamp (entry_stamp e) s less not)))
]

as_many_wait : (a : At) (log : List Entry) → length (after_log a log).waiting ≡ length a.waiting
as_many_wait a [] = refl
as_many_wait a (Native x ∷ es) = as_many_wait (after_entry a (Native x)) es
as_many_wait a (Heard q m ∷ es) = as_many_wait (after_entry a (Heard q m)) es
    ∙ length-set a.waiting q (messages_after_first (trail_of a.waiting q))

same_trails : (ts us : Trails) → length ts ≡ length us → ((q : ℕ) → trail_of ts q ≡ trail_of us q) →
    ts ≡ us
same_trails [] [] len each = refl
same_trails [] (u ∷ us) len each = absurd (omega arith)
same_trails (t ∷ ts) [] len each = absurd (omega arith)
same_trails (t ∷ ts) (u ∷ us) len each =
    let rest = same_trails ts us (omega arith) (λ q. each (suc q)) in
    λ i. each 0 i ∷ rest i

-- ---- the run from the stamp on
none_waits_below : (to : Stamp) (r : Local) → HasNoneWaitingBelow to r → (q : ℕ) (m : Message) →
    IsAmong m (trail_of (now_of r).waiting q) → ¬ Before m.stamp to
none_waits_below to r none q m among = none m.stamp (waits_among (now_of r).waiting q m among)

-- it begins at the point that the entries before the stamp reach
pub start_raised : (h : Home) (r : Local) (to : Stamp) → IsRight h r → HasNoneWaitingBelow to r →
    after_log (start_of r) (entries_below to r.log) ≡ start_of (raised_run to r)
start_raised h r to right none =
    let before = after_log (start_of r) (entries_below to r.log) in
    let waiting : before.waiting ≡ map (from to) r.heard =
    same_trails before.waiting (map (from to) r.heard)
    (as_many_wait (start_of r) (entries_below to r.log) ∙ sym (length-map r.heard (from to)))
    (λ q. waits_from h (start_of r) to r.log right.moves (none_waits_below to r none) q
    ∙ sym (get_or-map (from to) r.heard q [])) in
    λ i. record { view = before.view; waiting = waiting i }

heard_raised : (h : Home) (floor to : Stamp) (heard : Trails) (q : ℕ) →
    IsHearable h floor q (trail_of heard q) → IsHearable h to q (trail_of (map (from to) heard) q)
heard_raised h floor to heard q may = subst (IsHearable h to q) (sym (get_or-map (from to) heard q [])) (record {
  rises = rises_if_from message_key to (from to ms) (rises_from message_key to ms may.rises);
  from_floor = λ m among. from_after message_key to ms m may.rises among;
  before_end = λ m among. may.before_end m (from_among to ms m among);
  rows = λ m among. may.rows m (from_among to ms m among);
  linked = λ m among. may.linked m (from_among to ms m among);
})
  where
    ms : List Message
    ms = trail_of heard q

right_raised : (h : Home) (r : Local) (to : Stamp) → IsInPlace h → IsRight h r →
    ¬ Before (end_stamp h.rules.end) to → HasNoneWaitingBelow to r → IsRight h (raised_run to r)
right_raised h r to place right in_time none =
    let parts = below_then_from to r.log in
    record {
      base = valid_after h r (entries_below to r.log) (entries_from to r.log) place right parts;
      floor = in_time;
      heard = λ q. heard_raised h r.floor to r.heard q (right.heard q);
      moves = subst (λ (a : At). Moves h a (entries_from to r.log)) (start_raised h r to right none)
          (moves_split h (start_of r) (entries_below to r.log) (entries_from to r.log)
          (subst (Moves h (start_of r)) parts right.moves)).1;
      rises = rises_from entry_stamp to r.log (rises_if_from entry_stamp r.floor r.log right.rises);
      few = let fewer = fewer_from to r.log in let few = right.few in omega arith;
    }

now_raised : (h : Home) (r : Local) (to : Stamp) → IsRight h r → HasNoneWaitingBelow to r →
    now_of (raised_run to r) ≡ now_of r
now_raised h r to right none =
    ap (λ (a : At). after_log a (entries_from to r.log)) (sym (start_raised h r to right none))
    ∙ sym (after_join (start_of r) (entries_below to r.log) (entries_from to r.log))
    ∙ ap (after_log (start_of r)) (sym (below_then_from to r.log))

sent_raised : (grid : GridData) (q : ℕ) (r : Local) (to : Stamp) → RiseFrom r.floor r.log →
    sent_to grid q (raised_run to r).base (raised_run to r).log ≡ from to (sent_to grid q r.base r.log)
sent_raised grid q r to rises =
    append_cancel_left (below to sent) later (from to sent)
    (ap (λ (ms : List Message). ms ++ later) (sym (sent_below grid q r.base to r.floor r.log rises))
    ∙ sym (ap (sent_to grid q r.base) (below_then_from to r.log)
    ∙ sent_joined grid q (start_of r) (entries_below to r.log) (entries_from to r.log))
    ∙ sym (split sent to))
  where
    sent : List Message
    sent = sent_to grid q r.base r.log

    later : List Message
    later = sent_to grid q (raised_run to r).base (raised_run to r).log

pub raised_right : (h : Home) (r : Local) (to : Stamp) → IsInPlace h → IsRight h r →
    ¬ Before (end_stamp h.rules.end) to → HasNoneWaitingBelow to r → IsRaised h to r
raised_right h r to place right in_time none = record {
  right = right_raised h r to place right in_time none;
  now = now_raised h r to right none;
  sent = λ q. sent_raised h.grid q r to right.rises;
}

pub raising_keeps_right : RaisingKeepsRight
raising_keeps_right h r to place right not_lowered in_time none = raised_right h r to place right in_time none
