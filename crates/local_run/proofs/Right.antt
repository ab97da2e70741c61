-- Right local runs: what waits in them, one more entry, and an end that is taken back.
use Rattle.std.proofs.Common.{◌≡◌, ℕ, ◌<◌, List, [], ◌∷◌, ◌++◌, length, length-append, take, drop, sym, ap, ◌∙◌, subst, arith}
use Rattle.std.proofs.lemmas.List.{take-append-drop}
use Rattle.event_stamps.specs.declared.Stamp.{Stamp}
use Rattle.region_view.specs.declared.rows.Message.{Message}
use Rattle.event_stamps.proofs.Rising.{among_right, rises_drop, from_first}
use Rattle.region_messages.specs.Trails.{IsAmong, Rises, message_key}
use Rattle.local_run.specs.declared.home.Home.{Home}
use Rattle.local_run.specs.declared.entry.Entry.{Entry}
use Rattle.local_run.specs.declared.entry.TheConstants.{MAX_ENTRIES}
use Rattle.local_run.specs.LocalRun.{At, Local, trail_of, start_of, now_of, after_log}
use Rattle.local_run.specs.Entries.{entry_stamp, RiseFrom, entries_below, entries_from}
use Rattle.local_run.specs.LocalRun.{Moves, IsMove, IsRight}
use Rattle.local_run.specs.Taken.{taken_of}
use Rattle.local_run.specs.Answers.{with_entry, IsInTurn}
use Rattle.local_run.proofs.Among.{AllRise}
use Rattle.local_run.proofs.Logs.{moves_split, moves_join, below_then_from}
use Rattle.local_run.proofs.Logs.{rises_appended}
use Rattle.local_run.proofs.Taken.{waiting_is_drop}

-- ---- what waits
-- a message that waits was heard
pub waiting_was_heard : (a : At) (log : List Entry) (q : ℕ) (m : Message) →
    IsAmong m (trail_of (after_log a log).waiting q) → IsAmong m (trail_of a.waiting q)
waiting_was_heard a log q m among =
    let k = taken_of q log in
    let ms = trail_of a.waiting q in
    subst (IsAmong m) (take-append-drop k ms)
    (among_right m (take k ms) (drop k ms) (subst (IsAmong m) (waiting_is_drop a log q) among))

pub rise_along : (a : At) (log : List Entry) → AllRise a.waiting → AllRise (after_log a log).waiting
rise_along a log rise q = subst Rises (sym (waiting_is_drop a log q))
    (rises_drop message_key (taken_of q log) (trail_of a.waiting q) (rise q))

pub heard_rise : (h : Home) (r : Local) → IsRight h r → AllRise r.heard
heard_rise h r right q = (right.heard q).rises

pub waiting_rise : (h : Home) (r : Local) → IsRight h r → AllRise (now_of r).waiting
waiting_rise h r right = rise_along (start_of r) r.log (heard_rise h r right)

-- ---- one more entry
pub right_appended : (h : Home) (r : Local) (e : Entry) → IsRight h r → length r.log < MAX_ENTRIES →
    IsInTurn r (entry_stamp e) → IsMove h (now_of r) e → IsRight h (with_entry r e)
right_appended h r e right room turn move = record {
  base = right.base;
  floor = right.floor;
  heard = right.heard;
  moves = moves_join h (start_of r) r.log (e ∷ []) right.moves (move, tt);
  rises = rises_appended r.floor r.log e right.rises turn.0 turn.1;
  few = simp length-append (omega arith);
}

-- ---- an end that is taken back
-- without its last entries it is right
pub right_before : (h : Home) (r : Local) (xs ys : List Entry) → r.log ≡ xs ++ ys → IsRight h r →
    IsRight h (record r { log = xs })
right_before h r xs ys parts right = record {
  base = right.base;
  floor = right.floor;
  heard = right.heard;
  moves = (moves_split h (start_of r) xs ys (subst (Moves h (start_of r)) parts right.moves)).0;
  rises = from_first entry_stamp r.floor xs ys (subst (RiseFrom r.floor) parts right.rises);
  few =
      let sizes = ap length parts ∙ length-append xs ys in
      let few = right.few in
      omega arith;
}

pub right_rewound : (h : Home) (r : Local) (at : Stamp) → IsRight h r →
    IsRight h (record r { log = entries_below at r.log })
right_rewound h r at right =
    right_before h r (entries_below at r.log) (entries_from at r.log) (below_then_from at r.log) right
