-- The messages that wait come after the last entry.
use Rattle.std.proofs.Common.{◌≡◌, ◌≢◌, ◌⊎◌, inl, inr, ℕ, List, [], ◌∷◌, subst, refl}
use Rattle.event_stamps.specs.declared.Stamp.{Stamp}
use Rattle.event_stamps.specs.Order.{Before}
use Rattle.event_stamps.proofs.IsBefore.{before_other}
use Rattle.region_view.specs.declared.rows.Message.{Message}
use Rattle.region_view.specs.Acting.{stamp_of}
use Rattle.region_messages.specs.Trails.{IsAmong, Rises}
use Rattle.region_messages.proofs.Among.{among_rises}
use Rattle.local_run.specs.declared.home.Home.{Home}
use Rattle.local_run.specs.declared.entry.Entry.{Entry}
use Rattle.local_run.specs.declared.entry.Entry.TheVariants.{Native, Heard}
use Rattle.local_run.specs.LocalRun.{At, Local, trail_of, without_first, start_of, now_of}
use Rattle.local_run.specs.Entries.{entry_stamp, clock_of}
use Rattle.local_run.specs.LocalRun.{after_entry, after_log, messages_after_first, IsWaiting}
use Rattle.local_run.specs.LocalRun.{IsMove, Moves, IsRight}
use Rattle.local_run.specs.Answers.{IsInTurn}
use Rattle.local_run.proofs.Among.{AllRise, same_trail, other_trail, same_or_other, waits_among, rise_without}
use Rattle.local_run.proofs.Right.{waiting_was_heard, heard_rise}

rises_from_first : (m : Message) (rest ms : List Message) (n : Message) → ms ≡ m ∷ rest → Rises ms →
    IsAmong n rest → Before m.stamp n.stamp
rises_from_first m rest ms n is rises among = among_rises m.stamp rest n (subst Rises is rises) among

-- a message that waits after a move comes after it
after_move : (h : Home) (a : At) (e : Entry) → AllRise a.waiting → IsMove h a e → (q : ℕ) (m : Message) →
    IsAmong m (trail_of (after_entry a e).waiting q) → Before (entry_stamp e) m.stamp
after_move h a (Native x) rise move q m among =
    let waits = waits_among a.waiting q m among in
    before_other (stamp_of x) m.stamp (move.due.1 m.stamp (inr waits))
    (λ same. move.alone (subst (IsWaiting a.waiting) same waits))
after_move h a (Heard p n) rise move q m among = elim (same_or_other q p) [
  | inl same ↦ here (subst (IsAmong m) (same_trail a.waiting p)
      (subst (λ (x : ℕ). IsAmong m (trail_of (without_first a.waiting p) x)) same among))
  | inr other ↦ there other (subst (IsAmong m) (other_trail a.waiting p q other) among)
]
  where
    here : IsAmong m (messages_after_first (trail_of a.waiting p)) → Before n.stamp m.stamp
    here in_rest = rises_from_first n move.first.0 (trail_of a.waiting p) m move.first.1 (rise p)
        (subst (λ (ms : List Message). IsAmong m (messages_after_first ms)) move.first.1 in_rest)

    there : q ≢ p → IsAmong m (trail_of a.waiting q) → Before n.stamp m.stamp
    there other among = before_other n.stamp m.stamp
        (move.due.1 m.stamp (inr (waits_among a.waiting q m among)))
        (λ same. other (move.only q m among same))

after_moves : (h : Home) (a : At) (log : List Entry) (t : Stamp) → AllRise a.waiting → Moves h a log →
    ((q : ℕ) (m : Message) → IsAmong m (trail_of a.waiting q) → Before t m.stamp) → (q : ℕ) (m : Message) →
    IsAmong m (trail_of (after_log a log).waiting q) → Before (clock_of t log) m.stamp
after_moves h a [] t rise moves later q m among = later q m among
after_moves h a (e ∷ es) t rise moves later q m among =
    after_moves h (after_entry a e) es (entry_stamp e) (risen e) moves.1
    (after_move h a e rise moves.0) q m among
  where
    risen : (x : Entry) → AllRise (after_entry a x).waiting
    risen (Native x) = rise
    risen (Heard p n) = rise_without a.waiting p rise

pub message_in_turn : (h : Home) (r : Local) (q : ℕ) (m : Message) → IsRight h r →
    IsAmong m (trail_of (now_of r).waiting q) → IsInTurn r m.stamp
message_in_turn h r q m right among = (
  (right.heard q).from_floor m (waiting_was_heard (start_of r) r.log q m among),
  by_log r.log right.moves among,
)
  where
    by_log : (log : List Entry) → Moves h (start_of r) log →
        IsAmong m (trail_of (after_log (start_of r) log).waiting q) →
        (log ≡ []) ⊎ Before (clock_of r.floor log) m.stamp
    by_log [] moves among = inl refl
    by_log (e ∷ es) moves among = inr (after_moves h (after_entry (start_of r) e) es (entry_stamp e)
        (risen e) moves.1 (after_move h (start_of r) e (heard_rise h r right) moves.0) q m among)
      where
        risen : (x : Entry) → AllRise (after_entry (start_of r) x).waiting
        risen (Native x) = heard_rise h r right
        risen (Heard p n) = rise_without r.heard p (heard_rise h r right)

pub waiting_in_turn : (h : Home) (r : Local) (s : Stamp) → IsRight h r → IsWaiting (now_of r).waiting s →
    IsInTurn r s
unfolding IsWaiting
waiting_in_turn h r s right (q, m, among, is) =
    subst (IsInTurn r) is (message_in_turn h r q m right among)
