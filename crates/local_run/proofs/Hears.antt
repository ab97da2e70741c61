-- Another trail of messages, the same before a stamp: the moves before it stay moves.
use Rattle.std.proofs.Common.{◌≡◌, ◌≢◌, inl, inr, ℕ, List, [], ◌∷◌, sym, ap, ◌∙◌, subst}
use Rattle.event_stamps.specs.declared.Stamp.{Stamp}
use Rattle.event_stamps.specs.Order.{Before}
use Rattle.event_stamps.proofs.StampOrder.{before_trans, not_before_itself}
use Rattle.region_view.specs.declared.rows.Message.{Message}
use Rattle.region_view.specs.Acting.{stamp_of}
use Rattle.region_view.specs.Views.{ViewData}
use Rattle.region_view.specs.Setting.{set_rows, after_action}
use Rattle.region_messages.specs.Trails.{IsAmong, below, AgreeBelow, AgreesUpTo}
use Rattle.region_messages.proofs.Parts.{among_below, below_among, below_first, first_of_below}
use Rattle.local_run.specs.declared.home.Home.{Home}
use Rattle.local_run.specs.declared.entry.Entry.{Entry}
use Rattle.local_run.specs.declared.entry.Entry.TheVariants.{Native, Heard}
use Rattle.local_run.specs.LocalRun.{Local, Trails, trail_of, messages_after_first, without_first, IsWaiting}
use Rattle.local_run.specs.Entries.{entry_stamp, entries_below}
use Rattle.local_run.specs.LocalRun.{IsOffered, IsDue, IsMove, Moves, IsHearable}
use Rattle.local_run.specs.LocalRun.{IsRight}
use Rattle.local_run.specs.Answers.{HasHeard}
use Rattle.local_run.proofs.Among.{AllRise, rise_without, same_trail, other_trail, same_or_other, waits_first}
use Rattle.local_run.proofs.Logs.{AllBefore, all_below}
use Rattle.local_run.proofs.Right.{right_rewound}

-- trails of the same regions, with the same messages before a stamp
abbrev pub SameBelow : Stamp → Trails → Trails → Type 0
SameBelow d w v = (q : ℕ) → AgreeBelow d (trail_of w q) (trail_of v q)

-- ---- messages
across : (d : Stamp) (w v : Trails) (q : ℕ) (m : Message) → SameBelow d w v → AllRise v →
    IsAmong m (trail_of v q) → Before m.stamp d → IsAmong m (trail_of w q)
across d w v q m same rise among lt = below_among d (trail_of w q) m
    (subst (IsAmong m) (sym (same q)) (among_below d (trail_of v q) m (rise q) among lt))

waiting_across : (d : Stamp) (w v : Trails) (s : Stamp) → SameBelow d w v → AllRise v → IsWaiting v s →
    Before s d → IsWaiting w s
unfolding IsWaiting
waiting_across d w v s same rise (q, m, among, is) lt =
    (q, m, across d w v q m same rise among (subst (λ (x : Stamp). Before x d) (sym is) lt), is)

first_across : (d : Stamp) (w v : Trails) (q : ℕ) (m : Message) (rest : List Message) →
    SameBelow d w v → trail_of w q ≡ m ∷ rest → Before m.stamp d →
    (more : List Message) × (trail_of v q ≡ m ∷ more) × (below d more ≡ below d rest)
first_across d w v q m rest same is lt = first_of_below d m (trail_of v q) (below d rest)
    (sym (same q) ∙ ap (below d) is ∙ below_first d m rest lt)

same_without : (d : Stamp) (w v : Trails) (q : ℕ) (m : Message) (rest : List Message) →
    SameBelow d w v → trail_of w q ≡ m ∷ rest → Before m.stamp d →
    SameBelow d (without_first w q) (without_first v q)
same_without d w v q m rest same is lt k = elim (same_or_other k q) [
  | inl here ↦ subst (λ (x : ℕ). AgreeBelow d (trail_of (without_first w q) x)
      (trail_of (without_first v q) x)) (sym here) at_q
  | inr other ↦ ap (below d) (other_trail w q k other) ∙ same k
      ∙ sym (ap (below d) (other_trail v q k other))
]
  where
    at_q : AgreeBelow d (trail_of (without_first w q) q) (trail_of (without_first v q) q)
    at_q =
        let first = first_across d w v q m rest same is lt in
        ap (below d) (same_trail w q ∙ ap messages_after_first is) ∙ sym first.2
        ∙ sym (ap (below d) (same_trail v q ∙ ap messages_after_first first.1))

-- ---- moves
offered_across : (h : Home) (view : ViewData) (d : Stamp) (w v : Trails) (s : Stamp) →
    SameBelow d w v → AllRise v → IsOffered h (record { view = view; waiting = v }) s → Before s d →
    IsOffered h (record { view = view; waiting = w }) s
offered_across h view d w v s same rise (inl native) lt = inl native
offered_across h view d w v s same rise (inr waits) lt =
    inr (waiting_across d w v s same rise waits lt)

due_across : (h : Home) (view : ViewData) (d : Stamp) (w v : Trails) (s : Stamp) →
    SameBelow d w v → AllRise v → Before s d → IsOffered h (record { view = view; waiting = v }) s →
    IsDue h (record { view = view; waiting = w }) s → IsDue h (record { view = view; waiting = v }) s
due_across h view d w v s same rise lt here due = (
  here,
  λ t off less.
      due.1 t (offered_across h view d w v t same rise off (before_trans t s d less lt)) less,
)

move_across : (h : Home) (view : ViewData) (d : Stamp) (w v : Trails) (e : Entry) → SameBelow d w v →
    AllRise v → Before (entry_stamp e) d → IsMove h (record { view = view; waiting = w }) e →
    IsMove h (record { view = view; waiting = v }) e
move_across h view d w v (Native a) same rise lt move = record {
  due = due_across h view d w v (stamp_of a) same rise lt (inl move.native) move.due;
  native = move.native;
  alone = λ waits. move.alone (waiting_across d w v (stamp_of a) same rise waits lt);
  comes = move.comes;
}
move_across h view d w v (Heard q m) same rise lt move =
    let first = first_across d w v q m move.first.0 same move.first.1 lt in
    record {
      due = due_across h view d w v m.stamp same rise lt (inr (waits_first v q m first.0 first.1)) move.due;
      first = (first.0, first.1);
      alone = move.alone;
      only = λ r n among is. move.only r n
          (across d w v r n same rise among (subst (λ (x : Stamp). Before x d) (sym is) lt)) is;
    }

pub moves_across : (h : Home) (view : ViewData) (d : Stamp) (w v : Trails) (log : List Entry) →
    SameBelow d w v → AllRise v → AllBefore d log → Moves h (record { view = view; waiting = w }) log →
    Moves h (record { view = view; waiting = v }) log
moves_across h view d w v [] same rise lt moves = tt
moves_across h view d w v (Native a ∷ es) same rise lt moves = (
  move_across h view d w v (Native a) same rise lt.0 moves.0,
  moves_across h (after_action view a) d w v es same rise lt.1 moves.1,
)
moves_across h view d w v (Heard q m ∷ es) same rise lt moves = (
  move_across h view d w v (Heard q m) same rise lt.0 moves.0,
  moves_across h (set_rows view m.rows) d (without_first w q) (without_first v q) es
      (same_without d w v q m moves.0.first.0 same moves.0.first.1 lt.0) (rise_without v q rise) lt.1
      moves.1,
)

-- ---- the local run
-- the region with other trails, and with only those entries of its log that are before a stamp
abbrev pub hearing : Stamp → Trails → Local → Local
hearing d v r = record { floor = r.floor; base = r.base; heard = v; log = entries_below d r.log }

pub right_heard : (h : Home) (r : Local) (k : ℕ) (sent : List Message) (d : Stamp) (v : Trails) →
    IsRight h r → AgreeBelow d (trail_of r.heard k) sent → IsHearable h r.floor k sent →
    trail_of v k ≡ sent → ((q : ℕ) → q ≢ k → trail_of v q ≡ trail_of r.heard q) →
    IsRight h (hearing d v r)
right_heard h r k sent d v right agree hearable at_k others = record {
  base = right.base;
  floor = right.floor;
  heard = heard;
  moves = moves_across h r.base d r.heard v (entries_below d r.log) same (λ q. (heard q).rises)
      (all_below d r.log) rewound.moves;
  rises = rewound.rises;
  few = rewound.few;
}
  where
    rewound : IsRight h (record r { log = entries_below d r.log })
    rewound = right_rewound h r d right

    heard : (q : ℕ) → IsHearable h r.floor q (trail_of v q)
    heard q = elim (same_or_other q k) [
      | inl here ↦ subst (λ (x : ℕ). IsHearable h r.floor x (trail_of v x)) (sym here)
          (subst (IsHearable h r.floor k) (sym at_k) hearable)
      | inr other ↦ subst (IsHearable h r.floor q) (sym (others q other)) (right.heard q)
    ]

    same : SameBelow d r.heard v
    same q = elim (same_or_other q k) [
      | inl here ↦ subst (λ (x : ℕ). AgreeBelow d (trail_of r.heard x) (trail_of v x)) (sym here)
          (agree ∙ ap (below d) (sym at_k))
      | inr other ↦ ap (below d) (sym (others q other))
    ]

pub right_has_heard : (h : Home) (r new : Local) (k : ℕ) (sent : List Message) (d : Stamp) →
    IsRight h r → AgreesUpTo (trail_of r.heard k) sent d → IsHearable h r.floor k sent →
    HasHeard k sent r d new → IsRight h new
right_has_heard h r new k sent d right agree hearable has = subst (IsRight h) (sym same)
    (right_heard h r k sent d new.heard right (agree.below d (not_before_itself d)) hearable
    has.trail has.others)
  where
    same : new ≡ hearing d new.heard r
    same = λ i. record {
      floor = has.floor i;
      base = has.base i;
      heard = new.heard;
      log = has.log i;
    }
