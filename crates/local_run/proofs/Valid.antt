-- The views along a right run are valid, and so is what it sends.
use Rattle.std.proofs.Common.{◌≡◌, inl, inr, ℕ, ◌<◌, List, [], ◌∷◌, ◌++◌, take, drop, sym, subst}
use Rattle.std.proofs.Common.{refl}
use Rattle.std.proofs.lemmas.List.{take-append-drop}
use Rattle.fixed_motion.specs.declared.rules.Rules.{Rules}
use Rattle.event_stamps.specs.declared.Stamp.{Stamp}
use Rattle.event_stamps.specs.Order.{Before, end_stamp}
use Rattle.event_stamps.proofs.StampOrder.{before_tick}
use Rattle.cell_grid.specs.Grid.{GridData, AreLinked}
use Rattle.region_view.specs.declared.action.Action.{Action}
use Rattle.region_view.specs.declared.rows.Message.{Message}
use Rattle.region_view.specs.Placing.{Placing, IsCellCandidate, IsValidPlacing}
use Rattle.region_view.specs.Views.{ViewData, rows_in}
use Rattle.region_view.specs.Acting.{stamp_of}
use Rattle.region_view.specs.Setting.{rows_set, AreRows, AreValidRows}
use Rattle.region_messages.specs.Trails.{IsAmong}
use Rattle.local_run.specs.declared.home.Home.{Home}
use Rattle.local_run.specs.declared.entry.Entry.{Entry}
use Rattle.local_run.specs.declared.entry.Entry.TheVariants.{Native, Heard}
use Rattle.local_run.specs.LocalRun.{At, Local, Trails, trail_of, without_first, start_of, now_of}
use Rattle.local_run.specs.LocalRun.{after_entry, after_log, IsOwn, IsNativeMove, Moves}
use Rattle.local_run.specs.LocalRun.{IsInPlace, IsHearable, IsRight, sent_to}
use Rattle.region_view.specs.Laws.{IsValidAction}
use Rattle.region_view.proofs.ValidRows.{setting_keeps_valid, actions_are_valid}
use Rattle.region_view.proofs.Told.{messages_are_faithful}
use Rattle.local_run.proofs.Among.{same_trail, other_trail, same_or_other, among_rest}
use Rattle.local_run.proofs.Logs.{moves_split}
use Rattle.local_run.proofs.Sent.{message_stamp, sent_by, sent_rises, sent_from}

-- ---- native candidates
tick_before_end : (rules : Rules) (grid : GridData) (at : Placing) (s : Stamp) →
    IsCellCandidate rules grid at s → s.tick < rules.end
tick_before_end rules grid at s (inl (p, there, event)) = event.1
tick_before_end rules grid at s (inr (inl (p, there, event))) = event.1
tick_before_end rules grid at s (inr (inr (order, (p, here, (q, there, near, event))))) = event.1

pub own_candidate : (h : Home) (view : ViewData) (s : Stamp) → IsOwn h view s →
    IsCellCandidate h.rules h.grid (rows_in view) s
unfolding IsOwn
own_candidate h view s own = own.0

pub own_before_end : (h : Home) (view : ViewData) (s : Stamp) → IsOwn h view s →
    Before s (end_stamp h.rules.end)
own_before_end h view s own = before_tick s (end_stamp h.rules.end)
    (tick_before_end h.rules h.grid (rows_in view) s (own_candidate h view s own))

-- ---- what was heard
-- messages of valid rows
abbrev pub HaveValidRows : Home → Trails → Type 0
HaveValidRows h ts = (q : ℕ) (m : Message) → IsAmong m (trail_of ts q) →
    AreValidRows h.rules h.grid m.rows

pub valid_without : (h : Home) (ts : Trails) (q : ℕ) → HaveValidRows h ts →
    HaveValidRows h (without_first ts q)
valid_without h ts q valid k m among = valid k m (elim (same_or_other k q) [
  | inl same ↦ among_rest (trail_of ts k) m (subst (IsAmong m) (same_trail ts k)
      (subst (λ (x : ℕ). IsAmong m (trail_of (without_first ts x) k)) (sym same) among))
  | inr other ↦ subst (IsAmong m) (other_trail ts q k other) among
])

-- ---- views
pub valid_action : (h : Home) (a : At) (x : Action) → IsInPlace h →
    IsValidPlacing h.rules h.grid (rows_in a.view) → IsNativeMove h a x →
    IsValidAction h.rules h.grid (rows_in a.view) (stamp_of x) x
valid_action h a x place valid move = actions_are_valid h.rules h.grid (rows_in a.view) (stamp_of x) x
    place.checked place.grid valid (own_candidate h a.view (stamp_of x) move.native) move.comes

pub valid_along : (h : Home) (a : At) (log : List Entry) → IsInPlace h →
    IsValidPlacing h.rules h.grid (rows_in a.view) → HaveValidRows h a.waiting → Moves h a log →
    IsValidPlacing h.rules h.grid (rows_in (after_log a log).view)
valid_along h a [] place valid waits moves = valid
valid_along h a (Native x ∷ es) place valid waits moves =
    valid_along h (after_entry a (Native x)) es place
    (setting_keeps_valid h.rules h.grid a.view (rows_set (rows_in a.view) x) valid
    (valid_action h a x place valid moves.0).rows) waits moves.1
valid_along h a (Heard q m ∷ es) place valid waits moves =
    let first = moves.0.first in
    let among : IsAmong m (trail_of a.waiting q) = subst (IsAmong m) (sym first.1) (inl refl) in
    valid_along h (after_entry a (Heard q m)) es place
    (setting_keeps_valid h.rules h.grid a.view m.rows valid (waits q m among))
    (valid_without h a.waiting q waits) moves.1

-- the view after the first entries
pub valid_after : (h : Home) (r : Local) (xs ys : List Entry) → IsInPlace h → IsRight h r →
    r.log ≡ xs ++ ys → IsValidPlacing h.rules h.grid (rows_in (after_log (start_of r) xs).view)
valid_after h r xs ys place right parts = valid_along h (start_of r) xs place right.base
    (λ q m among. ((right.heard q).rows m among).1)
    (moves_split h (start_of r) xs ys (subst (Moves h (start_of r)) parts right.moves)).0

pub valid_at : (h : Home) (r : Local) (i : ℕ) → IsInPlace h → IsRight h r →
    IsValidPlacing h.rules h.grid (rows_in (after_log (start_of r) (take i r.log)).view)
valid_at h r i place right =
    valid_after h r (take i r.log) (drop i r.log) place right (sym (take-append-drop i r.log))

pub valid_now : (h : Home) (r : Local) → IsInPlace h → IsRight h r →
    IsValidPlacing h.rules h.grid (rows_in (now_of r).view)
valid_now h r place right = valid_along h (start_of r) r.log place right.base
    (λ q m among. ((right.heard q).rows m among).1) right.moves

-- ---- what is sent
pub sent_hearable : (h : Home) (r : Local) (q : ℕ) → IsInPlace h → IsRight h r →
    AreLinked h.grid h.number q →
    IsHearable (record { number = q; rules = h.rules; grid = h.grid }) r.floor h.number
    (sent_to h.grid q r.base r.log)
sent_hearable h r q place right linked = record {
  rises = sent_rises h.grid q r.base r.floor r.log right.rises;
  from_floor = λ m among. sent_from h.grid q r.base r.floor r.log m right.rises among;
  before_end = before_end;
  rows = rows;
  linked = λ m among. (place.number, linked);
}
  where
    before_end : (m : Message) → IsAmong m (sent_to h.grid q r.base r.log) →
        Before m.stamp (end_stamp h.rules.end)
    before_end m among =
        let by = sent_by h.grid q (start_of r) r.log m among in
        let move = (moves_split h (start_of r) by.before (Native by.action ∷ by.rest)
        (subst (Moves h (start_of r)) by.parts right.moves)).1.0 in
        subst (λ (v : Stamp). Before v (end_stamp h.rules.end))
        (sym (message_stamp h.grid q _ by.action m by.message))
        (own_before_end h _ (stamp_of by.action) move.native)

    rows : (m : Message) → IsAmong m (sent_to h.grid q r.base r.log) →
        AreRows m.rows × AreValidRows h.rules h.grid m.rows
    rows m among =
        let by = sent_by h.grid q (start_of r) r.log m among in
        let move = (moves_split h (start_of r) by.before (Native by.action ∷ by.rest)
        (subst (Moves h (start_of r)) by.parts right.moves)).1.0 in
        let at = after_log (start_of r) by.before in
        let valid = valid_after h r by.before (Native by.action ∷ by.rest) place right by.parts in
        let set = valid_action h at by.action place valid move in
        let told = messages_are_faithful h.rules h.grid q (rows_in at.view) by.action m by.message in
        (told.order set.order, told.valid set.rows)

-- the same of two regions of the same rules, grid and floor
pub heard_from : (h k : Home) (r : Local) (floor : Stamp) → h.rules ≡ k.rules → h.grid ≡ k.grid →
    floor ≡ r.floor → IsInPlace k → IsRight k r → AreLinked h.grid k.number h.number →
    IsHearable h floor k.number (sent_to h.grid h.number r.base r.log)
heard_from h k r floor rules grid floors place right linked =
    subst (λ (g : GridData). IsHearable h floor k.number (sent_to g h.number r.base r.log)) (sym grid)
    (subst (λ (f : Stamp). IsHearable h f k.number (sent_to k.grid h.number r.base r.log)) (sym floors)
    (subst (λ (x : Home). IsHearable x r.floor k.number (sent_to k.grid h.number r.base r.log)) same
    (sent_hearable k r h.number place right
    (subst (λ (g : GridData). AreLinked g k.number h.number) grid linked))))
  where
    same : record { number = h.number; rules = k.rules; grid = k.grid } ≡ h
    same = λ i. record {
      number = h.number;
      rules = sym rules i;
      grid = sym grid i;
    }
