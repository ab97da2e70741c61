-- Events of a region's own columns that are run on narrow rows.
use Rattle.std.proofs.Common.{◌≡◌, ℕ, ◌^◌, ◌<◌, ◌≤◌, ◌∙◌, sym, ap, subst, refl, arith, Option, Some, None, Result, Ok, Err}
use Rattle.std.specs.Prelude.{ℤ, pos, nat_abs, ◌≤ℤ◌, IsSome}
use Rattle.std.proofs.lemmas.Int.{ints}
use Rattle.fixed_motion.specs.declared.rules.Rules.{Rules}
use Rattle.fixed_motion.specs.declared.disk.Disk.{Disk}
use Rattle.fixed_motion.specs.Rules.{IsChecked}
use Rattle.fixed_motion.specs.Motion.{IsValidDisk, centre_of, velocity_of}
use Rattle.fixed_motion.proofs.Sizes.{inside_in_box, slow_size}
use Rattle.event_stamps.specs.declared.Stamp.{Stamp}
use Rattle.event_stamps.specs.declared.Kind.{Kind}
use Rattle.event_stamps.specs.declared.Kind.TheVariants.{Cross as Crossing, Pair}
use Rattle.event_rules.specs.declared.change.Limit.{Limit}
use Rattle.event_rules.specs.declared.change.Change.{Change}
use Rattle.event_rules.specs.Effect.{applied, KeepsValid}
use Rattle.event_rules.specs.Events.{IsPairEvent}
use Rattle.event_rules.proofs.States.{applied_ok}
use Rattle.cell_grid.specs.Grid.{IsCell}
use Rattle.cell_grid.specs.Crossing.{IsCrossEvent}
use Rattle.region_view.specs.declared.action.Placed.{Placed}
use Rattle.region_view.specs.declared.action.Action.{Action}
use Rattle.region_view.specs.declared.action.Action.TheVariants.{Cross, Hit}
use Rattle.region_view.specs.Acting.{stamp_of, action_of, crossed, hit_of}
use Rattle.region_view.specs.Compact.{IsNarrow, IsSmallRow}
use Rattle.region_view.specs.Events.{IsEventBy}
use Rattle.region_view.specs.Placing.{Placing}
use Rattle.region_view.specs.Views.{ViewData, rows_in}
use Rattle.region_view.proofs.ValidRows.{actions_are_valid}
use Rattle.local_run.specs.declared.home.Home.{Home}
use Rattle.local_run.specs.declared.entry.Entry.TheVariants.{Native}
use Rattle.local_run.specs.declared.moves.Move.TheVariants.{Run}
use Rattle.local_run.specs.declared.answers.Step.TheVariants.{Ran, Halted}
use Rattle.local_run.specs.LocalRun.{Local, now_of, IsInPlace, IsOwn, ComesToInView}
use Rattle.local_run.specs.Answers.{HasDue, IsInTurn, StepsTo, with_entry}
use Rattle.local_run.specs.Moves.{Fits}
use Rattle.local_run.proofs.Outcome.{pair_by, alone_by, alone_comes, pair_comes}
use Rattle.local_run.proofs.Determined.{one_result}
use Rattle.local_run.proofs.Choices.{not_shared}
use Rattle.local_run.proofs.Valid.{valid_now, own_candidate}
use Rattle.event_log.specs.declared.running.HitRows.{HitRows}
use Rattle.event_log.specs.Heads.{disk_or}
use Rattle.event_log.specs.Running.{collision, redisked_row, IsMovedRow}
use Rattle.region_core.specs.declared.live.Live.{Live}
use Rattle.region_parts.specs.Border.{IsFarFromOthers, IsFarRow, IsUntold}
use Rattle.region_core.specs.Choices.{IsAtTurn}
use Rattle.region_core.specs.Live.{run_in, now_in, IsBodyOf, HasTrace}
use Rattle.region_core.specs.RunsOn.{FailsLimit}
use Rattle.region_parts.proofs.Borders.{crossing_untold, pair_untold}
use Rattle.region_core.proofs.Traced.{now_is}
use Rattle.region_core.proofs.NextMove.{own_due, event_fits}

-- ---- what a step answers
-- the event ran
pub ran_is : (h : Home) (r new : Local) (s : Stamp) (x : Action) → stamp_of x ≡ s → Fits h r (Run x) →
    new ≡ with_entry r (Native x) → StepsTo h r (Ran s) new
ran_is h r new s x same fits run =
    (subst (HasDue h r) same fits.0, subst (IsInTurn r) same fits.1, (x, same, fits.2, run))

-- it fails a limit
pub halted_is : (h : Home) (r : Local) (s : Stamp) (limit : Limit) → IsAtTurn h r s →
    ComesToInView h (now_of r).view s (Err limit) → StepsTo h r (Halted limit) r
halted_is h r s limit at comes = (
  (
    s,
    at.due,
    at.turn,
    not_shared h (now_of r) s at.alone,
    own_due h (now_of r) s at.due.1 at.alone,
    comes,
  ),
  refl,
)

-- the result of the event in the newest view tells which limit
pub fails_once : (h : Home) (live : Live) (s : Stamp) (r : Result Action Limit) → HasTrace live →
    (fails : FailsLimit h (now_in live).view s) → ComesToInView h live.view s r → r ≡ Err fails.0
fails_once h live s r traced fails comes =
    one_result h (now_in live).view s r (Err fails.0)
    (subst (λ (v : ViewData). ComesToInView h v s r) (sym (now_is live traced)) comes) fails.1

-- ---- rows of the newest view
pub own_at_turn : (h : Home) (floor : Stamp) (live : Live) (s : Stamp) → IsAtTurn h (run_in floor live) s →
    IsOwn h (now_in live).view s
own_at_turn h floor live s at = own_due h (now_in live) s at.due.1 at.alone

row_now : (h : Home) (floor : Stamp) (live : Live) (i : ℕ) (p : Placed) → IsBodyOf h floor live →
    rows_in live.view i ≡ Some p → rows_in (now_in live).view i ≡ Some p
row_now h floor live i p is at = ap (λ (v : ViewData). rows_in v i) (now_is live is.traced) ∙ at

pub valid_row : (h : Home) (floor : Stamp) (live : Live) (i : ℕ) (p : Placed) → IsInPlace h → IsBodyOf h floor live →
    rows_in live.view i ≡ Some p → IsValidDisk h.rules p.disk × IsCell h.grid p.cell
valid_row h floor live i p place is at =
    let valid = valid_now h (run_in floor live) place is.right in
    let here = row_now h floor live i p is at in
    (valid.disk i p here, valid.cell i p here)

-- the result of the event at its turn is what comes next
pub turn_fits : (h : Home) (floor : Stamp) (live : Live) (s : Stamp) (x : Action) → IsInPlace h → IsBodyOf h floor live →
    IsAtTurn h (run_in floor live) s → ComesToInView h (now_in live).view s (Ok x) → Fits h (run_in floor live) (Run x)
turn_fits h floor live s x place is at comes = event_fits h floor live s x place is at.due at.turn at.alone comes

pub turn_ran : (h : Home) (floor : Stamp) (live : Live) (s : Stamp) (x : Action) (new : Local) → IsInPlace h →
    IsBodyOf h floor live → IsAtTurn h (run_in floor live) s → ComesToInView h (now_in live).view s (Ok x) →
    new ≡ with_entry (run_in floor live) (Native x) → StepsTo h (run_in floor live) (Ran s) new
turn_ran h floor live s x new place is at comes run =
    let valid = actions_are_valid h.rules h.grid (rows_in (now_in live).view) s x place.checked place.grid
    (valid_now h (run_in floor live) place is.right)
    (own_candidate h (now_in live).view s (own_at_turn h floor live s at)) comes in
    ran_is h (run_in floor live) new s x valid.stamp (turn_fits h floor live s x place is at comes) run

-- ---- crossings
no_pair : (k : Kind) → k ≡ Crossing → ¬ (k ≡ Pair)
no_pair k crossing pair = cc

pub crossing_event : (h : Home) (floor : Stamp) (live : Live) (s : Stamp) (p : Placed) → IsBodyOf h floor live →
    IsAtTurn h (run_in floor live) s → s.kind ≡ Crossing → rows_in live.view s.first ≡ Some p →
    IsCrossEvent h.rules h.grid s.first p.disk p.cell s
crossing_event h floor live s p is at kind here =
    subst (IsEventBy h.rules h.grid s p None) kind
    (alone_by h (now_in live).view s p (own_at_turn h floor live s at) (no_pair s.kind kind)
    (row_now h floor live s.first p is here))

pub crossing_comes : (h : Home) (floor : Stamp) (live : Live) (s : Stamp) (p : Placed) (r : Result Action Limit) →
    IsBodyOf h floor live → s.kind ≡ Crossing → rows_in live.view s.first ≡ Some p →
    crossed h.rules h.grid s p.disk ≡ r → ComesToInView h (now_in live).view s r
crossing_comes h floor live s p r is kind here comes =
    alone_comes h (now_in live).view s p r (no_pair s.kind kind) (row_now h floor live s.first p is here)
    (sym comes ∙ ap (action_of h.rules h.grid s p.disk None) (sym kind))

tick_in_range : (rules : Rules) (tick : ℕ) → IsChecked rules → tick < rules.end → tick ≤ 2 ^ 40
tick_in_range rules tick checked lt = by_end rules.end checked.end.1 lt
  where
    by_end : (end : ℕ) → pos end ≤ℤ pos 1099511627776 → tick < end → tick ≤ 2 ^ 40
    by_end end few lt = omega (arith, ints)

pub crossing_in_range : (h : Home) (s : Stamp) (p : Placed) → IsInPlace h →
    IsCrossEvent h.rules h.grid s.first p.disk p.cell s → s.tick ≤ 2 ^ 40
crossing_in_range h s p place event = tick_in_range h.rules s.tick place.checked event.1

pub crossing_is_untold : (h : Home) (at : Placing) (s : Stamp) (cell : ℕ) (p : Placed) → at s.first ≡ Some p →
    IsFarFromOthers h p.cell × IsFarFromOthers h cell → IsUntold h at (Cross s cell)
crossing_is_untold h at s cell p here far =
    crossing_untold h at s cell (subst (IsFarRow h) (sym here) far.0) far.1

-- ---- collisions of two disks
pub pair_event : (h : Home) (floor : Stamp) (live : Live) (s : Stamp) (p q : Placed) → IsBodyOf h floor live →
    IsAtTurn h (run_in floor live) s → s.kind ≡ Pair → rows_in live.view s.first ≡ Some p →
    rows_in live.view s.second ≡ Some q → IsPairEvent h.rules s.first p.disk s.second q.disk s
pair_event h floor live s p q is at kind here beside =
    subst (IsEventBy h.rules h.grid s p (Some q.disk)) kind
    (pair_by h (now_in live).view s p q (own_at_turn h floor live s at) kind
    (row_now h floor live s.first p is here) (row_now h floor live s.second q is beside))

pub hit_comes : (h : Home) (floor : Stamp) (live : Live) (s : Stamp) (p q : Placed) (r : Result Change Limit) →
    IsBodyOf h floor live → s.kind ≡ Pair → rows_in live.view s.first ≡ Some p → rows_in live.view s.second ≡ Some q →
    r ≡ applied h.rules s p.disk (Some q.disk) → ComesToInView h (now_in live).view s (hit_of r)
hit_comes h floor live s p q r is kind here beside comes =
    pair_comes h (now_in live).view s p q (hit_of r) kind (row_now h floor live s.first p is here)
    (row_now h floor live s.second q is beside)
    (ap hit_of comes ∙ ap (action_of h.rules h.grid s p.disk (Some q.disk)) (sym kind))

pub pair_is_untold : (h : Home) (at : Placing) (s : Stamp) (change : Change) (second : Disk) (p q : Placed) →
    change.stamp ≡ s → change.second ≡ Some second → at s.first ≡ Some p → at s.second ≡ Some q →
    IsFarFromOthers h p.cell × IsFarFromOthers h q.cell → IsUntold h at (Hit change)
pair_is_untold h at s change second p q same is here beside far =
    pair_untold h at change second is
    (subst (λ (t : Stamp). IsFarRow h (at t.first)) (sym same) (subst (IsFarRow h) (sym here) far.0))
    (subst (λ (t : Stamp). IsFarRow h (at t.second)) (sym same) (subst (IsFarRow h) (sym beside) far.1))

-- the change of the event has its stamp, and a record for the second disk
pub record IsOfBoth (s : Stamp) (change : Change) : Type 0 where
  pub stamp : change.stamp ≡ s
  pub second : IsSome change.second

pub change_of_both : (rules : Rules) (s : Stamp) (a b : Disk) (change : Change) →
    Ok change ≡ applied rules s a (Some b) → IsOfBoth s change
change_of_both rules s a b change is =
    let same = (applied_ok rules s a (Some b) change is).0 in
    subst (IsOfBoth s) (sym same) record { stamp = refl; second = refl }

-- a row after a collision has the new record
pub moved_has : (there : Option Placed) (p : Placed) (disk : Disk) (rows : HitRows) → there ≡ Some p →
    IsMovedRow there disk rows → disk_or rows.after ≡ disk
moved_has there p disk rows at is = ap disk_or (is.after ∙ ap (redisked_row disk) at)

-- as it stands at a number
pub moved_to : (there here : Option Placed) (p : Placed) (disk : Disk) (rows : HitRows) → here ≡ Some p →
    here ≡ there → IsMovedRow here disk rows → IsMovedRow there (disk_or rows.after) rows
moved_to there here p disk rows at same is =
    subst (λ (o : Option Placed). IsMovedRow o (disk_or rows.after) rows) same
    (subst (λ (d : Disk). IsMovedRow here d rows) (sym (moved_has here p disk rows at is)) is)

-- the change is that of the rows
pub change_is : (change : Change) (partner : Disk) (first second : HitRows) → change.second ≡ Some partner →
    disk_or first.after ≡ change.first → disk_or second.after ≡ partner →
    change ≡ collision change.stamp first second
change_is change partner first second is one other =
    let both : change.second ≡ Some (disk_or second.after) = is ∙ ap (λ (d : Disk). Some d) (sym other) in
    λ i. record { stamp = change.stamp; first = sym one i; second = both i }

pub second_valid : (rules : Rules) (change : Change) (partner : Disk) → KeepsValid rules change →
    change.second ≡ Some partner → IsValidDisk rules partner
second_valid rules change partner keeps is =
    (subst (λ (o : Option Disk). KeepsValid rules (record { stamp = change.stamp; first = change.first; second = o }))
    is keeps).1

-- ---- small numbers
narrow_size : (n : ℤ) → pos 0 ≤ℤ n → n ≤ℤ pos 1073741824 → IsNarrow n
narrow_size n least most = (omega (arith, ints), omega (arith, ints))

narrow_speed : (n : ℤ) → nat_abs n ≤ 2 ^ 20 → IsNarrow n
narrow_speed n most = (omega (arith, ints), omega (arith, ints))

-- a valid disk has room in a narrow row
pub valid_is_small : (rules : Rules) (p : Placed) → IsChecked rules → IsValidDisk rules p.disk → IsSmallRow p
valid_is_small rules p checked valid =
    let box = inside_in_box rules p.disk (centre_of p.disk) checked valid.size valid.centre in
    let slow = slow_size rules (velocity_of p.disk) checked valid.velocity in
    record {
      course = record {
        centre = (narrow_size p.disk.x box.x.0 box.x.1, narrow_size p.disk.y box.y.0 box.y.1);
        velocity = (narrow_speed p.disk.vx slow.x, narrow_speed p.disk.vy slow.y);
        size = narrow_diameter p.disk.size rules.diameter rules.width valid.size.range.0 valid.size.range.1
            checked.diameter.1 checked.width.1;
      };
      time = record {
        base = below_end p.disk.base rules.end valid.base checked.end.1;
        mark = below_rounds p.disk.mark rules.round_limit valid.mark checked.round_limit.1;
      };
    }
  where
    narrow_diameter : (size diameter width : ℤ) → pos 2 ≤ℤ size → size ≤ℤ diameter → diameter ≤ℤ width →
        width ≤ℤ pos 1073741824 → IsNarrow size
    narrow_diameter size diameter width least most less few = (omega (arith, ints), omega (arith, ints))

    below_end : (base end : ℕ) → base ≤ end → pos end ≤ℤ pos 1099511627776 → base < 2 ^ 43
    below_end base end le few = omega (arith, ints)

    below_rounds : (mark rounds : ℕ) → mark ≤ rounds → pos rounds ≤ℤ pos 65536 → mark < 2 ^ 20
    below_rounds mark rounds le few = omega (arith, ints)
