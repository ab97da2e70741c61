use Rattle.std.proofs.Common.{◌≡◌, ◌<◌, ◌∙◌, List, [], ◌∷◌, ◌++◌, Some, sym, ap, subst, refl}
use Rattle.std.proofs.lemmas.Result.{err_from_is_err_and}
use Rattle.fixed_motion.specs.declared.disk.Disk.{Disk}
use Rattle.event_stamps.specs.declared.Stamp.{Stamp}
use Rattle.event_stamps.specs.Least.{HasNone, IsLeastOf}
use Rattle.event_rules.specs.declared.outcome.Outcome.TheVariants.{Done}
use Rattle.event_rules.specs.Run.{IsCandidate, IsNext, ComesTo, effect, IsValidState, Steps}
use Rattle.event_rules.specs.Run.{spots_of}
use Rattle.event_rules.proofs.Steps.{one_more}
use Rattle.event_rules.proofs.Telling.{next_awaited, told_more, told_none, torn_next, all_told}
use Rattle.all_pairs.proofs.Events.{found_turn}
use Rattle.all_pairs.proofs.Turns.{runs_from, work_falls, work_left, none_left}
use Rattle.all_pairs.proofs.simulate.run.Goals as goal

pub next-upcoming-requires-clause-valid : goal.next-upcoming-requires-clause-valid
next-upcoming-requires-clause-valid g c =
    subst (IsValidState c.args.rules.now) (sym c.deref.ensures.value) c.requires.valid

pub loop-upcoming-init : goal.loop-upcoming-init
loop-upcoming-init g c =
    let L = g.L.Listener in
    let rules = c.args.rules.now in
    record {
      so_far = ([], refl, told_none L.after (L.meaning c.args.listener.now));
      upcoming = subst (λ (v : List Disk). IsLeastOf (IsCandidate rules v) c.next-upcoming.result)
          c.deref.ensures.value c.next-upcoming.ensures;
      valid = c.requires.valid;
      count = refl;
    }

pub run_event-requires-clause-valid : goal.run_event-requires-clause-valid
run_event-requires-clause-valid g c =
    subst (IsValidState c.args.rules.now) (sym c.deref-in-Some.ensures.value) c.loop-upcoming.invariant.valid

pub run_event-requires-clause-next : goal.run_event-requires-clause-next
run_event-requires-clause-next g c =
    let rules = c.args.rules.now in
    let here : IsNext rules c.loop-upcoming.disks.items c.in-Some.stamp =
    rw c.in-Some.is at c.loop-upcoming.invariant.upcoming in
    subst (λ (v : List Disk). IsNext rules v c.in-Some.stamp) (sym c.deref-in-Some.ensures.value)
    here

pub returns-in-Err-clause-run : goal.returns-in-Err-clause-run
returns-in-Err-clause-run g c =
    let rules = c.args.rules.now in
    let disks = c.loop-upcoming.disks.items in
    let here : IsNext rules disks c.in-Some.stamp =
    rw c.in-Some.is at c.loop-upcoming.invariant.upcoming in
    let came : ComesTo rules disks c.in-Some.stamp c.run_event.result =
    subst (λ (v : List Disk). ComesTo rules v c.in-Some.stamp c.run_event.result)
    c.deref-in-Some.ensures.value c.run_event.ensures in
    let so_far = c.loop-upcoming.invariant.so_far in (
      so_far.0,
      runs_from rules c.args.disks.now.items disks so_far.0 _ so_far.1
          (c.in-Some.stamp, here, rw c.in-Err.is at came),
      so_far.2,
    )

pub returns-in_err-event-clause-cut_short : goal.returns-in_err-event-clause-cut_short
returns-in_err-event-clause-cut_short g c =
    let L = g.L.Listener in
    let rules = c.args.rules.now in
    let disks = c.loop-upcoming.disks.items in
    let change = c.in-Ok.change in
    let known = c.loop-upcoming.invariant in
    let turn = found_turn rules disks c.deref-in-Some.result.now c.loop-upcoming.upcoming
    c.in-Some.stamp change known.valid c.deref-in-Some.ensures.value c.in-Some.is known.upcoming
    c.in-Ok.ensures in
    let so_far = known.so_far in
    let fault = err_from_is_err_and c.from_residual.result
    c.from_residual.ensures.1 in
    rw (fault.1, fault.2) (
      so_far.0 ++ change ∷ [],
      effect disks change,
      one_more rules c.args.disks.now.items disks so_far.0 change so_far.1 turn.next turn.comes,
      torn_next L.after L.torn (L.meaning c.args.listener.now) (L.meaning c.loop-upcoming.listener)
          (L.meaning c.event.new.self) so_far.0 change so_far.2 c.in_err-event.ensures.torn,
    )

pub event-requires-clause-tellable : goal.event-requires-clause-tellable
event-requires-clause-tellable g c =
    let known = c.loop-upcoming.invariant in
    (found_turn c.args.rules.now c.loop-upcoming.disks.items c.deref-in-Some.result.now
    c.loop-upcoming.upcoming c.in-Some.stamp c.in-Ok.change known.valid c.deref-in-Some.ensures.value
    c.in-Some.is known.upcoming c.in-Ok.ensures).tellable

pub event-requires-clause-awaited : goal.event-requires-clause-awaited
event-requires-clause-awaited g c =
    let L = g.L.Listener in
    let rules = c.args.rules.now in
    let disks = c.loop-upcoming.disks.items in
    let change = c.in-Ok.change in
    let known = c.loop-upcoming.invariant in
    let turn = found_turn rules disks c.deref-in-Some.result.now c.loop-upcoming.upcoming
    c.in-Some.stamp change known.valid c.deref-in-Some.ensures.value c.in-Some.is known.upcoming
    c.in-Ok.ensures in
    let so_far = known.so_far in
    next_awaited L.after L.awaits (L.meaning c.args.listener.now) (L.meaning c.loop-upcoming.listener)
    so_far.0 change [] so_far.2 (c.requires.awaited (so_far.0 ++ change ∷ []) (effect disks change)
    (one_more rules c.args.disks.now.items disks so_far.0 change so_far.1 turn.next turn.comes))

pub put-requires-clause-first : goal.put-requires-clause-first
put-requires-clause-first g c =
    let known = c.loop-upcoming.invariant in
    (found_turn c.args.rules.now c.loop-upcoming.disks.items c.deref-in-Some.result.now
    c.loop-upcoming.upcoming c.in-Some.stamp c.in-Ok.change
    known.valid c.deref-in-Some.ensures.value c.in-Some.is known.upcoming
    c.in-Ok.ensures).first_within

pub put-requires-clause-second : goal.put-requires-clause-second
put-requires-clause-second g c =
    let known = c.loop-upcoming.invariant in
    (found_turn c.args.rules.now c.loop-upcoming.disks.items c.deref-in-Some.result.now
    c.loop-upcoming.upcoming c.in-Some.stamp c.in-Ok.change
    known.valid c.deref-in-Some.ensures.value c.in-Some.is known.upcoming
    c.in-Ok.ensures).second_within

pub next-upcoming-requires-in-Some-clause-valid : goal.next-upcoming-requires-in-Some-clause-valid
next-upcoming-requires-in-Some-clause-valid g c =
    let rules = c.args.rules.now in
    let known = c.loop-upcoming.invariant in
    let turn = found_turn rules c.loop-upcoming.disks.items c.deref-in-Some.result.now
    c.loop-upcoming.upcoming c.in-Some.stamp c.in-Ok.change
    known.valid c.deref-in-Some.ensures.value c.in-Some.is known.upcoming c.in-Ok.ensures in
    subst (IsValidState rules) (sym (c.deref-in-Some-2.ensures.value ∙ c.put.ensures))
    turn.later_valid

pub loop-upcoming-smaller : goal.loop-upcoming-smaller
loop-upcoming-smaller g c =
    let rules = c.args.rules.now in
    let disks = c.loop-upcoming.disks.items in
    let change = c.in-Ok.change in
    let known = c.loop-upcoming.invariant in
    let later = c.next-upcoming-in-Some.result in
    let turn = found_turn rules disks c.deref-in-Some.result.now c.loop-upcoming.upcoming
    c.in-Some.stamp change known.valid c.deref-in-Some.ensures.value c.in-Some.is known.upcoming
    c.in-Ok.ensures in
    let least : IsLeastOf (IsCandidate rules (effect disks change)) later =
    subst (λ (v : List Disk). IsLeastOf (IsCandidate rules v) later)
    (c.deref-in-Some-2.ensures.value ∙ c.put.ensures) c.next-upcoming-in-Some.ensures in
    let falls : work_left later < work_left (Some c.in-Some.stamp) =
    subst (λ (v : Stamp). work_left later < work_left (Some v)) turn.stamp
    (work_falls rules disks change later c.requires.checked known.valid turn.next turn.comes
    least) in
    rw c.in-Some.is falls

pub loop-upcoming-preserved : goal.loop-upcoming-preserved
loop-upcoming-preserved g c =
    let L = g.L.Listener in
    let rules = c.args.rules.now in
    let start = c.args.disks.now.items in
    let disks = c.loop-upcoming.disks.items in
    let change = c.in-Ok.change in
    let known = c.loop-upcoming.invariant in
    let turn = found_turn rules disks c.deref-in-Some.result.now c.loop-upcoming.upcoming
    c.in-Some.stamp change known.valid c.deref-in-Some.ensures.value c.in-Some.is known.upcoming
    c.in-Ok.ensures in
    let so_far = known.so_far in
    record {
      so_far = (
        so_far.0 ++ change ∷ [],
        subst (Steps rules start (so_far.0 ++ change ∷ [])) (sym {A = List Disk} c.put.ensures)
            (one_more rules start disks so_far.0 change so_far.1 turn.next turn.comes),
        told_more L.after (L.meaning c.args.listener.now) (L.meaning c.loop-upcoming.listener)
            (L.meaning c.event.new.self) so_far.0 change so_far.2 c.in_ok-event.ensures.told,
      );
      upcoming = subst (λ (v : List Disk). IsLeastOf (IsCandidate rules v)
          c.next-upcoming-in-Some.result) c.deref-in-Some-2.ensures.value
          c.next-upcoming-in-Some.ensures;
      valid = subst (IsValidState rules) (sym {A = List Disk} c.put.ensures) turn.later_valid;
      count = c.in_ok-event.ensures.counts ∙ known.count;
    }

pub done-requires-clause-valid : goal.done-requires-clause-valid
done-requires-clause-valid g c =
    subst (IsValidState c.args.rules.now) (sym c.deref-2.ensures.value) c.loop-upcoming.invariant.valid

pub returns-in_err-done-clause-cut_short : goal.returns-in_err-done-clause-cut_short
returns-in_err-done-clause-cut_short g c =
    let L = g.L.Listener in
    let so_far = c.loop-upcoming.invariant.so_far in
    let fault = err_from_is_err_and c.from_residual-in_err-done.result
    c.from_residual-in_err-done.ensures.1 in
    rw (fault.1, fault.2) (
      so_far.0,
      c.loop-upcoming.disks.items,
      so_far.1,
      all_told L.after
          (L.meaning c.args.listener.now) (L.meaning c.loop-upcoming.listener) so_far.0 so_far.2,
    )

pub returns-clause-run : goal.returns-clause-run
returns-clause-run g c =
    let rules = c.args.rules.now in
    let disks = c.loop-upcoming.disks.items in
    let known = c.loop-upcoming.invariant in
    let none : HasNone (IsCandidate rules disks) =
    none_left rules disks c.loop-upcoming.upcoming c.in_default.not-Some known.upcoming in
    let spots : spots_of rules.end c.deref-2.result.now ≡ spots_of rules.end disks =
    ap (spots_of rules.end) c.deref-2.ensures.value in
    let so_far = known.so_far in (
      so_far.0,
      rw c.in_ok-done.ensures (runs_from rules c.args.disks.now.items disks so_far.0
          (Done (spots_of rules.end c.deref-2.result.now)) so_far.1 (none, spots)),
      so_far.2,
    )
