-- The events are steps one after the other: as their codes are before the limit's, their stamps are before the limit.
use Rattle.std.proofs.Common.{◌≡◌, ◌∙◌, Some, Option, refl, sym, subst, arith}
use Rattle.std.specs.Prelude.{IfSome}
use Rattle.std.proofs.Math.Nat.{min-le_left}
use Rattle.event_stamps.specs.declared.Stamp.{Stamp}
use Rattle.event_stamps.specs.Least.{IsLeastOf}
use Rattle.event_tree.specs.Keys.{Key}
use Rattle.local_run.specs.LocalRun.{IsOwn}
use Rattle.region_parts.specs.declared.place.Place.{Place}
use Rattle.region_core.specs.Live.{now_in, region_in, IsLive}
use Rattle.region_core.proofs.RunningOn.{near_code, ran_next, has_run_none, next_at_turn, has_run_more, still_follows, stops_after, failed_same, runs_on}
use Rattle.region_core.proofs.live.Live.run_on_codes.Goals as goal
use Rattle.region_core.proofs.live.Live.run_on_codes.Goals.{then-loop-ran-test+else-is_before, else-loop-ran-test, then-loop-ran-test+then-is_before+in_default, then-loop-ran-test+then-is_before+in-Some+in_ok-run_event+then-not-branch, then-loop-ran-test+then-is_before+in-Some+in_ok-run_event+else-not-branch+in_default-top_own_code-2, then-loop-ran-test+then-is_before+in-Some+in_ok-run_event+else-not-branch+in_default-top_own_code}

pub loop-ran-init : goal.loop-ran-init
loop-ran-init c =
    let few = min-le_left c.room.result c.args.so_far.left in
    has_run_none c.args.place.now c.args.limit.now c.min-most.result c.room.result c.args.so_far.answer c.none-last.result c.args.top
    c.args.self.now c.requires.ready c.requires.top c.room.ensures (omega (arith, few, c.min-most.ensures)) c.none-last.ensures

pub run_event-requires-clause-turn : goal.run_event-requires-clause-turn
run_event-requires-clause-turn c =
    let due = c.in-Some.due in
    let top = c.loop-ran.top in
    let near = near_code c.args.limit.now due top c.limit-limit_code.result c.stamp.result c.stamp.ensures.value c.in-Some.is
    c.stamp.ensures.coded c.limit-limit_code.ensures (c.is_before.ensures.0 c.if-is_before.true) in
    next_at_turn c.args.place.now c.args.limit.now due c.min-most.result c.args.so_far.answer
    (region_in c.args.place.now c.args.self.now) c.loop-ran.ran c.loop-ran.last top c.loop-ran.self c.loop-ran.invariant
    c.loop-ran-test.true (sym c.stamp.ensures.value ∙ c.in-Some.is) near

pub loop-ran-preserved : goal.loop-ran-preserved
loop-ran-preserved c =
    let place = c.args.place.now in
    let limit = c.args.limit.now in
    let old = c.loop-ran.self in
    let new = c.run_event.new.self in
    let due = c.in-Some.due in
    let top = c.loop-ran.top in
    let next = c.in-Some-top_own_code.next in
    let near = near_code limit due top c.limit-limit_code.result c.stamp.result c.stamp.ensures.value c.in-Some.is
    c.stamp.ensures.coded c.limit-limit_code.ensures (c.is_before.ensures.0 c.if-is_before.true) in
    let one = ran_next place limit due old new _ near c.if-not-branch.false c.in_ok-run_event.ensures.steps in
    let least = subst (λ (o : Option Key). IfSome o (λ code. (p : Place) → IsLive p new → IsLeastOf (IsOwn p.home (now_in new).view) code))
    c.in-Some-top_own_code.is c.top_own_code.ensures place c.in_ok-run_event.ensures.live in
    has_run_more place limit due c.min-most.result c.args.so_far.answer (region_in place c.args.self.now) c.loop-ran.ran
    c.loop-ran.last top top next old new c.loop-ran.invariant c.loop-ran-test.true one c.in_ok-run_event.ensures.live
    (sym c.stamp.ensures.value ∙ c.in-Some.is) least (c.if-is_before-2.ensures.0 refl)

pub returns-clause-live : goal.returns-clause-live
returns-clause-live c =
    let here = IsLive c.args.place.now in
    let live = c.loop-ran.invariant.ready.live in
    elim c.loop-ran-test.branch [
      | then-loop-ran-test+else-is_before w ↦ subst here (sym w.self-is) live
      | else-loop-ran-test w ↦ subst here (sym w.self-is) live
      | then-loop-ran-test+then-is_before+in_default w ↦ subst here (sym w.self-is) live
      | then-loop-ran-test+then-is_before+in-Some+in_ok-run_event+then-not-branch w ↦
          subst here (sym w.self-is) w.in_ok-run_event.ensures.live
      | then-loop-ran-test+then-is_before+in-Some+in_ok-run_event+else-not-branch+in_default-top_own_code-2 w ↦
          subst here (sym w.self-is) w.in_ok-run_event.ensures.live
      | then-loop-ran-test+then-is_before+in-Some+in_ok-run_event+else-not-branch+in_default-top_own_code w ↦
          subst here (sym w.self-is) w.in_ok-run_event.ensures.live
    ]

pub returns-clause-ran : goal.returns-clause-ran
returns-clause-ran c =
    let place = c.args.place.now in
    let limit = c.args.limit.now in
    let given = c.args.so_far in
    let first = region_in place c.args.self.now in
    let old = c.loop-ran.self in
    let end = c.loop-ran-test in
    let ran = c.loop-ran.invariant.ran in
    let event = c.stamp-2.ensures.value in
    let follows = still_follows place limit given.answer first c.loop-ran.ran end.ran c.loop-ran.last c.stamp-2.result old end.self in
    runs_on limit given c.after.result end.ran first (region_in place end.self) c.stamp-2.result c.after.ensures.answer
    c.after.ensures.left
    (elim c.loop-ran-test.branch [
      | then-loop-ran-test+else-is_before w ↦ follows w.ran-is (event ∙ w.last-is) w.self-is ran
      | else-loop-ran-test w ↦ follows w.ran-is (event ∙ w.last-is) w.self-is ran
      | then-loop-ran-test+then-is_before+in_default w ↦ follows w.ran-is (event ∙ w.last-is) w.self-is ran
      | then-loop-ran-test+then-is_before+in-Some+in_ok-run_event+then-not-branch w ↦
          follows w.ran-is (event ∙ w.last-is) (w.self-is ∙ failed_same place w.in-Some.due old w.run_event.new.self _
          w.if-not-branch.true w.in_ok-run_event.ensures.steps) ran
      | then-loop-ran-test+then-is_before+in-Some+in_ok-run_event+else-not-branch+in_default-top_own_code-2 w ↦
          let due = w.in-Some.due in
          let new = w.run_event.new.self in
          let near = near_code limit due c.loop-ran.top c.limit-limit_code.result w.stamp.result w.stamp.ensures.value w.in-Some.is
          w.stamp.ensures.coded c.limit-limit_code.ensures (w.is_before.ensures.0 w.if-is_before.true) in
          stops_after place limit due given.answer first c.loop-ran.ran end.ran c.loop-ran.last c.stamp-2.result old new end.self
          w.ran-is (event ∙ w.last-is ∙ sym w.stamp.ensures.value ∙ w.in-Some.is) w.self-is ran
          (ran_next place limit due old new _ near w.if-not-branch.false w.in_ok-run_event.ensures.steps)
      | then-loop-ran-test+then-is_before+in-Some+in_ok-run_event+else-not-branch+in_default-top_own_code w ↦
          let due = w.in-Some.due in
          let new = w.run_event.new.self in
          let near = near_code limit due c.loop-ran.top c.limit-limit_code.result w.stamp.result w.stamp.ensures.value w.in-Some.is
          w.stamp.ensures.coded c.limit-limit_code.ensures (w.is_before.ensures.0 w.if-is_before.true) in
          stops_after place limit due given.answer first c.loop-ran.ran end.ran c.loop-ran.last c.stamp-2.result old new end.self
          w.ran-is (event ∙ w.last-is ∙ sym w.stamp.ensures.value ∙ w.in-Some.is) w.self-is ran
          (ran_next place limit due old new _ near w.if-not-branch.false w.in_ok-run_event.ensures.steps)
    ])
