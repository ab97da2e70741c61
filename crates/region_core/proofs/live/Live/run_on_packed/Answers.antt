-- The events are steps one after the other.
use Rattle.std.proofs.Common.{◌≡◌, ◌∙◌, Some, sym, subst, arith}
use Rattle.std.proofs.Math.Nat.{min-le_left, min-le_right}
use Rattle.region_core.specs.Live.{region_in, IsLive}
use Rattle.region_core.proofs.RunningOn.{near_key, ran_next, has_run_none, next_at_turn, has_run_more, still_follows, stops_after, failed_same, runs_on}
use Rattle.region_parts.proofs.Lists.{as_many}
use Rattle.region_core.proofs.live.Live.run_on_packed.Goals as goal
use Rattle.region_core.proofs.live.Live.run_on_packed.Goals.{then-loop-ran-test+else-is_before, else-loop-ran-test, then-loop-ran-test+then-is_before+in_default, then-loop-ran-test+then-is_before+in-Some+in_ok-run_event+then-not-branch, then-loop-ran-test+then-is_before+in-Some+in_ok-run_event+else-not-branch+then-not-is_before}

pub new-limit_key-requires : goal.new-limit_key-requires
new-limit_key-requires c = c.requires.in_range

pub room-requires : goal.room-requires
room-requires c = let few = c.requires.live.body.right.few in let many = as_many c.args.self.now.log in omega arith

pub loop-ran-init : goal.loop-ran-init
loop-ran-init c =
    let few = min-le_left c.room.result c.args.so_far.left in
    has_run_none c.args.place.now c.args.limit.now c.min-most.result c.room.result c.args.so_far.answer c.new-last.result
    c.top_own-top.result c.args.self.now c.requires (c.top_own-top.ensures c.args.place.now c.requires.live) c.room.ensures
    (omega (arith, few, c.min-most.ensures)) c.new-last.ensures

pub run_event-requires-clause-turn : goal.run_event-requires-clause-turn
run_event-requires-clause-turn c =
    let due = c.in-Some.due in
    let top = c.loop-ran.top in
    let near = near_key c.args.limit.now due top c.new-limit_key.result c.key.result c.key.ensures.value c.in-Some.is
    c.new-limit_key.ensures (c.is_before.ensures.0 c.if-is_before.true) in
    next_at_turn c.args.place.now c.args.limit.now due c.min-most.result c.args.so_far.answer
    (region_in c.args.place.now c.args.self.now) c.loop-ran.ran c.loop-ran.last top c.loop-ran.self c.loop-ran.invariant
    c.loop-ran-test.true (sym c.key.ensures.value ∙ c.in-Some.is) near

pub loop-ran-preserved : goal.loop-ran-preserved
loop-ran-preserved c =
    let place = c.args.place.now in
    let limit = c.args.limit.now in
    let old = c.loop-ran.self in
    let new = c.run_event.new.self in
    let due = c.in-Some.due in
    let top = c.loop-ran.top in
    let near = near_key limit due top c.new-limit_key.result c.key.result c.key.ensures.value c.in-Some.is c.new-limit_key.ensures
    (c.is_before.ensures.0 c.if-is_before.true) in
    let one = ran_next place limit due old new _ near c.if-not-branch.false c.in_ok-run_event.ensures.steps in
    has_run_more place limit due c.min-most.result c.args.so_far.answer (region_in place c.args.self.now) c.loop-ran.ran
    c.loop-ran.last top top c.top_own-top-in-loop-ran.result old new c.loop-ran.invariant c.loop-ran-test.true one
    c.in_ok-run_event.ensures.live (sym c.key.ensures.value ∙ c.in-Some.is)
    (c.top_own-top-in-loop-ran.ensures place c.in_ok-run_event.ensures.live)
    (c.is_before-in-loop-ran.ensures.0 c.if-not-is_before.false)

pub after-requires : goal.after-requires
after-requires c =
    let most = c.min-most.ensures in
    let few = min-le_right c.room.result c.args.so_far.left in
    let within = c.loop-ran.invariant.within in
    elim c.loop-ran-test.branch [
      | then-loop-ran-test+else-is_before w ↦ omega (arith, w.ran-is)
      | else-loop-ran-test w ↦ omega (arith, w.ran-is)
      | then-loop-ran-test+then-is_before+in_default w ↦ omega (arith, w.ran-is)
      | then-loop-ran-test+then-is_before+in-Some+in_ok-run_event+then-not-branch w ↦ omega (arith, w.ran-is)
      | then-loop-ran-test+then-is_before+in-Some+in_ok-run_event+else-not-branch+then-not-is_before w ↦
          omega (arith, w.ran-is, w.loop-ran-test.true)
    ]

pub returns-clause-live : goal.returns-clause-live
returns-clause-live c =
    let here = IsLive c.args.place.now in
    let live = c.loop-ran.invariant.ready.live in
    elim c.loop-ran-test.branch [
      | then-loop-ran-test+else-is_before w ↦ subst here (sym w.self-is) live
      | else-loop-ran-test w ↦ subst here (sym w.self-is) live
      | then-loop-ran-test+then-is_before+in_default w ↦ subst here (sym w.self-is) live
      | then-loop-ran-test+then-is_before+in-Some+in_ok-run_event+then-not-branch w ↦
          subst here (sym w.self-is) w.in_ok-run_event.ensures.live
      | then-loop-ran-test+then-is_before+in-Some+in_ok-run_event+else-not-branch+then-not-is_before w ↦
          subst here (sym w.self-is) w.in_ok-run_event.ensures.live
    ]

pub returns-clause-ran : goal.returns-clause-ran
returns-clause-ran c =
    let place = c.args.place.now in
    let limit = c.args.limit.now in
    let given = c.args.so_far in
    let first = region_in place c.args.self.now in
    let old = c.loop-ran.self in
    let end = c.loop-ran-test in
    let ran = c.loop-ran.invariant.ran in
    let event = c.key-2.ensures.value in
    let follows = still_follows place limit given.answer first c.loop-ran.ran end.ran c.loop-ran.last c.key-2.result old end.self in
    runs_on limit given c.after.result end.ran first (region_in place end.self) c.key-2.result c.after.ensures.answer
    c.after.ensures.left
    (elim c.loop-ran-test.branch [
      | then-loop-ran-test+else-is_before w ↦ follows w.ran-is (event ∙ w.last-is) w.self-is ran
      | else-loop-ran-test w ↦ follows w.ran-is (event ∙ w.last-is) w.self-is ran
      | then-loop-ran-test+then-is_before+in_default w ↦ follows w.ran-is (event ∙ w.last-is) w.self-is ran
      | then-loop-ran-test+then-is_before+in-Some+in_ok-run_event+then-not-branch w ↦
          follows w.ran-is (event ∙ w.last-is) (w.self-is ∙ failed_same place w.in-Some.due old w.run_event.new.self _
          w.if-not-branch.true w.in_ok-run_event.ensures.steps) ran
      | then-loop-ran-test+then-is_before+in-Some+in_ok-run_event+else-not-branch+then-not-is_before w ↦
          let due = w.in-Some.due in
          let new = w.run_event.new.self in
          let near = near_key limit due c.loop-ran.top c.new-limit_key.result w.key.result w.key.ensures.value w.in-Some.is
          c.new-limit_key.ensures (w.is_before.ensures.0 w.if-is_before.true) in
          stops_after place limit due given.answer first c.loop-ran.ran end.ran c.loop-ran.last c.key-2.result old new end.self
          w.ran-is (event ∙ w.last-is ∙ sym w.key.ensures.value ∙ w.in-Some.is) w.self-is ran
          (ran_next place limit due old new _ near w.if-not-branch.false w.in_ok-run_event.ensures.steps)
    ])
