use Rattle.std.proofs.Common.{◌+◌, ◌≤◌, ◌∙◌, drop, arith}
use Rattle.std.specs.FinMap as map
use Rattle.saved_states.specs.Steps.{view_before}
use Rattle.saved_states.proofs.First.{undone_step}
use Rattle.saved_states.proofs.room_before.Goals as goal

pub loop-step-preserved : goal.loop-step-preserved
loop-step-preserved c = λ i le.
    let within : c.loop-step.room ≤ i = omega (arith, c.max-room.ensures) in
    let past : c.room_set.result ≤ i = omega (arith, c.max-room.ensures) in
    let before = c.loop-step.invariant i within in (
      λ none. before.0 (undone_step c.args.view.now c.args.steps.now c.loop-step.step-index
          c.step-item.result i c.loop-step-test.true c.step-item.is
          ∙ c.room_set.ensures i past
          (map.get (view_before c.args.view.now (drop (c.loop-step.step-index + 1) c.args.steps.now)) i) ∙ none),
      before.1,
    )
