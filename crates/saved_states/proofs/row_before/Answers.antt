use Rattle.std.proofs.Common.{◌+◌, ◌∙◌, sym, drop}
use Rattle.std.specs.FinMap as map
use Rattle.saved_states.specs.Steps.{view_before}
use Rattle.saved_states.proofs.First.{undone_step}
use Rattle.saved_states.proofs.row_before.Goals as goal

pub returns-in-Some : goal.returns-in-Some
returns-in-Some c = sym (c.loop-step.invariant
    ∙ undone_step c.args.view.now c.args.steps.now c.loop-step.step-index c.step-item.result c.args.disk
    c.loop-step-test.true c.step-item.is
    ∙ c.in-Some.ensures
    (map.get (view_before c.args.view.now (drop (c.loop-step.step-index + 1) c.args.steps.now)) c.args.disk))

pub loop-step-preserved : goal.loop-step-preserved
loop-step-preserved c = c.loop-step.invariant
    ∙ undone_step c.args.view.now c.args.steps.now c.loop-step.step-index c.step-item.result c.args.disk
    c.loop-step-test.true c.step-item.is
    ∙ c.in_default.ensures
    (map.get (view_before c.args.view.now (drop (c.loop-step.step-index + 1) c.args.steps.now)) c.args.disk)
