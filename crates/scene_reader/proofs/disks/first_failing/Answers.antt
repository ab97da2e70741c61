-- The disks are tried one after another.
use Rattle.std.proofs.Common.{ap, sym, ◌∙◌}
use Rattle.std.specs.Prelude.{not}
use Rattle.scene_reader.specs.Trials.{passes}
use Rattle.scene_reader.proofs.First.{from_start, passed_over, found_here, found_nowhere}
use Rattle.scene_reader.proofs.disks.first_failing.Goals as goal

pub loop-i-init : goal.loop-i-init
loop-i-init c = from_start (λ a. not (passes c.args.rules.now c.args.trial a)) c.args.disks.now

pub loop-i-preserved : goal.loop-i-preserved
loop-i-preserved c =
    passed_over (λ a. not (passes c.args.rules.now c.args.trial a)) c.args.disks.now c.loop-i.i _ c.loop-i-test.true
    (ap not (sym c.passes.ensures ∙ c.if-not-passes.false)) c.loop-i.invariant

pub returns-then-not-passes : goal.returns-then-not-passes
returns-then-not-passes c =
    found_here (λ a. not (passes c.args.rules.now c.args.trial a)) c.args.disks.now c.loop-i.i _ c.loop-i-test.true
    (ap not (sym c.passes.ensures ∙ c.if-not-passes.true)) c.loop-i.invariant

pub returns : goal.returns
returns c =
    found_nowhere (λ a. not (passes c.args.rules.now c.args.trial a)) c.args.disks.now c.loop-i.i c.loop-i-test.false c.loop-i.invariant
