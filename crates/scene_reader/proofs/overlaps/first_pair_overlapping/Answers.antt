-- The others are tried one after another.
use Rattle.std.proofs.Common.{sym, ◌∙◌}
use Rattle.scene_reader.specs.Disks.{meet}
use Rattle.scene_reader.proofs.First.{from_start, passed_over, found_here, found_nowhere}
use Rattle.scene_reader.proofs.overlaps.first_pair_overlapping.Goals as goal

pub loop-i-init : goal.loop-i-init
loop-i-init c = from_start (λ other. meet c.args.disk.now other) c.args.others.now

pub loop-i-preserved : goal.loop-i-preserved
loop-i-preserved c =
    passed_over (λ other. meet c.args.disk.now other) c.args.others.now c.loop-i.i _ c.loop-i-test.true (sym c.meet.ensures ∙ c.if-meet.false) c.loop-i.invariant

pub returns-then-meet-clause-number : goal.returns-then-meet-clause-number
returns-then-meet-clause-number c =
    found_here (λ other. meet c.args.disk.now other) c.args.others.now c.loop-i.i _ c.loop-i-test.true (sym c.meet.ensures ∙ c.if-meet.true) c.loop-i.invariant

pub returns-clause-number : goal.returns-clause-number
returns-clause-number c =
    found_nowhere (λ other. meet c.args.disk.now other) c.args.others.now c.loop-i.i c.loop-i-test.false c.loop-i.invariant
