use Rattle.std.proofs.Common.{◌+◌, sym, subst}
use Rattle.event_stamps.specs.Least.{IsLeastOf}
use Rattle.cell_sequence.specs.Run.{IsStateCandidate}
use Rattle.cell_sequence.proofs.Found.{IsBelow, none_before, one_more_disk, all_disks}
use Rattle.cell_sequence.proofs.search.next.Goals as goal

pub loop-i-init : goal.loop-i-init
loop-i-init c = none_before c.args.rules.now c.args.grid.now c.args.placed.now

pub loop-i-preserved : goal.loop-i-preserved
loop-i-preserved c =
    subst (IsLeastOf (IsBelow (IsStateCandidate c.args.rules.now c.args.grid.now c.args.placed.now)
    (c.loop-i.i + 1)))
    (sym c.earlier-first.ensures)
    (one_more_disk c.args.rules.now c.args.grid.now c.args.placed.now c.loop-i.i c.loop-i.first
    c.first_of.result
    c.loop-i.invariant c.first_of.ensures)

pub returns : goal.returns
returns c = all_disks c.args.rules.now c.args.grid.now c.args.placed.now c.loop-i.i c.loop-i.first
    c.loop-i-test.false c.loop-i.invariant
