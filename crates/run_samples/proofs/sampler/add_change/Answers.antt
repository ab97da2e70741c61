-- A change of disks in the table may be summed.
use Rattle.std.proofs.Common.{List, sym, subst}
use Rattle.fixed_motion.specs.declared.disk.Disk.{Disk}
use Rattle.collision_sums.specs.Bounds.{IsSummable}
use Rattle.run_samples.proofs.Summable.{summable}
use Rattle.run_samples.proofs.sampler.add_change.Goals as goal

pub add-requires-clause-change : goal.add-requires-clause-change
add-requires-clause-change c =
    subst (λ (disks : List Disk). IsSummable disks c.args.change.now) (sym c.disks.ensures)
    (summable c.args.table.now c.args.change.now c.rules.ensures.table c.requires)
