-- A pair is summed with the velocity of its first disk before.
use Rattle.std.proofs.Common.{Option, ap, sym, ◌∙◌}
use Rattle.plane_vectors.specs.declared.Vector.{Vector}
use Rattle.fixed_motion.specs.declared.disk.Disk.{Disk}
use Rattle.collision_sums.specs.Sums.{after_event, after_pair}
use Rattle.collision_sums.proofs.sums.Sums.add.Goals as goal

pub returns-in-Some : goal.returns-in-Some
returns-in-Some c =
    let rules = c.args.rules.now in let m = c.args.margin in let sums = c.args.self.now in let change = c.args.change.now in
    c.add_pair.ensures
    ∙ ap (λ (v : Vector). after_pair rules m sums v change.first c.in-Some.second) c.velocity_before-before.ensures.value
    ∙ ap (λ (o : Option Disk). after_event rules m c.args.disks.now sums change.stamp change.first o) (sym c.in-Some.is)
