-- A valid record is near.
use Rattle.fixed_motion.specs.declared.rules.Rules.{Rules}
use Rattle.fixed_motion.specs.declared.disk.Disk.{Disk}
use Rattle.fixed_motion.specs.Rules.{IsChecked}
use Rattle.fixed_motion.specs.Motion.{IsValidDisk, centre_of, velocity_of}
use Rattle.fixed_motion.proofs.Sizes.{inside_in_box, slow_size}
use Rattle.collision_sums.specs.Bounds.{IsNear}

pub near : (rules : Rules) (a : Disk) → IsChecked rules → IsValidDisk rules a → IsNear a
near rules a checked valid = record {
  centre = inside_in_box rules a (centre_of a) checked valid.size valid.centre;
  velocity = slow_size rules (velocity_of a) checked valid.velocity;
}
