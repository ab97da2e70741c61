-- The tests of single disks.
use Rattle.std.specs.Prelude.{Bool}
use Rattle.fixed_motion.specs.declared.rules.Rules.{Rules}
use Rattle.fixed_motion.specs.declared.disk.Disk.{Disk}
use Rattle.fixed_motion.specs.Rules.{is_size}
use Rattle.fixed_motion.specs.Motion.{is_inside, is_slow, centre_of, velocity_of}
use Rattle.scene_reader.specs.declared.disks.Trial.{Trial}
use Rattle.scene_reader.specs.declared.disks.Trial.TheVariants.{Size, Place, Speed}

-- the disk passes the test
abbrev pub passes : Rules → Trial → Disk → Bool
passes rules Size disk = is_size rules.diameter disk.size
passes rules Place disk = is_inside rules disk (centre_of disk)
passes rules Speed disk = is_slow rules (velocity_of disk)
