-- Two disks that meet head on: the scene of `scenes/pair.toml`, its one event and its end, worked out by hand.
use Rattle.std.specs.Prelude.{pos, neg_ℤ, List, [], ◌∷◌, Some}
use Rattle.fixed_motion.specs.declared.rules.Rules.{Rules}
use Rattle.fixed_motion.specs.declared.disk.Disk.{Disk}
use Rattle.fixed_motion.specs.Scene.{SceneData}
use Rattle.event_stamps.specs.declared.Stamp.{Stamp}
use Rattle.event_stamps.specs.declared.Kind.TheVariants.{Pair}
use Rattle.event_rules.specs.declared.change.Change.{Change}
use Rattle.event_rules.specs.declared.outcome.Spot.{Spot}
use Rattle.worked_laws.specs.Rows.{box_until, disk_at, spot_at, meeting, scene_until}

-- up to the tick 5
abbrev pub pair_rules : Rules
pair_rules = box_until 5

-- one unit per tick towards each other
abbrev pub pair_disks : List Disk
pair_disks = meeting (pos 1)

-- the scene
abbrev pub pair_scene : SceneData
pair_scene = scene_until 5 pair_disks

-- they hit each other at tick 3, in round 0
abbrev pub hit_stamp : Stamp
hit_stamp = record { tick = 3; round = 0; kind = Pair; first = 0; second = 1 }

-- at x = 13 and 17, four units apart, they swap their velocities
abbrev pub the_hit : Change
the_hit = record {
  stamp = hit_stamp;
  first = disk_at (pos 13) (neg_ℤ (pos 1)) 3 1;
  second = Some (disk_at (pos 17) (pos 1) 3 1);
}

-- at tick 5 they are at x = 11 and 19
abbrev pub pair_end : List Spot
pair_end = spot_at (pos 11) (neg_ℤ (pos 1)) ∷ spot_at (pos 19) (pos 1) ∷ []
