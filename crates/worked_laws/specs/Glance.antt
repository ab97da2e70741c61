-- Two disks that meet aslant, of which one then meets the bottom, worked out by hand.
use Rattle.std.specs.Prelude.{pos, neg_ℤ, List, [], ◌∷◌, Some, None}
use Rattle.fixed_motion.specs.declared.disk.Disk.{Disk}
use Rattle.fixed_motion.specs.Scene.{SceneData}
use Rattle.event_stamps.specs.declared.Stamp.{Stamp}
use Rattle.event_stamps.specs.declared.Kind.TheVariants.{Wall, Pair}
use Rattle.event_rules.specs.declared.change.Change.{Change}
use Rattle.event_rules.specs.declared.outcome.Spot.{Spot}
use Rattle.collision_sums.specs.declared.sums.Sums.{Sums}
use Rattle.worked_laws.specs.Rows.{disk_from, scene_until}

-- one flies to the right, and passes 3 units above the other's centre, which stands
abbrev pub glance_disks : List Disk
glance_disks = disk_from (pos 10) (pos 6) (pos 2) (pos 0) 0 0 ∷ disk_from (pos 17) (pos 3) (pos 0) (pos 0) 0 0 ∷ []

-- up to the tick 5
abbrev pub glance_scene : SceneData
glance_scene = scene_until 5 glance_disks

-- they hit each other at tick 2, in round 0
abbrev pub glance_stamp : Stamp
glance_stamp = record { tick = 2; round = 0; kind = Pair; first = 0; second = 1 }

-- there r is (-3, 3) and u is (2, 0), so the impulse is (-1, 1), exactly
abbrev pub the_glance : Change
the_glance = record {
  stamp = glance_stamp;
  first = disk_from (pos 14) (pos 6) (pos 1) (pos 1) 2 1;
  second = Some (disk_from (pos 17) (pos 3) (pos 1) (neg_ℤ (pos 1)) 2 1);
}

-- the second hits the bottom, side 2, at tick 3
abbrev pub landing_stamp : Stamp
landing_stamp = record { tick = 3; round = 0; kind = Wall; first = 1; second = 2 }

-- it goes up again
abbrev pub the_landing : Change
the_landing = record { stamp = landing_stamp; first = disk_from (pos 18) (pos 2) (pos 1) (pos 1) 3 1; second = None }

-- both events
abbrev pub glance_changes : List Change
glance_changes = the_glance ∷ the_landing ∷ []

-- at tick 5
abbrev pub glance_end : List Spot
glance_end =
    record { x = pos 17; y = pos 9; vx = pos 1; vy = pos 1 } ∷ record { x = pos 20; y = pos 4; vx = pos 1; vy = pos 1 } ∷ []

-- over the whole box: r·J is 6, and the bottom took 2
abbrev pub glance_sums : Sums
glance_sums = record { pairs = 1; virial = 6; walls = 1; left = 0; right = 0; bottom = 2; top = 0 }

-- ---- the same with x and y exchanged
abbrev pub upright_disks : List Disk
upright_disks = disk_from (pos 6) (pos 10) (pos 0) (pos 2) 0 0 ∷ disk_from (pos 3) (pos 17) (pos 0) (pos 0) 0 0 ∷ []

-- the hit
abbrev pub upright_glance : Change
upright_glance = record {
  stamp = glance_stamp;
  first = disk_from (pos 6) (pos 14) (pos 1) (pos 1) 2 1;
  second = Some (disk_from (pos 3) (pos 17) (neg_ℤ (pos 1)) (pos 1) 2 1);
}

-- the second hits the left side, side 0
abbrev pub upright_landing : Change
upright_landing = record {
  stamp = record { tick = 3; round = 0; kind = Wall; first = 1; second = 0 };
  first = disk_from (pos 2) (pos 18) (pos 1) (pos 1) 3 1;
  second = None;
}

-- at tick 5
abbrev pub upright_end : List Spot
upright_end =
    record { x = pos 9; y = pos 17; vx = pos 1; vy = pos 1 } ∷ record { x = pos 4; y = pos 20; vx = pos 1; vy = pos 1 } ∷ []
