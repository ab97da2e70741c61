-- A disk that meets the right side, worked out by hand.
use Rattle.std.specs.Prelude.{pos, neg_ℤ, List, [], ◌∷◌, None}
use Rattle.fixed_motion.specs.declared.disk.Disk.{Disk}
use Rattle.event_stamps.specs.declared.Stamp.{Stamp}
use Rattle.event_stamps.specs.declared.Kind.TheVariants.{Wall}
use Rattle.event_rules.specs.declared.change.Change.{Change}
use Rattle.worked_laws.specs.Rows.{disk_at}

-- at x = 37, two units per tick to the right: x = 38 is the last place inside
abbrev pub bounce_disks : List Disk
bounce_disks = disk_at (pos 37) (pos 2) 0 0 ∷ []

-- it hits the right side, number 1, at once
abbrev pub bounce_stamp : Stamp
bounce_stamp = record { tick = 0; round = 0; kind = Wall; first = 0; second = 1 }

-- it turns to the left
abbrev pub the_bounce : Change
the_bounce = record { stamp = bounce_stamp; first = disk_at (pos 37) (neg_ℤ (pos 2)) 0 1; second = None }
