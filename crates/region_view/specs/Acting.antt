-- The result of an event of placed disks, and the rows that it sets.
use Rattle.std.specs.Prelude.{◌≡◌, ℕ, ◌==◌, if◌then◌else◌, List, [], ◌∷◌, ◌++◌, Option, Some, None}
use Rattle.std.specs.Prelude.{option_map, Result, Ok, Err}
use Rattle.fixed_motion.specs.declared.rules.Rules.{Rules}
use Rattle.fixed_motion.specs.declared.disk.Disk.{Disk}
use Rattle.fixed_motion.specs.Motion.{place_of}
use Rattle.event_stamps.specs.declared.Stamp.{Stamp}
use Rattle.event_stamps.specs.declared.Kind.{Kind}
use Rattle.event_stamps.specs.declared.Kind.TheVariants.{Cross as Crossing, Wall, Pair}
use Rattle.event_rules.specs.declared.change.Change.{Change}
use Rattle.event_rules.specs.declared.change.Limit.{Limit}
use Rattle.event_rules.specs.declared.change.Limit.TheVariants.{Rounds}
use Rattle.event_rules.specs.Effect.{applied}
use Rattle.cell_grid.specs.Grid.{GridData, cell_at}
use Rattle.region_view.specs.declared.action.Placed.{Placed}
use Rattle.region_view.specs.declared.action.Action.{Action}
use Rattle.region_view.specs.declared.action.Action.TheVariants.{Cross, Hit}
use Rattle.region_view.specs.Placing.{Placing}

-- the stamp of an action
abbrev pub stamp_of : Action → Stamp
stamp_of (Cross s cell) = s
stamp_of (Hit change) = change.stamp

-- the disk in a row, if it is there
abbrev pub disk_in : Option Placed → Option Disk
disk_in row = option_map (λ p. p.disk) row

-- the second disk of a pair's event
abbrev pub partner_in : Kind → Placing → ℕ → Option Disk
partner_in Crossing at second = None
partner_in Wall at second = None
partner_in Pair at second = disk_in (at second)

-- the result of a collision, its change as an action
abbrev pub hit_of : Result Change Limit → Result Action Limit
hit_of (Ok change) = Ok (Hit change)
hit_of (Err limit) = Err limit

-- a crossing records the cell of the place, and fails at the round limit as any event does
abbrev pub crossed : Rules → GridData → Stamp → Disk → Result Action Limit
crossed rules grid s a =
    if s.round == rules.round_limit then Err (Rounds s)
    else Ok (Cross s (cell_at grid (place_of a s.tick)))

-- the result of an event of this kind
abbrev pub action_of : Rules → GridData → Stamp → Disk → Option Disk → Kind → Result Action Limit
action_of rules grid s a b Crossing = crossed rules grid s a
action_of rules grid s a b Wall = hit_of (applied rules s a b)
action_of rules grid s a b Pair = hit_of (applied rules s a b)

-- the result of the event: an action, or the limit at which it fails
abbrev pub ActsAs : Rules → GridData → Placing → Stamp → Result Action Limit → Type 0
ActsAs rules grid at s r = (p : Placed) × (at s.first ≡ Some p)
    × (r ≡ action_of rules grid s p.disk (partner_in s.kind at s.second) s.kind)

-- ---- the rows that an action sets
-- the row at a number with another cell, if it is there
abbrev pub recelled : ℕ → ℕ → Option Placed → List (ℕ × Placed)
recelled i cell None = []
recelled i cell (Some p) = (i, record { disk = p.disk; cell = cell }) ∷ []

-- the row at a number with a new record, if both are there
abbrev pub redisked : ℕ → Option Disk → Option Placed → List (ℕ × Placed)
redisked i None row = []
redisked i (Some a) None = []
redisked i (Some a) (Some p) = (i, record { disk = a; cell = p.cell }) ∷ []

-- a crossing sets only the cell, a collision the records of its disks
abbrev pub new_rows : Placing → Action → List (ℕ × Placed)
new_rows at (Cross s cell) = recelled s.first cell (at s.first)
new_rows at (Hit change) =
    redisked change.stamp.first (Some change.first) (at change.stamp.first)
    ++ redisked change.stamp.second change.second (at change.stamp.second)
