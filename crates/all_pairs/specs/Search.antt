-- What a search for the next event finds.
use Rattle.std.specs.Prelude.{◌≡◌, ℕ, ◌<◌, List, slice_get, Some}
use Rattle.fixed_motion.specs.declared.rules.Rules.{Rules}
use Rattle.fixed_motion.specs.declared.disk.Disk.{Disk}
use Rattle.event_stamps.specs.declared.Stamp.{Stamp}
use Rattle.event_rules.specs.Events.{IsPairEvent}

-- an event of disk i with a higher disk below n
abbrev pub IsPairBelow : Rules → List Disk → ℕ → Disk → ℕ → Stamp → Type 0
IsPairBelow rules disks i a n s = (j : ℕ) × (i < j) × (j < n)
    × ((b : Disk) × (slice_get disks j ≡ Some b) × IsPairEvent rules i a j b s)
