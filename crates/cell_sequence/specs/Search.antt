-- What a search for the next event finds.
use Rattle.std.specs.Prelude.{◌≡◌, ℕ, ◌<◌, List, slice_get, Some}
use Rattle.fixed_motion.specs.declared.rules.Rules.{Rules}
use Rattle.event_stamps.specs.declared.Stamp.{Stamp}
use Rattle.cell_grid.specs.Grid.{GridData}
use Rattle.region_view.specs.declared.action.Placed.{Placed}
use Rattle.region_view.specs.Events.{IsNear}

-- an event of disk i with a higher disk below n, in an adjacent cell
abbrev pub IsNearBelow : Rules → GridData → List Placed → ℕ → Placed → ℕ → Stamp → Type 0
IsNearBelow rules grid placed i p n s =
    (j : ℕ) × (i < j) × (j < n)
    × ((q : Placed) × (slice_get placed j ≡ Some q) × IsNear rules grid i p j q s)

-- an event whose first disk is i
abbrev pub IsOfFirstDisk : (Stamp → Type 0) → ℕ → Stamp → Type 0
IsOfFirstDisk P i s = P s × (s.first ≡ i)
