-- The cell run: collisions are sought between adjacent cells alone, and disks that leave their cells are events too.
use Rattle.std.specs.Prelude.{◌≡◌, ℕ, List, [], ◌∷◌, map, fold, slice_get, slice_set, Ok, Err}
use Rattle.fixed_motion.specs.declared.rules.Rules.{Rules}
use Rattle.fixed_motion.specs.declared.disk.Disk.{Disk}
use Rattle.fixed_motion.specs.Motion.{centre_of}
use Rattle.fixed_motion.specs.Scene.{SceneData}
use Rattle.event_stamps.specs.declared.Stamp.{Stamp}
use Rattle.event_rules.specs.declared.change.Change.{Change}
use Rattle.event_rules.specs.declared.outcome.Outcome.{Outcome}
use Rattle.event_rules.specs.declared.outcome.Outcome.TheVariants.{Done, Limit as Passes}
use Rattle.event_stamps.specs.Least.{IsLeast, HasNone}
use Rattle.event_rules.specs.Run.{spots_of}
use Rattle.cell_grid.specs.Grid.{GridData, grid_of, cell_at}
use Rattle.region_view.specs.declared.action.Placed.{Placed}
use Rattle.region_view.specs.declared.action.Action.{Action}
use Rattle.region_view.specs.declared.action.Action.TheVariants.{Cross, Hit}
use Rattle.region_view.specs.Placing.{IsCellCandidate}
use Rattle.region_view.specs.Acting.{stamp_of, ActsAs, new_rows}

-- at the start each disk's cell is that of its centre
abbrev pub placed_at : GridData → Disk → Placed
placed_at grid a = record { disk = a; cell = cell_at grid (centre_of a) }

-- the disks of a scene, each in its cell at the start
abbrev pub opened : GridData → List Disk → List Placed
opened grid disks = map (placed_at grid) disks

-- the disks without their cells
abbrev pub disks_of : List Placed → List Disk
disks_of placed = map (λ p. p.disk) placed

-- an event that a cell state may have next
abbrev pub IsStateCandidate : Rules → GridData → List Placed → Stamp → Type 0
IsStateCandidate rules grid placed s = IsCellCandidate rules grid (slice_get placed) s

-- the next event of a cell state
abbrev pub IsCellNext : Rules → GridData → List Placed → Stamp → Type 0
IsCellNext rules grid placed s = IsLeast (IsStateCandidate rules grid placed) s

-- the cell state with a placed disk put at its number
abbrev pub put_row : List Placed → ℕ × Placed → List Placed
put_row placed row = slice_set placed row.0 row.1

-- the cell state after an action
abbrev pub acted : List Placed → Action → List Placed
acted placed action = fold put_row placed (new_rows (slice_get placed) action)

-- these actions, each of the next event, lead from a cell state to that one
abbrev pub CellSteps : Rules → GridData → List Placed → List Action → List Placed → Type 0
CellSteps rules grid placed [] later = later ≡ placed
CellSteps rules grid placed (x ∷ xs) later =
    IsCellNext rules grid placed (stamp_of x)
    × ActsAs rules grid (slice_get placed) (stamp_of x) (Ok x)
    × CellSteps rules grid (acted placed x) xs later

-- the run of a cell state
abbrev pub CellRuns : Rules → GridData → List Placed → List Action → Outcome → Type 0
CellRuns rules grid placed [] (Done spots) = HasNone (IsStateCandidate rules grid placed)
    × (spots ≡ spots_of rules.end (disks_of placed))
CellRuns rules grid placed [] (Passes limit) = (s : Stamp) × IsCellNext rules grid placed s
    × ActsAs rules grid (slice_get placed) s (Err limit)
CellRuns rules grid placed (x ∷ xs) outcome =
    IsCellNext rules grid placed (stamp_of x)
    × ActsAs rules grid (slice_get placed) (stamp_of x) (Ok x)
    × CellRuns rules grid (acted placed x) xs outcome

-- the cell run of a scene, if this many regions are asked for
abbrev pub IsCellRun : SceneData → ℕ → List Action → Outcome → Type 0
IsCellRun scene asked actions outcome =
    let grid = grid_of scene.rules asked in
    CellRuns scene.rules grid (opened grid scene.disks) actions outcome

-- the changes of actions, without the crossings
abbrev pub hits : List Action → List Change
hits [] = []
hits (Cross s cell ∷ xs) = hits xs
hits (Hit change ∷ xs) = change ∷ hits xs
