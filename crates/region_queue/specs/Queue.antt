-- What contracts see of a region's queue, and the view for which the queue stands.
use Rattle.std.specs.Prelude.{◌≡◌, ℕ, List, refl}
use Rattle.std.specs.Coded.{Coded, code_by, coded×, coded_ℕ}
use Rattle.std.specs.FinMap as map
use Rattle.fixed_motion.specs.declared.rules.Rules.{Rules}
use Rattle.fixed_motion.specs.contracts.rules.Rules as rules_type
use Rattle.fixed_motion.specs.Rules.{IsChecked}
use Rattle.event_tree.specs.contracts.entries.Entries as entries_type
use Rattle.event_tree.specs.Entries.{EntriesData, entries_with}
use Rattle.event_tree.specs.Keys.{Key}
use Rattle.cell_grid.specs.contracts.grid.Grid as grid_type
use Rattle.cell_grid.specs.declared.grid.Strip.{Strip}
use Rattle.cell_grid.specs.Grid.{GridData, IsGridOf, IsRegion, IsStripOf}
use Rattle.region_view.specs.Placing.{IsNative}
use Rattle.region_view.specs.Views.{ViewData, rows_in}
use Rattle.region_queue.specs.Finding.{Cells, AreListed}
use Rattle.region_queue.specs.Covering.{Covers, IsSettled}

-- what contracts see of a queue: its region, the cell in which each disk is listed, and for each disk the key and the
-- bound of its pairs
pub record QueueData : Type 0 where
  pub rules : Rules
  pub grid : GridData
  pub region : ℕ
  pub cells : Cells
  pub keys : List Key
  pub bounds : List Key

-- the queue of these parts
abbrev pub queue_of : Rules → GridData → ℕ → Cells → List Key → List Key → QueueData
queue_of rules grid region cells keys bounds =
    record { rules = rules; grid = grid; region = region; cells = cells; keys = keys; bounds = bounds }

-- a queue is stored as its parts
abbrev pub queue_code : Coded QueueData
queue_code =
    code_by (Rules × (GridData × (ℕ × (Cells × EntriesData))))
    (coded× rules_type.the_row.coded (coded× grid_type.the_row.coded (coded× coded_ℕ
    (coded× (map.code coded_ℕ coded_ℕ) entries_type.the_row.coded))))
    (λ q. (q.rules, (q.grid, (q.region, (q.cells, entries_with q.keys q.bounds)))))
    (λ p. queue_of p.0 p.1.0 p.1.1.0 p.1.1.1.0 p.1.1.1.1.keys p.1.1.1.1.bounds) (λ _. refl)

-- what each queue keeps: a region of a grid of checked rules, its columns, and lists of this grid
pub record IsSoundQueue (r : Rules) (g : GridData) (k : ℕ) (columns : Strip) (listed : GridData) : Type 0 where
  pub checked : IsChecked r
  pub grid : IsGridOf r g
  pub region : IsRegion g k
  pub strip : IsStripOf g k columns
  pub lists : listed ≡ g

-- the queue is of these rules, this grid, and the region of this number
pub record IsOf (queue : QueueData) (r : Rules) (g : GridData) (k : ℕ) : Type 0 where
  pub rules : queue.rules ≡ r
  pub grid : queue.grid ≡ g
  pub region : queue.region ≡ k

-- disks are listed in the cells in which the view has them, the keys cover the native candidates, and the least key is
-- one
unfoldable pub StandsFor : QueueData → ViewData → Type 0
StandsFor queue view = AreListed view queue.cells
    × (Covers (IsNative queue.rules queue.grid queue.region (rows_in view)) queue.keys queue.bounds
    × IsSettled (IsNative queue.rules queue.grid queue.region (rows_in view)) queue.keys)
