-- The code of what contracts see of a region.
use Rattle.std.specs.Prelude.{List, Option, refl}
use Rattle.std.specs.Coded.{Coded, code_by, coded×, coded_ℕ, coded_list, coded_option}
use Rattle.std.specs.FinMap as map
use Rattle.event_stamps.specs.declared.Stamp.{Stamp}
use Rattle.event_stamps.specs.contracts.Stamp as stamp
use Rattle.region_view.specs.contracts.action.Placed as placed
use Rattle.region_view.specs.contracts.rows.Message as message
use Rattle.region_view.specs.Views.{ViewData}
use Rattle.local_run.specs.declared.home.Home.{Home}
use Rattle.local_run.specs.contracts.home.Home as home
use Rattle.local_run.specs.declared.entry.Entry.{Entry}
use Rattle.local_run.specs.contracts.entry.Entry as entry
use Rattle.local_run.specs.LocalRun.{Local, Trails}
use Rattle.local_run.specs.Opening.{RegionData}

-- a view is stored as its placed disks by number
abbrev pub view_code : Coded ViewData
view_code = map.code coded_ℕ placed.the_row.coded

-- a local run is stored as its four parts
abbrev pub local_code : Coded Local
local_code = code_by (Stamp × (ViewData × (Trails × List Entry)))
    (coded× stamp.the_row.coded (coded× view_code
    (coded× (coded_list (coded_list message.the_row.coded)) (coded_list entry.the_row.coded))))
    (λ r. (r.floor, (r.base, (r.heard, r.log))))
    (λ p. record { floor = p.0; base = p.1.0; heard = p.1.1.0; log = p.1.1.1 }) (λ _. refl)

-- a region is stored as its home, its floor and its local run
abbrev pub region_code : Coded RegionData
region_code = code_by (Home × (Stamp × Option Local))
    (coded× home.the_row.coded (coded× stamp.the_row.coded (coded_option local_code)))
    (λ r. (r.home, (r.floor, r.run))) (λ p. record { home = p.0; floor = p.1.0; run = p.1.1 })
    (λ _. refl)
