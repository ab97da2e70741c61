-- A crossing below the round limit records the cell of the place.
use Rattle.std.proofs.Common.{◌≡◌, ℕ, Bool, false, ap, sym, ◌∙◌}
use Rattle.std.specs.Prelude.{if◌then◌else◌, Result, Ok, Err}
use Rattle.std.proofs.lemmas.Bool.{eq-eqb, ne_eqb}
use Rattle.fixed_motion.specs.declared.rules.Rules.{Rules}
use Rattle.fixed_motion.specs.declared.disk.Disk.{Disk}
use Rattle.fixed_motion.specs.Motion.{place_of}
use Rattle.event_stamps.specs.declared.Stamp.{Stamp}
use Rattle.event_rules.specs.declared.change.Limit.{Limit}
use Rattle.event_rules.specs.declared.change.Limit.TheVariants.{Rounds}
use Rattle.cell_grid.specs.Grid.{GridData, cell_at}
use Rattle.region_view.specs.declared.action.Action.{Action}
use Rattle.region_view.specs.declared.action.Action.TheVariants.{Cross}
use Rattle.region_view.specs.Acting.{crossed}

abbrev crossed_to : Stamp → ℕ → Bool → Result Action Limit
crossed_to s cell at_limit = if at_limit then Err (Rounds s) else Ok (Cross s cell)

pub crossed_in_time : (rules : Rules) (grid : GridData) (s : Stamp) (a : Disk) (cell : ℕ) → ¬ (s.round ≡ rules.round_limit) →
    cell ≡ cell_at grid (place_of a s.tick) → crossed rules grid s a ≡ Ok (Cross s cell)
crossed_in_time rules grid s a cell before is =
    ap (crossed_to s (cell_at grid (place_of a s.tick))) (ne_eqb s.round rules.round_limit before)
    ∙ ap (λ (n : ℕ). crossed_to s n false) (sym is)

pub crossed_at_limit : (rules : Rules) (grid : GridData) (s : Stamp) (a : Disk) → s.round ≡ rules.round_limit →
    crossed rules grid s a ≡ Err (Rounds s)
crossed_at_limit rules grid s a is =
    ap (crossed_to s (cell_at grid (place_of a s.tick))) (eq-eqb s.round rules.round_limit is)
