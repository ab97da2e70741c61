-- The collisions among the entries of a log.
use Rattle.std.specs.Prelude.{ℕ, List, Option, Some, None}
use Rattle.event_rules.specs.declared.change.Change.{Change}
use Rattle.region_view.specs.declared.action.Action.{Action}
use Rattle.region_view.specs.declared.action.Action.TheVariants.{Cross, Hit}
use Rattle.event_log.specs.Logged.{Logged, native_at}

-- the change of a collision; none if there is no action, or it is a crossing
abbrev pub change_in : Option Action → Option Change
change_in None = None
change_in (Some (Cross s cell)) = None
change_in (Some (Hit change)) = Some change

-- the same at a place
abbrev pub change_at : List Logged → ℕ → Option Change
change_at log i = change_in (native_at log i)
