-- A view that a log leads to from another one, and back from.
use Rattle.std.specs.Prelude.{◌≡◌, List}
use Rattle.region_view.specs.Views.{ViewData}
use Rattle.event_log.specs.Logged.{Logged}
use Rattle.event_log.specs.Undoing.{LeadBack, view_after}

-- the entries lead from the base view to the newest one, and the rows beside them back
pub record IsTraced (base newest : ViewData) (log : List Logged) : Type 0 where
  pub forth : view_after base log ≡ newest
  pub back : LeadBack base log
