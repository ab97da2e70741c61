use Rattle.std.proofs.Common.{◌≡◌, drop}
use Rattle.std.specs.FinMap as map
use Rattle.saved_states.specs.Steps.{view_before}
use Rattle.saved_states.proofs.row_before.Given as goal

abbrev pub invariant-loop-step : goal.invariant-loop-step
invariant-loop-step l =
    map.get (view_before l.view l.steps) l.disk ≡ map.get (view_before l.view (drop l.step-index l.steps)) l.disk
