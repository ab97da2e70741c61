-- Nothing is sent of an action of which nobody is told.
use Rattle.std.proofs.Common.{◌++◌, [], Option, refl, ap, sym, ◌∙◌}
use Rattle.std.proofs.lemmas.List.{append-nil}
use Rattle.region_view.specs.declared.action.Action.{Action}
use Rattle.region_view.specs.declared.rows.Message.{Message}
use Rattle.region_view.specs.Placing.{Placing}
use Rattle.local_run.specs.declared.home.Home.{Home}
use Rattle.local_run.specs.LocalRun.{Trails, trail_of, prepended}
use Rattle.region_parts.specs.Border.{IsUntold}
use Rattle.region_parts.specs.Sending.{HasSent}

pub none_sent : (home : Home) (at : Placing) (x : Action) (sent : Trails) → IsUntold home at x →
    HasSent home at x sent sent
none_sent home at x sent untold = record {
  size = refl;
  told = λ to sends.
      let trail = trail_of sent to in
      sym (append-nil trail) ∙ ap (λ (m : Option Message). trail ++ prepended m []) (sym (untold to sends));
}
