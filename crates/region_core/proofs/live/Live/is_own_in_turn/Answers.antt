use Rattle.std.proofs.Common.{◌∙◌, None, Some, Option, subst}
use Rattle.event_stamps.specs.declared.Stamp.{Stamp}
use Rattle.local_run.specs.Moves.{ComesAfter}
use Rattle.region_core.specs.Live.{run_in}
use Rattle.region_core.proofs.NextMove.{turn_by}
use Rattle.region_core.proofs.RunningOn.{found_in_turn}
use Rattle.region_core.proofs.Traced.{last_stamp_is}
use Rattle.region_core.proofs.live.Live.is_own_in_turn.Goals as goal

pub returns-in-Some : goal.returns-in-Some
returns-in-Some c = λ yes.
    let r = run_in c.args.place.now.floor c.args.self.now in
    let own = c.in-Some.own in
    let last = c.last_stamp.ensures ∙ last_stamp_is c.args.self.now.log in
    found_in_turn c.args.place.now.home r (Some own) (c.in-Some.ensures c.args.place.now c.requires)
    ((turn_by r own).0
    (subst (λ (o : Option Stamp). ComesAfter c.args.place.now.floor o own) last (c.is_in_turn.ensures.0 yes)))

pub returns-in-None : goal.returns-in-None
returns-in-None c = λ yes.
    found_in_turn c.args.place.now.home (run_in c.args.place.now.floor c.args.self.now) None
    (c.in-None.ensures c.args.place.now c.requires) tt
