use Rattle.std.proofs.Common.{◌∷◌, [], Option, sym, subst}
use Rattle.std.specs.Prelude.{IfSome, OnOk, OnErr}
use Rattle.event_rules.specs.Told.{Told}
use Rattle.region_view.specs.declared.action.Action.{Action}
use Rattle.cell_sequence.specs.Run.{hits}
use Rattle.commit_horizon.specs.Telling.{MayBeTold, IsHitAwaited, HitRefused}
use Rattle.commit_horizon.proofs.Tellings.{hit_there, nothing_told}
use Rattle.commit_horizon.proofs.untold.tell_in.Goals as goal

pub event-requires-clause-tellable : goal.event-requires-clause-tellable
event-requires-clause-tellable g c =
    subst (λ (o : Option Action). IfSome o MayBeTold) (hit_there _ c.in-Some.change c.in-Some.ensures) c.requires.tellable

pub event-requires-clause-awaited : goal.event-requires-clause-awaited
event-requires-clause-awaited g c =
    let L = g.L.Listener in
    subst (λ (o : Option Action). IfSome o (IsHitAwaited L.awaits (L.meaning c.args.listener.now)))
    (hit_there _ c.in-Some.change c.in-Some.ensures) c.requires.awaited

pub returns-in-Some-clause-told : goal.returns-in-Some-clause-told
returns-in-Some-clause-told g c =
    let L = g.L.Listener in
    subst (λ (o : Option Action). OnOk c.event.result (IfSome o
    (λ x. Told L.after (L.meaning c.args.listener.now) (hits (x ∷ [])) (L.meaning c.event.new.self))))
    (sym (hit_there _ c.in-Some.change c.in-Some.ensures)) c.event.ensures.told

pub returns-in-Some-clause-refused : goal.returns-in-Some-clause-refused
returns-in-Some-clause-refused g c =
    let L = g.L.Listener in
    subst (λ (o : Option Action). OnErr c.event.result (IfSome o
    (λ x. HitRefused L.torn (L.meaning c.args.listener.now) x (L.meaning c.event.new.self))))
    (sym (hit_there _ c.in-Some.change c.in-Some.ensures)) c.event.ensures.torn

pub returns-in-None-clause-told : goal.returns-in-None-clause-told
returns-in-None-clause-told g c =
    let L = g.L.Listener in
    nothing_told L.after (L.meaning c.args.listener.now) _ c.in-None.ensures
