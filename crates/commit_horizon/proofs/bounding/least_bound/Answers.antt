use Rattle.std.proofs.Common.{sym, ap, ◌∙◌, subst, Option, Some}
use Rattle.std.specs.Option.{unwrap_or}
use Rattle.event_stamps.specs.declared.Stamp.{Stamp}
use Rattle.event_stamps.specs.Least.{earlier_of}
use Rattle.commit_horizon.specs.Bounds.{HoldsUpTo, IsUpToAll}
use Rattle.commit_horizon.proofs.Within.{least_holds}
use Rattle.commit_horizon.proofs.bounding.least_bound.Goals as goal

pub returns-clause-bound : goal.returns-clause-bound
returns-clause-bound c =
    let end = c.args.end in
    let bound = c.earlier.ensures ∙ ap (earlier_of (Some end)) c.earlier-bound.ensures in
    let is = c.unwrap_or.ensures ∙ ap (λ (s : Option Stamp). unwrap_or s end) bound in
    subst (λ (s : Stamp). HoldsUpTo (IsUpToAll c.args.end c.args.regions.now) (Some s)) (sym is)
    (least_holds c.args.end c.args.regions.now c.least_due.result c.first_apart_of_all.result
    c.least_due.ensures.due c.first_apart_of_all.ensures)
