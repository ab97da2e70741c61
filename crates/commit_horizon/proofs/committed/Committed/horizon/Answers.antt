use Rattle.std.proofs.Common.{ap, ◌∙◌, subst, Some}
use Rattle.fixed_motion.specs.declared.rules.Rules.{Rules}
use Rattle.event_stamps.specs.declared.Stamp.{Stamp}
use Rattle.event_stamps.specs.Order.{end_stamp}
use Rattle.cell_sequence.specs.State.{CellStateData, IsCellState}
use Rattle.commit_horizon.specs.Bounds.{HoldsUpTo, IsUpToAll}
use Rattle.commit_horizon.proofs.Standing.{horizon_is}
use Rattle.commit_horizon.proofs.committed.Committed.horizon.Goals as goal

pub returns-clause-value : goal.returns-clause-value
returns-clause-value c =
    let regions = c.args.regions.now in
    let h = c.least_bound.result in
    let end = c.end_of.ensures ∙ ap (λ (rules : Rules). end_stamp rules.end)
    (c.rules.ensures.value ∙ ap (λ (state : CellStateData). state.rules) c.self.view_is) in
    horizon_is c.args.self.now regions h (subst IsCellState c.self.view_is c.rules.ensures.kept) c.requires
    c.least_bound.ensures.kept
    (subst (λ (s : Stamp). HoldsUpTo (IsUpToAll s regions) (Some h)) end c.least_bound.ensures.bound)
