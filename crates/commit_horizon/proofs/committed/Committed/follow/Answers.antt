use Rattle.std.proofs.Common.{sym, ap, ◌∙◌, subst}
use Rattle.event_stamps.specs.Order.{Before, end_stamp}
use Rattle.cell_sequence.specs.State.{CellStateData, HasNoneBelow, followed_by, raised}
use Rattle.commit_horizon.specs.Following.{MayFollow}
use Rattle.commit_horizon.proofs.Commit.{same_rules}
use Rattle.commit_horizon.proofs.committed.Committed.follow.Goals as goal

pub follow_all-requires : goal.follow_all-requires
follow_all-requires c =
    let untold = c.args.untold in
    let may = subst (λ (v : CellStateData). MayFollow v untold c.args.floor) (sym c.self.view_is) c.requires in
    (_, may.steps)

pub raise_floor-requires : goal.raise_floor-requires
raise_floor-requires c =
    let untold = c.args.untold in
    let floor = c.args.floor in
    let old = c.self.inside.state in
    let may = subst (λ (v : CellStateData). MayFollow v untold floor) (sym c.self.view_is) c.requires in
    let is = sym c.in_ok-actions.ensures.state in record {
      not_lowered = subst (λ (v : CellStateData). ¬ Before floor v.floor) is may.not_lowered;
      in_time = subst (λ (v : CellStateData). ¬ Before (end_stamp v.rules.end) floor) is
          (subst (λ rules. ¬ Before (end_stamp rules.end) floor) (sym (same_rules untold old)) may.in_time);
      none_below = subst (λ (v : CellStateData). HasNoneBelow v floor) is may.none_below;
    }

pub returns-clause-batch : goal.returns-clause-batch
returns-clause-batch c = c.in_ok-actions.ensures.actions

pub returns-clause-state : goal.returns-clause-state
returns-clause-state c = c.raise_floor.ensures
    ∙ ap (raised c.args.floor) (c.in_ok-actions.ensures.state
    ∙ ap (λ (v : CellStateData). followed_by v c.args.untold) c.self.view_is)
