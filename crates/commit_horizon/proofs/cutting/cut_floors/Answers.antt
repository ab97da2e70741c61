use Rattle.std.proofs.Common.{◌≤◌, ◌∙◌, length, map, sym, ap, arith}
use Rattle.std.proofs.lemmas.List.{take_all, length-set}
use Rattle.local_run.specs.Raising.{raised_region}
use Rattle.event_log.specs.Logged.{entries_in}
use Rattle.commit_horizon.specs.Cutting.{logs_below}
use Rattle.region_parts.proofs.Lists.{one_more}
use Rattle.commit_horizon.proofs.Raises.{may_rise_next, all_changed}
use Rattle.commit_horizon.proofs.CutLogs.{one_more_cut}
use Rattle.commit_horizon.proofs.cutting.cut_floors.Goals as goal

pub cut_floor-requires : goal.cut_floor-requires
cut_floor-requires c =
    let may = may_rise_next c.args.to c.args.regions.now c.loop-k.regions c.loop-k.k c.index-regions-k.result
    c.loop-k-test.true c.loop-k.invariant.raised c.requires.may in
    record {
      not_lowered = may.not_lowered;
      in_time = may.in_time;
      none_waiting = may.none_waiting;
    }

pub returns-clause-raised : goal.returns-clause-raised
returns-clause-raised c = c.loop-k.invariant.raised
    ∙ all_changed (raised_region c.args.to) c.args.regions.now c.loop-k.k (omega (arith, c.loop-k-test.false))

pub returns-clause-cut : goal.returns-clause-cut
returns-clause-cut c =
    let regions = c.args.regions.now in
    let past : length regions ≤ c.loop-k.k = omega (arith, c.loop-k-test.false) in
    sym (ap (map entries_in) (take_all c.loop-k.k c.loop-k.logs (omega (arith, c.loop-k.invariant.count))))
    ∙ c.loop-k.invariant.cut ∙ ap (logs_below c.args.to) (take_all c.loop-k.k regions past)

pub loop-k-preserved : goal.loop-k-preserved
loop-k-preserved c =
    let regions = c.args.regions.now in
    let items = c.loop-k.regions in
    let logs = c.loop-k.logs in
    let k = c.loop-k.k in
    let d = c.index-regions-k.result in
    let so_far = c.loop-k.invariant in
    record {
      raised = one_more (raised_region c.args.to) regions items k d c.cut_floor.new.self c.loop-k-test.true so_far.raised
          c.in_ok-cut_floor.ensures.raised;
      cut = one_more_cut (raised_region c.args.to) c.args.to regions items logs k d c.cut_floor.new.into c.loop-k-test.true
          so_far.count so_far.raised so_far.cut c.in_ok-cut_floor.ensures.cut;
      count = length-set logs k c.cut_floor.new.into ∙ so_far.count;
    }
