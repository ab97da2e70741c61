use Rattle.std.proofs.Common.{◌+◌, Some, sym, subst, refl, length, arith}
use Rattle.std.proofs.lemmas.Option.{slice_get_read, slice_get_within}
use Rattle.commit_horizon.specs.Bounds.{HoldsUpTo, OfFirst, IsUpToDue}
use Rattle.commit_horizon.proofs.Within.{holds_none, holds_more, holds_all, kept_more}
use Rattle.commit_horizon.proofs.bounding.least_due.Goals as goal

pub loop-region-init : goal.loop-region-init
loop-region-init c = record {
  due = holds_none IsUpToDue c.args.regions.now;
  kept = λ k region lt at. absurd (omega arith);
}

pub loop-region-preserved : goal.loop-region-preserved
loop-region-preserved c =
    let regions = c.args.regions.now in
    let k = c.loop-region.region-index in
    let region = c.region-item.result in
    let there = slice_get_read regions (length regions) k region refl c.loop-region-test.true c.region-item.is in
    record {
      due = subst (HoldsUpTo (OfFirst IsUpToDue regions (k + 1))) (sym c.earlier-least.ensures)
          (holds_more IsUpToDue regions k region c.loop-region.least (Some c.due_bound.result) there
          c.loop-region.invariant.due c.due_bound.ensures.due);
      kept = kept_more regions k region there c.loop-region.invariant.kept c.due_bound.ensures.kept;
    }

pub returns-clause-due : goal.returns-clause-due
returns-clause-due c = holds_all IsUpToDue c.args.regions.now c.loop-region.region-index c.loop-region.least
    (omega arith) c.loop-region.invariant.due

pub returns-clause-kept : goal.returns-clause-kept
returns-clause-kept c = λ k region at. c.loop-region.invariant.kept k region
    (omega (arith, slice_get_within c.args.regions.now k region at)) at
