use Rattle.std.proofs.Common.{◌∙◌}
use Rattle.report_audit.proofs.Fronts.{passes_both}
use Rattle.report_audit.proofs.parted.Parted.skip.Goals as goal

pub loop-init : goal.loop-init
loop-init g c = record {
  met = c.in_ok-met.ensures.met;
  passes = c.in_ok-met.ensures.passes;
  coming = c.in_ok-met.ensures.coming;
  counts = c.in_ok-met.ensures.counts;
  loan = c.in_ok-met.ensures.loan;
  lasts = c.in_ok-met.ensures.lasts;
}

pub loop-preserved : goal.loop-preserved
loop-preserved g c = record {
  met = c.in_ok-met-2.ensures.met;
  passes = λ goes. passes_both _ _ _ _ _ (c.loop.invariant.passes c.if-met.false) (c.in_ok-met-2.ensures.passes goes);
  coming = c.in_ok-met-2.ensures.coming ∙ c.loop.invariant.coming;
  counts = c.in_ok-met-2.ensures.counts ∙ c.loop.invariant.counts;
  loan = c.in_ok-met-2.ensures.loan ∙ c.loop.invariant.loan;
  lasts = c.in_ok-met-2.ensures.lasts ∙ c.loop.invariant.lasts;
}

pub returns-in_err-met-2-clause-coming : goal.returns-in_err-met-2-clause-coming
returns-in_err-met-2-clause-coming g c = c.in_err-met-2.ensures.coming ∙ c.loop.invariant.coming

pub returns-in_err-met-2-clause-loan : goal.returns-in_err-met-2-clause-loan
returns-in_err-met-2-clause-loan g c = c.in_err-met-2.ensures.loan ∙ c.loop.invariant.loan

pub returns-in_err-met-2-clause-lasts : goal.returns-in_err-met-2-clause-lasts
returns-in_err-met-2-clause-lasts g c = c.in_err-met-2.ensures.lasts ∙ c.loop.invariant.lasts
