-- The regions are those of the call. That is said here, so that others are refused as soon as this fails.
use Rattle.std.proofs.Common.{refl}
use Rattle.std.proofs.lemmas.Result.{IfOk-weaker}
use Rattle.region_workers.proofs.by_run_call.ByRunCallRunBurst.burst.Goals as goal

pub work-requires-clause-stand : goal.work-requires-clause-stand
work-requires-clause-stand g c = c.requires.stand g.O.Origin.opening refl

pub returns-clause-count : goal.returns-clause-count
returns-clause-count g c = c.work.ensures.count

pub returns-clause-kept : goal.returns-clause-kept
returns-clause-kept g c = IfOk-weaker c.work.result _ _ (λ worked kept _. kept) c.work.ensures.kept
