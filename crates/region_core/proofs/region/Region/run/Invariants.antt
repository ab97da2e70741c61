use Rattle.local_run.proofs.Running.{IsUnderWay}
use Rattle.region_core.proofs.region.Region.run.Given as goal

abbrev pub invariant-loop : goal.invariant-loop
invariant-loop l = IsUnderWay l.counter l.fn.self l.answer l.self
