use Rattle.run_core.specs.Taking.{IsFirstDue}
use Rattle.run_core.proofs.one_event.least_due.Given as goal

abbrev pub invariant-loop-k : goal.invariant-loop-k
invariant-loop-k l = IsFirstDue l.regions l.k l.home l.least
