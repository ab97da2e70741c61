use Rattle.region_workers.proofs.job.Job.goes_on.Given as goal

abbrev pub invariant-loop : goal.invariant-loop
invariant-loop g l = g.S.Beside.goes l.fn.beside l.fn.lent l.beside l.lent
