use Rattle.region_workers.proofs.job.Job.make_turns.Given as goal

abbrev pub invariant-loop-turn : goal.invariant-loop-turn
invariant-loop-turn g l = g.S.Beside.goes l.fn.beside l.fn.lent l.beside l.lent
