use Rattle.region_locks.proofs.locks.Locks.hear_and_run.Goals as goal

-- as many steps as were asked for
pub run_before-requires : goal.run_before-requires
run_before-requires g c = c.requires.steps
