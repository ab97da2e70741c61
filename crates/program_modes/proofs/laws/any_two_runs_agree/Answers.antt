use Rattle.program_modes.proofs.Agreed.{only_beginnings, beginnings_agree}
use Rattle.program_modes.proofs.laws.any_two_runs_agree.Goals as goal

pub returns-clause-moments : goal.returns-clause-moments
returns-clause-moments c = only_beginnings

pub returns-clause-agree : goal.returns-clause-agree
returns-clause-agree c = beginnings_agree
