use Rattle.cell_sequence.proofs.Joins.{runs_join}
use Rattle.cell_sequence.proofs.laws.runs_join.Goals as goal

pub returns : goal.returns
returns c = runs_join
