use Rattle.cell_sequence.proofs.Joins.{steps_join}
use Rattle.cell_sequence.proofs.laws.steps_join.Goals as goal

pub returns : goal.returns
returns c = steps_join
