use Rattle.cell_sequence.proofs.Joins.{hits_join}
use Rattle.cell_sequence.proofs.laws.hits_join.Goals as goal

pub returns : goal.returns
returns c = hits_join
