use Rattle.cell_sequence.proofs.Hits.{hits_are_steps}
use Rattle.cell_sequence.proofs.laws.hits_are_steps.Goals as goal

pub returns : goal.returns
returns c = hits_are_steps
