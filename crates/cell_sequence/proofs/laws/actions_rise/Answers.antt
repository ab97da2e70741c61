use Rattle.cell_sequence.proofs.Hits.{stamps_rise}
use Rattle.cell_sequence.proofs.laws.actions_rise.Goals as goal

pub returns : goal.returns
returns c = stamps_rise
