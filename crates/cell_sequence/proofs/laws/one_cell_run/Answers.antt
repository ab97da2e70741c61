use Rattle.cell_sequence.proofs.Exists.{one_cell_run}
use Rattle.cell_sequence.proofs.laws.one_cell_run.Goals as goal

pub returns : goal.returns
returns c = one_cell_run
