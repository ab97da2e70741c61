use Rattle.cell_sequence.proofs.Exists.{cell_steps_begin}
use Rattle.cell_sequence.proofs.laws.cell_steps_begin.Goals as goal

pub returns : goal.returns
returns c = cell_steps_begin
