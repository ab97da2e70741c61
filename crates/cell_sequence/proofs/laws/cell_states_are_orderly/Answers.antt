use Rattle.cell_sequence.proofs.Orderly.{cell_states_are_orderly}
use Rattle.cell_sequence.proofs.laws.cell_states_are_orderly.Goals as goal

pub returns : goal.returns
returns c = cell_states_are_orderly
