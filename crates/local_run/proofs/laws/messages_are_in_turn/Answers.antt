use Rattle.local_run.proofs.InTurn.{waiting_in_turn}
use Rattle.local_run.proofs.laws.messages_are_in_turn.Goals as goal

pub returns : goal.returns
returns c = waiting_in_turn
