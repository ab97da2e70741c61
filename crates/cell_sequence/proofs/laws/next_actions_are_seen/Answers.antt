use Rattle.cell_sequence.proofs.Seen.{next_actions_are_seen}
use Rattle.cell_sequence.proofs.laws.next_actions_are_seen.Goals as goal

pub returns : goal.returns
returns c = next_actions_are_seen
