use Rattle.event_rules.proofs.Conserved.{momentum_turns_at_sides}
use Rattle.event_rules.proofs.laws.momentum_turns_at_sides.Goals as goal

pub returns : goal.returns
returns c = momentum_turns_at_sides
