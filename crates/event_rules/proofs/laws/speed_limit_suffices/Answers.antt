use Rattle.event_rules.proofs.Speeds.{speed_limit_suffices}
use Rattle.event_rules.proofs.laws.speed_limit_suffices.Goals as goal

pub returns : goal.returns
returns c = speed_limit_suffices
