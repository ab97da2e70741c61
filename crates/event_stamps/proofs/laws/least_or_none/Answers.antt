use Rattle.event_stamps.proofs.Least as least
use Rattle.event_stamps.proofs.laws.least_or_none.Goals as goal

pub returns : goal.returns
returns c = least.least_of_test
