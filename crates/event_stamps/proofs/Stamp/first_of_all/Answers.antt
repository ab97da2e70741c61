use Rattle.std.proofs.Common.{refl}
use Rattle.event_stamps.proofs.Stamp.first_of_all.Goals as goal

pub returns : goal.returns
returns c = refl
