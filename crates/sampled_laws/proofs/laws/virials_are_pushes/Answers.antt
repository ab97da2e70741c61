-- Two disks recede after an impulse.
use Rattle.sampled_laws.proofs.Pushes.{virials_are_pushes}
use Rattle.sampled_laws.proofs.laws.virials_are_pushes.Goals as goal

pub returns : goal.returns
returns c = virials_are_pushes
