-- What was found is what the members have.
use Rattle.std.proofs.Common.{sym}
use Rattle.scene_reader.proofs.values.value_at.Goals as goal

pub returns-in-Some : goal.returns-in-Some
returns-in-Some c = rw (sym c.in-Some.ensures)
