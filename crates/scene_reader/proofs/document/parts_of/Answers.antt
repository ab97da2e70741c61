-- The first unknown key of the table is shown.
use Rattle.std.proofs.Common.{sym}
use Rattle.scene_reader.proofs.document.parts_of.Goals as goal

pub returns-in-Some : goal.returns-in-Some
returns-in-Some c = rw (sym c.in-Some.ensures, c.new.ensures)

pub returns : goal.returns
returns c = rw (sym c.in_default.ensures, c.in_ok-values.ensures) c.types_of.ensures
