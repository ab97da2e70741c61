use Rattle.report_reader.proofs.Parts.{parts_read_as_one}
use Rattle.report_reader.proofs.laws.parts_read_as_one.Goals as goal

pub returns : goal.returns
returns c = parts_read_as_one
