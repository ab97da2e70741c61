use Rattle.report_audit.proofs.Joined.{joins_part}
use Rattle.report_audit.proofs.laws.joins_part.Goals as goal

pub returns : goal.returns
returns c = joins_part
