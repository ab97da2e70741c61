use Rattle.report_reader.proofs.ReadBack.{reports_read_back}
use Rattle.report_reader.proofs.laws.reports_read_back.Goals as goal

pub returns : goal.returns
returns c = reports_read_back
