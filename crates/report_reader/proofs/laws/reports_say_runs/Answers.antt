use Rattle.report_reader.proofs.ReadBack.{reports_say_runs}
use Rattle.report_reader.proofs.laws.reports_say_runs.Goals as goal

pub returns : goal.returns
returns c = reports_say_runs
