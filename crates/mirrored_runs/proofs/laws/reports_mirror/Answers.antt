use Rattle.mirrored_runs.proofs.MirroredReports.{reports_mirror}
use Rattle.mirrored_runs.proofs.laws.reports_mirror.Goals as goal

pub returns : goal.returns
returns c = reports_mirror
