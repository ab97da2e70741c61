use Rattle.local_run.proofs.Valid.{heard_from}
use Rattle.local_run.proofs.laws.sent_may_be_heard.Goals as goal

pub returns : goal.returns
returns c = heard_from
