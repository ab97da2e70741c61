use Rattle.event_log.specs.Logged.{Logged, sets}
use Rattle.event_log.specs.Laid.{logged_by}
use Rattle.event_log.proofs.Read.{said_at}
use Rattle.event_log.proofs.processed.EventLog.sets.Goals as goal

pub returns : goal.returns
returns c =
    said_at (λ (l : Logged). sets c.args.disk l.1) c.args.self.now c.args.i (logged_by c.laid.result) c.sets.result
    c.laid.ensures.logged c.sets.ensures
