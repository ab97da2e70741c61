use Rattle.event_log.specs.Logged.{Logged}
use Rattle.event_log.specs.Laid.{logged_by}
use Rattle.event_log.proofs.Read.{said_at}
use Rattle.event_log.proofs.processed.EventLog.back.Goals as goal

pub returns : goal.returns
returns c =
    said_at (λ (l : Logged). l.1) c.args.self.now c.args.i (logged_by c.laid.result) c.back.result
    c.laid.ensures.logged c.back.ensures
