use Rattle.event_log.specs.Collisions.{change_in}
use Rattle.event_log.specs.Laid.{logged_by}
use Rattle.event_log.proofs.Read.{native_said_at}
use Rattle.event_log.proofs.processed.EventLog.change.Goals as goal

pub returns : goal.returns
returns c =
    native_said_at change_in c.args.self.now c.args.i (logged_by c.laid.result) c.change.result
    c.laid.ensures.logged c.change.ensures
