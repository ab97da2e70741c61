use Rattle.std.specs.Prelude.{Option, option_map}
use Rattle.region_view.specs.declared.action.Action.{Action}
use Rattle.region_view.specs.Acting.{stamp_of}
use Rattle.event_log.specs.Laid.{logged_by}
use Rattle.event_log.proofs.Read.{native_said_at}
use Rattle.event_log.proofs.processed.EventLog.native_stamp.Goals as goal

pub returns : goal.returns
returns c =
    native_said_at (λ (o : Option Action). option_map stamp_of o) c.args.self.now c.args.i (logged_by c.laid.result)
    c.native_stamp.result c.laid.ensures.logged c.native_stamp.ensures
