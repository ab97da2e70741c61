use Rattle.event_log.proofs.Near.{none_if}
use Rattle.event_log.proofs.running.moved.Goals as goal

pub returns-in_err-after : goal.returns-in_err-after
returns-in_err-after c = none_if _ _ c.from_residual-in_err-after.ensures

pub returns-in_err-placed : goal.returns-in_err-placed
returns-in_err-placed c = none_if _ _ c.from_residual-in_err-placed.ensures
