use Rattle.region_table.proofs.Slots.{nothing_held}
use Rattle.region_table.proofs.job.TableJob.run.Goals as goal

pub returns-clause-idle : goal.returns-clause-idle
returns-clause-idle g c = nothing_held c.loop-turn.seat.view.held c.loop-turn.invariant.1
