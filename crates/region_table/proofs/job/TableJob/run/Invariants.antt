use Rattle.region_table.specs.Tables.{IsIdleSeat}
use Rattle.region_table.proofs.job.TableJob.run.Given as goal

abbrev pub invariant-loop-turn : goal.invariant-loop-turn
invariant-loop-turn g l = IsIdleSeat l.fn.self.table.now l.seat
