use Rattle.region_table.specs.Tables.{IsIdleSeat}
use Rattle.region_table.proofs.job.TableJob.make_turn.Given as goal

abbrev pub invariant-loop : goal.invariant-loop
invariant-loop g l = IsIdleSeat l.fn.self.table.now l.seat
