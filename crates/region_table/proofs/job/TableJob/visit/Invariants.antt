use Rattle.region_table.specs.Tables.{IsIdleSeat}
use Rattle.region_table.proofs.job.TableJob.visit.Given as goal

abbrev pub invariant-loop-other : goal.invariant-loop-other
invariant-loop-other g l = IsIdleSeat l.fn.self.table.now l.seat
