use Rattle.region_table.specs.Tables.{IsIdleSeat}
use Rattle.region_table.proofs.job.TableJob.make_slice.Given as goal

abbrev pub invariant-loop-region : goal.invariant-loop-region
invariant-loop-region g l = IsIdleSeat l.fn.self.table.now l.seat
