use Rattle.std.proofs.Common.{sym, arith}
use Rattle.event_log.specs.Logged.{entries_in}
use Rattle.commit_horizon.proofs.Latest.{none_found, last_found, nothing_beyond, nothing_here}
use Rattle.commit_horizon.proofs.cutting.last_of.Goals as goal

pub entries-init : goal.entries-init
entries-init c = nothing_beyond c.args.log.now c.len-place.result c.len-place.ensures

pub entries-preserved : goal.entries-preserved
entries-preserved c = nothing_here c.args.log.now c.entries.place c.entries-test.true (sym c.in_default.ensures)
    c.entries.invariant

pub returns-in-Some : goal.returns-in-Some
returns-in-Some c = last_found (entries_in c.args.log.now) _ c.in-Some.stamp c.requires (sym c.in-Some.ensures)
    (λ j lt. c.entries.invariant j (omega arith))

pub returns : goal.returns
returns c = none_found (entries_in c.args.log.now) (λ k. c.entries.invariant k (omega arith))
