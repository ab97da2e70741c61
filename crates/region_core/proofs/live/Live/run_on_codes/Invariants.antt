-- The events that ran so far are steps, and what comes next is known.
use Rattle.std.specs.Prelude.{◌-◌}
use Rattle.region_core.specs.Live.{region_in}
use Rattle.region_core.proofs.RunningOn.{HasRun}
use Rattle.region_core.proofs.live.Live.run_on_codes.Given as goal

abbrev pub invariant-loop-ran : goal.invariant-loop-ran
invariant-loop-ran l =
    HasRun l.place l.limit l.most l.so_far.answer (region_in l.place l.fn.self) l.ran l.last l.top l.self

abbrev pub decreases-loop-ran : goal.decreases-loop-ran
decreases-loop-ran l = l.most - l.ran
