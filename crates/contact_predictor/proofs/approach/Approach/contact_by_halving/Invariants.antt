-- The disks approach after `low` ticks and not after `high`, and each tick before `high` is early.
use Rattle.std.proofs.Common.{◌-◌, ◌<◌}
use Rattle.contact_predictor.specs.Approach.{IsEarly}
use Rattle.contact_predictor.proofs.Quadratic.{Nears}
use Rattle.contact_predictor.proofs.approach.Approach.contact_by_halving.Given as goal

abbrev pub invariant-loop-high : goal.invariant-loop-high
invariant-loop-high l = record {
  order : l.low < l.high;
  early : IsEarly l.self (l.high - 1);
  approaches : Nears l.self l.low;
  ends : ¬ Nears l.self l.high;
}

abbrev pub decreases-loop-high : goal.decreases-loop-high
decreases-loop-high l = l.high - l.low
