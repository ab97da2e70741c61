use Rattle.std.proofs.Common.{ℕ, ◌<◌}
use Rattle.event_rules.specs.Events.{IsPast}
use Rattle.event_rules.proofs.wall_events.first_past.Given as goal

abbrev pub invariant-loop-side : goal.invariant-loop-side
invariant-loop-side l = (other : ℕ) → other < l.side → IsPast l.rules l.a other l.place → ⊥
