-- Part by part.
use Rattle.std.proofs.Common.{arith}
use Rattle.std.proofs.lemmas.Bool.{both_ways}
use Rattle.region_queue.proofs.finder.Finder.is_event_of.Goals as goal

pub returns-then-stamp : goal.returns-then-stamp
returns-then-stamp c = (λ yes. cc, λ h. let lt = h.0 in let le = c.if-stamp.true in absurd (omega arith))

pub returns-then-not-owns : goal.returns-then-not-owns
returns-then-not-owns c = (
  λ yes. cc,
  λ h. absurd (both_ways c.owns.result c.if-not-owns.true (c.owns.ensures.1 h.1)),
)

pub returns-then-adjacent : goal.returns-then-adjacent
returns-then-adjacent c = (
  λ yes. (c.if-stamp.false, c.owns.ensures.0 c.if-not-owns.false, (c.adjacent.ensures.0 c.if-adjacent.true, c.is_pair_event.ensures.0 yes)),
  λ h. c.is_pair_event.ensures.1 h.2.1,
)

pub returns-else-adjacent : goal.returns-else-adjacent
returns-else-adjacent c = (
  λ yes. cc,
  λ h. absurd (both_ways c.adjacent.result c.if-adjacent.false (c.adjacent.ensures.1 h.2.0)),
)
