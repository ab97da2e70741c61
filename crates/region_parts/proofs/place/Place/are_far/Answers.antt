use Rattle.std.proofs.Common.{sym, ◌∙◌}
use Rattle.std.proofs.lemmas.Bool.{false≢true}
use Rattle.region_parts.proofs.place.Place.are_far.Goals as goal

pub is_far-requires-then-is_far-clause-place : goal.is_far-requires-then-is_far-clause-place
is_far-requires-then-is_far-clause-place c = c.requires.place

pub is_far-requires-clause-place : goal.is_far-requires-clause-place
is_far-requires-clause-place c = c.requires.place

pub returns-then-is_far : goal.returns-then-is_far
returns-then-is_far c = λ far. (c.is_far.ensures.0 c.if-is_far.true, c.is_far-then-is_far.ensures.0 far)

pub returns-else-is_far : goal.returns-else-is_far
returns-else-is_far c = λ far. absurd (false≢true (sym c.if-is_far.false ∙ far))

pub is_far-requires-then-is_far-clause-cell : goal.is_far-requires-then-is_far-clause-cell
is_far-requires-then-is_far-clause-cell c = c.requires.other
