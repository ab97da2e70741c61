use Rattle.std.proofs.Common.{sym, ◌∙◌}
use Rattle.std.proofs.lemmas.Bool.{false≢true}
use Rattle.event_stamps.proofs.StampOrder.{not_before_itself}
use Rattle.region_core.proofs.weaving.not_before.Goals as goal

pub returns-then-is_before-clause-some : goal.returns-then-is_before-clause-some
returns-then-is_before-clause-some c = not_before_itself c.args.least.now

pub returns-else-is_before-clause-some : goal.returns-else-is_before-clause-some
returns-else-is_before-clause-some c = λ before. absurd (false≢true (sym c.if-is_before.false ∙ c.is_before.ensures.1 before))
