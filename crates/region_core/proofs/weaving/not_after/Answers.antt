use Rattle.std.proofs.Common.{Option, sym, subst}
use Rattle.std.specs.Prelude.{IfSome}
use Rattle.std.proofs.lemmas.Option.{none-some}
use Rattle.event_stamps.specs.declared.Stamp.{Stamp}
use Rattle.event_stamps.specs.Order.{Before}
use Rattle.region_core.proofs.weaving.not_after.Goals as goal

pub returns-then-is_before : goal.returns-then-is_before
returns-then-is_before c = λ none. subst (λ (o : Option Stamp). IfSome o (Before c.args.last.now)) (sym c.in_ok-stamp.was) (c.is_before.ensures.0 c.if-is_before.true)

pub returns-else-is_before : goal.returns-else-is_before
returns-else-is_before c = λ none. absurd (none-some _ (sym none))
