use Rattle.std.proofs.Common.{inl, inr, arith}
use Rattle.std.proofs.lemmas.Bool.Decides.{nat_tests}
use Rattle.event_log.proofs.Adjacent.{adjacent_are_near}
use Rattle.event_log.proofs.nearness.may_be_adjacent.Goals as goal

pub returns-else-apart-le1 : goal.returns-else-apart-le1
returns-else-apart-le1 c = λ off adjacent.
    elim (adjacent_are_near c.args.grid.now c.args.a c.args.b adjacent).either [
      | inl few ↦ absurd (omega arith)
      | inr most ↦ absurd (grind (arith, nat_tests))
    ]

pub returns-else-apart-columns : goal.returns-else-apart-columns
returns-else-apart-columns c = λ off adjacent.
    let most = (adjacent_are_near c.args.grid.now c.args.a c.args.b adjacent).most in
    absurd (omega arith)
