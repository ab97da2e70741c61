use Rattle.std.proofs.Common.{inr, arith, rules}
use Rattle.run_core.specs.Plays.{SpendsOneAtMost}
use Rattle.run_core.proofs.Calls.{turned, turn_passed_over, met, hearing_passed_over, on_err}
use Rattle.run_core.proofs.playing.play_one.Goals.{else-k-regions-2-via-then-k-regions-2+then-q-regions+else-k-q, else-k-regions-2-via-then-k-regions-2+else-q-regions, else-k-regions-2-via-else-k-regions-2}
use Rattle.run_core.proofs.playing.play_one.Goals as goal

pub returns-then-k-regions-clause-plays : goal.returns-then-k-regions-clause-plays
returns-then-k-regions-clause-plays c =
    turned c.args.regions.now c.args.call.now c.in-Turn.k c.in_ok-step-in-Turn.step
    c.step_at.new.regions c.in-Turn.is c.if-k-regions.true c.in_ok-step-in-Turn.ensures.step

pub returns-then-k-q-clause-plays : goal.returns-then-k-q-clause-plays
returns-then-k-q-clause-plays c =
    met c.args.regions.now c.args.call.now c.in-Hear.hearer c.in-Hear.from
    c.in_ok-hearing-in-Hear.hearing c.hear_at.new.regions c.in-Hear.is
    (record { hearer = c.if-k-regions-2.true; sender = c.if-q-regions.true; other = c.if-k-q.true })
    c.in_ok-hearing-in-Hear.ensures.hears

pub returns-else-k-regions-clause-plays : goal.returns-else-k-regions-clause-plays
returns-else-k-regions-clause-plays c =
    turn_passed_over c.args.regions.now c.args.call.now c.in-Turn.k c.in-Turn.is c.if-k-regions.false

pub returns-else-k-regions-2-clause-plays : goal.returns-else-k-regions-2-clause-plays
returns-else-k-regions-2-clause-plays c =
    hearing_passed_over c.args.regions.now c.args.call.now c.in-Hear.hearer c.in-Hear.from c.in-Hear.is
    (λ pair. elim c.else-k-regions-2.branch [
      | else-k-regions-2-via-then-k-regions-2+then-q-regions+else-k-q w ↦ omega arith
      | else-k-regions-2-via-then-k-regions-2+else-q-regions w ↦ omega arith
      | else-k-regions-2-via-else-k-regions-2 w ↦ omega arith
    ])

pub returns-in_err-step-in-Turn-clause-cut_short : goal.returns-in_err-step-in-Turn-clause-cut_short
returns-in_err-step-in-Turn-clause-cut_short c =
    on_err c.from_residual.result (SpendsOneAtMost c.args.regions.now c.step_at.new.regions)
    (inr (c.in-Turn.k, c.in_err-step-in-Turn.ensures.spent))

pub returns-in_err-hearing-in-Hear-clause-cut_short : goal.returns-in_err-hearing-in-Hear-clause-cut_short
returns-in_err-hearing-in-Hear-clause-cut_short c =
    on_err c.from_residual-in_err-hearing-in-Hear.result
    (SpendsOneAtMost c.args.regions.now c.hear_at.new.regions)
    (inr (c.in-Hear.hearer, c.in_err-hearing-in-Hear.ensures.spent))

pub hear_at-requires-clause-sender : goal.hear_at-requires-clause-sender
hear_at-requires-clause-sender c = assumption rules

pub hear_at-requires-clause-hearer : goal.hear_at-requires-clause-hearer
hear_at-requires-clause-hearer c = assumption rules

pub step_at-requires : goal.step_at-requires
step_at-requires c = c.if-k-regions.true
