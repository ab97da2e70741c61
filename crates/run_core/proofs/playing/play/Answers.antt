use Rattle.std.proofs.Common.{List, inl, refl, subst, ◌+◌, ◌++◌}
use Rattle.std.proofs.lemmas.List.{take_all}
use Rattle.run_core.specs.declared.playing.CoreStep.{CoreStep}
use Rattle.run_core.specs.Plays.{answers_of, Plays, PlaysSome}
use Rattle.run_core.proofs.Calls.{plays_none, plays_more, plays_stand, on_err}
use Rattle.run_core.proofs.playing.play.Goals as goal

pub loop-call-init : goal.loop-call-init
loop-call-init c = rw c.new-answers.ensures.items (plays_none c.args.regions.now)

pub loop-call-preserved : goal.loop-call-preserved
loop-call-preserved c =
    rw c.in_ok-push_some.ensures (plays_more c.args.regions.now c.loop-call.regions c.play_one.new.regions
    c.args.steps.now c.loop-call.call-index _ c.loop-call.answers.items c.in_ok-answer.answer
    c.loop-call-test.true c.loop-call.invariant c.in_ok-answer.ensures.plays)

pub returns-in_err-answer-clause-cut_short : goal.returns-in_err-answer-clause-cut_short
returns-in_err-answer-clause-cut_short c =
    on_err c.from_residual.result (PlaysSome c.args.regions.now c.args.steps.now c.play_one.new.regions)
    (record {
      count = c.loop-call.call-index;
      answers = c.loop-call.answers.items;
      mid = c.loop-call.regions;
      plays = c.loop-call.invariant;
      left = c.in_err-answer.ensures.cut_short;
    })

pub returns-in_err-push_some-clause-cut_short : goal.returns-in_err-push_some-clause-cut_short
returns-in_err-push_some-clause-cut_short c =
    on_err c.from_residual-in_err-push_some.result
    (PlaysSome c.args.regions.now c.args.steps.now c.play_one.new.regions)
    (record {
      count = c.loop-call.call-index + 1;
      answers = c.loop-call.answers.items ++ answers_of c.in_ok-answer.answer;
      mid = c.play_one.new.regions;
      plays = plays_more c.args.regions.now c.loop-call.regions c.play_one.new.regions
          c.args.steps.now c.loop-call.call-index _ c.loop-call.answers.items c.in_ok-answer.answer
          c.loop-call-test.true c.loop-call.invariant c.in_ok-answer.ensures.plays;
      left = inl refl;
    })

pub returns-clause-plays : goal.returns-clause-plays
returns-clause-plays c =
    subst (λ (v : List CoreStep). Plays c.args.regions.now v c.loop-call.answers.items c.loop-call.regions)
    (take_all c.loop-call.call-index c.args.steps.now c.loop-call-test.false) c.loop-call.invariant

pub returns-clause-stand : goal.returns-clause-stand
returns-clause-stand c = plays_stand c.args.regions.now c.loop-call.regions _ c.loop-call.answers.items
    c.loop-call.invariant
