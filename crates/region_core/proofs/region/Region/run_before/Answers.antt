use Rattle.std.proofs.Common.{◌+◌, ◌∙◌, inl, inr, refl, sym, subst, arith}
use Rattle.local_run.specs.Opening.{RegionData}
use Rattle.local_run.specs.Running.{RunsBefore}
use Rattle.local_run.proofs.Begins.{runs_before_begin}
use Rattle.local_run.proofs.Running.{first_made_before, one_more_made_before, stops, follows}
use Rattle.region_core.proofs.Bounded.{of_none, of_some}
use Rattle.region_core.proofs.RunningOn.{went_on, on_err}
use Rattle.local_run.specs.RunOn.{BeginsAs}
use Rattle.region_core.proofs.region.Region.run_before.Goals as goal

pub loop-left-init : goal.loop-left-init
loop-left-init c =
    let made = of_some _ _ _ _ c.in-Some.is c.in_ok-answer.ensures.step in
    (1, omega arith, first_made_before _ _ _ _ made.0 made.1)

pub returns-in_err-step-clause-spent : goal.returns-in_err-step-clause-spent
returns-in_err-step-clause-spent c =
    let inv = c.loop-left.invariant in
    let ran = c.in_ok-so_far.ensures.ran in
    let went = went_on c.args.bound inv.0 ran.0 c.args.self.now c.loop-left.answer c.in_ok-so_far.so_far.answer
    c.loop-left.self c.run_on.new.self inv.2 (follows c.loop-left.answer c.in-Ran.is) ran.2 in
    let before = inv.1 in
    let left = ran.1 in
    on_err c.from_residual-in_err-step.result _ (c.in_err-step.ensures.spent ∙ went.0.same)

pub loop-left-preserved : goal.loop-left-preserved
loop-left-preserved c =
    let inv = c.loop-left.invariant in
    let ran = c.in_ok-so_far.ensures.ran in
    let went = went_on c.args.bound inv.0 ran.0 c.args.self.now c.loop-left.answer c.in_ok-so_far.so_far.answer
    c.loop-left.self c.run_on.new.self inv.2 (follows c.loop-left.answer c.in-Ran.is) ran.2 in
    let before = inv.1 in
    let left = ran.1 in
    let more = c.if-left-eq0.false in
    let made = of_some _ _ _ _ c.in-Some-2.is c.in_ok-step.ensures.step in
    (inv.0 + ran.0 + 1, omega arith, one_more_made_before _ _ _ _ _ _ _ went.0 went.1 made.0 made.1)

pub returns-after-loop-left-clause-run : goal.returns-after-loop-left-clause-run
returns-after-loop-left-clause-run c =
    let inv = c.loop-left.invariant in
    let before = inv.1 in
    inv.2.ends 0 c.args.steps (omega arith) (λ on. inl refl)

pub returns-after-loop-left-clause-begins : goal.returns-after-loop-left-clause-begins
returns-after-loop-left-clause-begins c =
    runs_before_begin _ c.args.steps _ _ _ (returns-after-loop-left-clause-run c)

pub returns-in_default-answer : goal.returns-in_default-answer
returns-in_default-answer c =
    let inv = c.loop-left.invariant in
    let runs = inv.2.ends c.loop-left.left c.args.steps inv.1
    (λ on. absurd (stops c.loop-left.answer c.in_default-answer.not-Ran c.in_default-answer.not-Heard on)) in
    record {
      run = runs;
      begins = runs_before_begin _ c.args.steps _ _ _ runs;
      spent = tt;
    }

pub returns-then-left-eq0-clause-run : goal.returns-then-left-eq0-clause-run
returns-then-left-eq0-clause-run c =
    let inv = c.loop-left.invariant in
    let ran = c.in_ok-so_far.ensures.ran in
    let went = went_on c.args.bound inv.0 ran.0 c.args.self.now c.loop-left.answer c.in_ok-so_far.so_far.answer
    c.loop-left.self c.run_on.new.self inv.2 (follows c.loop-left.answer c.in-Ran.is) ran.2 in
    let before = inv.1 in
    let left = ran.1 in
    let none = c.if-left-eq0.true in
    went.0.ends 0 c.args.steps (omega arith) (λ on. inl refl)

pub returns-then-left-eq0-clause-begins : goal.returns-then-left-eq0-clause-begins
returns-then-left-eq0-clause-begins c =
    runs_before_begin _ c.args.steps _ _ _ (returns-then-left-eq0-clause-run c)

pub returns-in-None-clause-run : goal.returns-in-None-clause-run
returns-in-None-clause-run c =
    let inv = c.loop-left.invariant in
    let ran = c.in_ok-so_far.ensures.ran in
    let went = went_on c.args.bound inv.0 ran.0 c.args.self.now c.loop-left.answer c.in_ok-so_far.so_far.answer
    c.loop-left.self c.run_on.new.self inv.2 (follows c.loop-left.answer c.in-Ran.is) ran.2 in
    let before = inv.1 in
    let left = ran.1 in
    let waits = of_none _ _ _ c.in-None.is c.in_ok-step.ensures.step in
    subst (λ (new : RegionData). RunsBefore c.args.bound c.args.steps c.args.self.now c.in_ok-so_far.so_far.answer new)
    (sym waits.1)
    (went.0.ends c.in_ok-so_far.so_far.left c.args.steps (omega arith) (λ on. inr waits.0))

pub returns-in-None-clause-begins : goal.returns-in-None-clause-begins
returns-in-None-clause-begins c =
    runs_before_begin _ c.args.steps _ _ _ (returns-in-None-clause-run c)

pub returns-in_default-clause-run : goal.returns-in_default-clause-run
returns-in_default-clause-run c = of_none _ _ _ c.in_default.is c.in_ok-answer.ensures.step

pub returns-in_default-clause-begins : goal.returns-in_default-clause-begins
returns-in_default-clause-begins c =
    subst (λ (new : RegionData). BeginsAs c.args.self.now new)
    (sym (of_none _ _ _ c.in_default.is c.in_ok-answer.ensures.step).1)
    record { home = refl; floor = refl; base = refl }
