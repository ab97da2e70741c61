use Rattle.std.proofs.Common.{◌≡◌, ℕ, arith}
use Rattle.run_core.specs.Passing.{Heard, AllHearUpTo}
use Rattle.run_core.proofs.Passed.{still_on, up_to_all, heard_none, all_hear_more}
use Rattle.run_core.proofs.passes.pass.Goals as goal

pub loop-hearer-init : goal.loop-hearer-init
loop-hearer-init c = λ state on. heard_none state c.args.regions.now (AllHearUpTo state 0) on.stand
    (λ q lt. absurd (omega (arith, lt)))

pub hear_all-requires-clause-stand : goal.hear_all-requires-clause-stand
hear_all-requires-clause-stand c =
    let state = c.requires.0 in
    let on = c.requires.1 in (
      state,
      still_on c.args.grid.now c.args.regions.now c.loop-hearer.regions state on
          (c.loop-hearer.invariant state on).stand,
    )

pub loop-hearer-preserved : goal.loop-hearer-preserved
loop-hearer-preserved c = λ state on.
    let so_far = c.loop-hearer.invariant state on in
    all_hear_more state c.loop-hearer.hearer c.args.regions.now c.loop-hearer.regions
    c.hear_all.new.regions c.loop-hearer.more c.in_ok-more.field-0 so_far
    (c.in_ok-more.ensures state
    (still_on c.args.grid.now c.args.regions.now c.loop-hearer.regions state on so_far.stand))

pub returns : goal.returns
returns c = λ state on.
    let whole : c.loop-hearer.hearer ≡ c.args.grid.now.regions
    = omega (arith, c.loop-hearer-test.false, c.loop-hearer.auto.hearer-end, c.regions-hearer-end.ensures.value) in
    up_to_all c.args.grid.now c.args.regions.now state
    (λ (n : ℕ). Heard state c.args.regions.now c.loop-hearer.regions c.loop-hearer.more (AllHearUpTo state n))
    c.loop-hearer.hearer on whole (c.loop-hearer.invariant state on)
