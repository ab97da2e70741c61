use Rattle.std.proofs.Common.{◌≡◌, ℕ, arith}
use Rattle.run_core.specs.Passing.{Heard, HearsUpTo}
use Rattle.run_core.proofs.Passed.{still_on, up_to_all, heard_none, hears_more}
use Rattle.run_core.proofs.passes.hear_all.Goals as goal

pub loop-from-init : goal.loop-from-init
loop-from-init c = λ state on. heard_none state c.args.regions.now (HearsUpTo state c.args.hearer 0) on.stand
    (λ k lt. absurd (omega (arith, lt)))

pub hear_one-requires-clause-stand : goal.hear_one-requires-clause-stand
hear_one-requires-clause-stand c =
    let state = c.requires.stand.0 in
    let on = c.requires.stand.1 in (
      state,
      still_on c.args.grid.now c.args.regions.now c.loop-from.regions state on
          (c.loop-from.invariant state on).stand,
    )

pub loop-from-preserved : goal.loop-from-preserved
loop-from-preserved c = λ state on.
    let so_far = c.loop-from.invariant state on in
    hears_more state c.args.hearer c.loop-from.from c.args.regions.now c.loop-from.regions
    c.hear_one.new.regions c.loop-from.more c.in_ok-more.field-0 so_far
    (c.in_ok-more.ensures state
    (still_on c.args.grid.now c.args.regions.now c.loop-from.regions state on so_far.stand))

pub returns : goal.returns
returns c = λ state on.
    let whole : c.loop-from.from ≡ c.args.grid.now.regions
    = omega (arith, c.loop-from-test.false, c.loop-from.auto.from-end, c.regions-from-end.ensures.value) in
    up_to_all c.args.grid.now c.args.regions.now state
    (λ (n : ℕ). Heard state c.args.regions.now c.loop-from.regions c.loop-from.more
    (HearsUpTo state c.args.hearer n)) c.loop-from.from on whole (c.loop-from.invariant state on)
