use Rattle.std.proofs.Common.{ℕ, ◌+◌, length, ap, ◌∙◌, ◌≡◌, arith}
use Rattle.std.proofs.lemmas.List.{length-append}
use Rattle.commit_horizon.proofs.regions.none_opened.Goals as goal

pub loop-preserved : goal.loop-preserved
loop-preserved c =
    ap length c.in_ok-push.ensures.items ∙ length-append _ _ ∙ ap (λ (n : ℕ). n + 1) c.loop.invariant

pub returns : goal.returns
returns c =
    let last : c.loop.counter ≡ c.args.count = omega arith in
    c.loop.invariant ∙ last
