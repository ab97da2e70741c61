use Rattle.std.proofs.Common.{◌++◌, ◌∷◌, [], ◌∙◌, ◌≡◌, ℕ, replicate, ap, arith}
use Rattle.std.proofs.lemmas.List.{replicate_more}
use Rattle.region_parts.proofs.trails.empty_trails.Goals as goal

pub loop-preserved : goal.loop-preserved
loop-preserved c =
    c.in_ok-push.ensures.items ∙ (λ i. c.loop.invariant i ++ c.new.ensures i ∷ []) ∙ replicate_more c.loop.counter []

pub returns : goal.returns
returns c =
    let last : c.loop.counter ≡ c.args.count = omega arith in
    c.loop.invariant ∙ ap (λ (n : ℕ). replicate n []) last
