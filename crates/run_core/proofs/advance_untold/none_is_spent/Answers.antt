use Rattle.std.proofs.Common.{length, refl, sym, ◌∙◌, arith}
use Rattle.std.proofs.lemmas.Option.{none-some, slice_get_read, slice_get_within}
use Rattle.commit_horizon.proofs.Within.{kept_more}
use Rattle.run_core.proofs.advance_untold.none_is_spent.Goals as goal

pub loop-region-init : goal.loop-region-init
loop-region-init c = λ k region lt at. absurd (omega arith)

pub prove-unreachable-requires : goal.prove-unreachable-requires
prove-unreachable-requires c =
    let regions = c.args.regions.now in
    let there = slice_get_read regions (length regions) c.loop-region.region-index c.region-item.result refl
    c.loop-region-test.true c.region-item.is in
    none-some _ (sym (c.is_spent.ensures.value.0 c.if-prove.true) ∙ (c.requires.1.each _ _ there).alive)

pub loop-region-preserved : goal.loop-region-preserved
loop-region-preserved c =
    let regions = c.args.regions.now in
    kept_more regions c.loop-region.region-index c.region-item.result
    (slice_get_read regions (length regions) c.loop-region.region-index c.region-item.result refl
    c.loop-region-test.true c.region-item.is) c.loop-region.invariant c.is_spent.ensures.kept

pub returns : goal.returns
returns c = λ k region at. c.loop-region.invariant k region
    (omega (arith, slice_get_within c.args.regions.now k region at)) at
