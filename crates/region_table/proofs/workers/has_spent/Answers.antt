use Rattle.std.proofs.Common.{◌≡◌, sym, ap, ◌∙◌, arith, rules}
use Rattle.std.specs.Prelude.{slice_get}
use Rattle.std.proofs.lemmas.Option.{slice_get_within}
use mathlib.Core.Logic.{dite}
use native.Mathlib.Decide.{ℕ_discrete}
use Rattle.local_run.specs.Opening.{RegionData}
use Rattle.region_table.proofs.Staying.{at_index, not_both}
use Rattle.region_table.proofs.workers.has_spent.Goals as goal

pub loop-region-preserved : goal.loop-region-preserved
loop-region-preserved c = λ k region lt at none.
    dite (ℕ_discrete k c.loop-region.region-index)
    (λ same.
    let here = ap (slice_get c.args.regions.now) (sym same) ∙ at in
    let is : c.region-item.result ≡ region
    = c.region-item.is ∙ at_index c.args.regions.now c.loop-region.region-index c.region-item.result region here in
    not_both c.is_spent.result (c.is_spent.ensures.value.1 (ap (λ (v : RegionData). v.run) is ∙ none))
    c.if-is_spent.false)
    (λ other. c.loop-region.invariant k region (omega (arith, lt, other)) at none)

pub returns : goal.returns
returns c = λ no k region at.
    let within = slice_get_within c.args.regions.now k region at in
    let past = c.loop-region-test.false in
    c.loop-region.invariant k region (omega (arith, within, past)) at

pub returns-then-is_spent : goal.returns-then-is_spent
returns-then-is_spent c = search rules
