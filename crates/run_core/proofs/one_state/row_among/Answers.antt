use Rattle.std.proofs.Common.{◌≤◌, ◌+◌, length, drop, sym, ap, ◌∙◌, refl, arith, Option}
use Rattle.std.specs.Option.{option_or}
use Rattle.std.proofs.lemmas.Option.{slice_get_read}
use Rattle.region_view.specs.declared.action.Placed.{Placed}
use Rattle.run_core.specs.Standing.{row_among}
use Rattle.run_core.proofs.OneState.{row_here, row_past}
use Rattle.run_core.proofs.one_state.row_among.Goals as goal

pub returns-in-Some : goal.returns-in-Some
returns-in-Some c =
    let regions = c.args.regions.now in
    let i = c.loop-region.region-index in
    let at = slice_get_read regions (length regions) i c.region-item.result refl c.loop-region-test.true
    c.region-item.is in
    let rest = row_among (drop (i + 1) regions) c.args.disk in
    sym (c.loop-region.invariant ∙ row_here regions i c.region-item.result c.args.disk at
    ∙ ap (λ (v : Option Placed). option_or v rest) (sym c.first_row.ensures.value ∙ c.in-Some.is))

pub loop-region-preserved : goal.loop-region-preserved
loop-region-preserved c =
    let regions = c.args.regions.now in
    let i = c.loop-region.region-index in
    let at = slice_get_read regions (length regions) i c.region-item.result refl c.loop-region-test.true
    c.region-item.is in
    let rest = row_among (drop (i + 1) regions) c.args.disk in
    c.loop-region.invariant ∙ row_here regions i c.region-item.result c.args.disk at
    ∙ ap (λ (v : Option Placed). option_or v rest) (sym c.first_row.ensures.value ∙ c.in-None.is)

pub returns : goal.returns
returns c =
    let regions = c.args.regions.now in
    let past : length regions ≤ c.loop-region.region-index = omega (arith, c.loop-region-test.false) in
    sym (c.loop-region.invariant ∙ row_past regions c.loop-region.region-index c.args.disk past)
