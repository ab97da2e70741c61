use Rattle.std.proofs.Common.{◌+◌, length, refl, sym, subst, arith}
use Rattle.std.proofs.lemmas.Option.{slice_get_read}
use Rattle.commit_horizon.specs.Bounds.{HoldsUpTo, OfFirst, AgreeOn}
use Rattle.commit_horizon.proofs.Within.{holds_none, holds_more, holds_all}
use Rattle.commit_horizon.proofs.bounding.first_apart_from.Goals as goal

pub loop-hearer-init : goal.loop-hearer-init
loop-hearer-init c = holds_none (AgreeOn c.args.sender.now) c.args.regions.now

pub loop-hearer-preserved : goal.loop-hearer-preserved
loop-hearer-preserved c =
    let P = AgreeOn c.args.sender.now in
    let regions = c.args.regions.now in
    let k = c.loop-hearer.hearer-index in
    subst (HoldsUpTo (OfFirst P regions (k + 1))) (sym c.earlier-first.ensures)
    (holds_more P regions k c.hearer-item.result c.loop-hearer.first c.first_apart.result
    (slice_get_read regions (length regions) k c.hearer-item.result refl c.loop-hearer-test.true
    c.hearer-item.is) c.loop-hearer.invariant c.first_apart.ensures)

pub returns : goal.returns
returns c = holds_all (AgreeOn c.args.sender.now) c.args.regions.now c.loop-hearer.hearer-index
    c.loop-hearer.first (omega arith) c.loop-hearer.invariant
