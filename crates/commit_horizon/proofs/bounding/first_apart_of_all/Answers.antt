use Rattle.std.proofs.Common.{◌+◌, length, refl, sym, subst, arith}
use Rattle.std.proofs.lemmas.Option.{slice_get_read}
use Rattle.commit_horizon.specs.Bounds.{HoldsUpTo, OfFirst, AllAgreeWith}
use Rattle.commit_horizon.proofs.Within.{holds_none, holds_more, holds_all}
use Rattle.commit_horizon.proofs.bounding.first_apart_of_all.Goals as goal

pub loop-sender-init : goal.loop-sender-init
loop-sender-init c = holds_none (AllAgreeWith c.args.regions.now) c.args.regions.now

pub loop-sender-preserved : goal.loop-sender-preserved
loop-sender-preserved c =
    let regions = c.args.regions.now in
    let P = AllAgreeWith regions in
    let k = c.loop-sender.sender-index in
    subst (HoldsUpTo (OfFirst P regions (k + 1))) (sym c.earlier-first.ensures)
    (holds_more P regions k c.sender-item.result c.loop-sender.first c.first_apart_from.result
    (slice_get_read regions (length regions) k c.sender-item.result refl c.loop-sender-test.true
    c.sender-item.is) c.loop-sender.invariant c.first_apart_from.ensures)

pub returns : goal.returns
returns c = holds_all (AllAgreeWith c.args.regions.now) c.args.regions.now c.loop-sender.sender-index
    c.loop-sender.first (omega arith) c.loop-sender.invariant
