use Rattle.std.proofs.Common.{sym}
use Rattle.region_messages.proofs.Same.{stamp_decides, rows_decide}
use Rattle.region_messages.proofs.is_same.Goals as goal

pub returns-then-eq : goal.returns-then-eq
returns-then-eq c =
    let stamps = (stamp_decides c.args.m.now.stamp c.args.n.now.stamp).0 (sym c.if-eq.ensures) in
    rows_decide c.args.m.now c.args.n.now c.as_slice.result.now c.as_slice-then-eq.result.now _
    stamps c.as_slice.ensures.value c.as_slice-then-eq.ensures.value c.eq-then-eq.ensures
