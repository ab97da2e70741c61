-- A row is a disk, or the first that is bad.
use Rattle.std.proofs.Common.{inr, sym, ◌∙◌}
use Rattle.scene_reader.proofs.RowByRow.{row_read, row_bad, rows_end}
use Rattle.scene_reader.proofs.rows.read_rows.Goals as goal

pub loop-i-preserved : goal.loop-i-preserved
loop-i-preserved c =
    rw c.in_ok-push-in-Some.ensures.items (c.loop-i.invariant
    ∙ row_read c.args.rules.now.diameter c.args.rows.now c.loop-i.i c.index-rows-i.result c.loop-i.disks.items c.in-Some.disk c.loop-i-test.true c.index-rows-i.is (sym c.row.ensures ∙ c.in-Some.is))

pub returns-in-None : goal.returns-in-None
returns-in-None c =
    inr (c.loop-i.invariant
    ∙ row_bad c.args.rules.now.diameter c.args.rows.now c.loop-i.i c.index-rows-i.result c.loop-i.disks.items c.loop-i-test.true c.index-rows-i.is (sym c.row.ensures ∙ c.in-None.is))

pub returns : goal.returns
returns c = c.loop-i.invariant ∙ rows_end c.args.rules.now.diameter c.args.rows.now c.loop-i.i c.loop-i.disks.items c.loop-i-test.false
