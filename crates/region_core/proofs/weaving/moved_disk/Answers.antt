use Rattle.region_core.proofs.Tests.{moved_by_row}
use Rattle.region_core.proofs.weaving.moved_disk.Goals as goal

pub returns-then-is_same_disk : goal.returns-then-is_same_disk
returns-then-is_same_disk c was = moved_by_row was c.args.rows.now c.args.before.now c.in-Some.row.now
    c.in-Some-only_row.old.now c.in-Some.ensures c.in-Some-only_row.ensures
    (c.is_same_disk.ensures c.if-is_same_disk.true)
