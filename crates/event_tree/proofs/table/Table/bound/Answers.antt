-- The bound is that of the disk's entry.
use Rattle.std.proofs.Common.{◌∙◌, arith}
use Rattle.event_tree.proofs.Groups.{bound_of_disk, no_bound}
use Rattle.event_tree.proofs.table.Table.bound.Goals as goal

pub returns-then-disk-room : goal.returns-then-disk-room
returns-then-disk-room g c =
    bound_of_disk g.K.Rank.key c.self.inside.entries.items c.args.self.now c.args.disk c.index.result.now c.self.view_is
    (omega (arith, c.if-disk-room.true, c.room.ensures.value)) c.index.ensures

pub returns-else-disk-room : goal.returns-else-disk-room
returns-else-disk-room g c = c.none.ensures ∙
    no_bound g.K.Rank.key c.self.inside.entries.items c.args.self.now c.args.disk c.self.view_is
    (omega (arith, c.if-disk-room.false, c.room.ensures.value))
