-- If there is room for the disk, nothing changes.
use Rattle.std.proofs.Common.{length, refl, arith}
use Rattle.cell_lists.proofs.Nodes.{count_seen}
use Rattle.cell_lists.proofs.chains.Chains.make_room.Goals as goal

pub returns-clause-room : goal.returns-clause-room
returns-clause-room c =
    let count = count_seen (length c.self.inside.heads.items) c.self.inside.nodes.items c.args.self.now c.self.view_is in
    let enough = c.if-least-len.false in
    omega arith

pub returns-clause-same : goal.returns-clause-same
returns-clause-same c = λ i. refl
