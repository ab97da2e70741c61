-- One pointer is written.
use Rattle.cell_lists.proofs.Nodes.{pointed_first, pointed_behind, cells_kept}
use Rattle.cell_lists.proofs.chains.point.Goals as goal

pub returns-in-None-clause-pointed : goal.returns-in-None-clause-pointed
returns-in-None-clause-pointed c =
    pointed_first c.args.heads.now.items c.args.nodes.now.items c.args.bucket c.args.before c.args.pointer c.in-None.is

pub returns-in-Some-clause-pointed : goal.returns-in-Some-clause-pointed
returns-in-Some-clause-pointed c =
    pointed_behind c.args.heads.now.items c.args.nodes.now.items c.args.bucket c.in-Some.p c.args.before c.index_mut-in-Some.result.now
    c.args.pointer c.in-Some.is

pub returns-in-Some-clause-cells : goal.returns-in-Some-clause-cells
returns-in-Some-clause-cells c =
    cells_kept c.args.nodes.now.items c.in-Some.p c.index_mut-in-Some.result.now c.args.pointer c.index_mut-in-Some.ensures.value
