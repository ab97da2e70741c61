-- The block is cut at the sides of the second one, or at its own if those are beyond it.
use Rattle.region_queue.proofs.Outside.{parts_cut}
use Rattle.region_queue.proofs.parts.parts_outside.Goals as goal

pub returns : goal.returns
returns c = parts_cut c.args.block c.args.known c.clamp-left.result c.clamp-right.result c.clamp-low.result c.clamp-high.result
    c.requires.columns c.requires.rows c.requires.known_columns c.requires.known_rows c.clamp-left.ensures c.clamp-right.ensures
    c.clamp-low.ensures c.clamp-high.ensures
