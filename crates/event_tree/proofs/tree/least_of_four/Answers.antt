-- The earlier of the earlier ones of two pairs.
use Rattle.std.proofs.Common.{◌+◌, map, arith}
use Rattle.std.proofs.lemmas.List.{length-map}
use Rattle.event_tree.proofs.Trees.{least_of_four, one_of_four}
use Rattle.event_tree.proofs.tree.least_of_four.Goals as goal

pub returns : goal.returns
returns g c =
    let key = g.K.Rank.key in
    let nodes = c.args.nodes.now in
    let start = c.args.start in
    rw (c.earlier.ensures, c.earlier-left.ensures, c.earlier-right.ensures)
    (least_of_four (map key nodes) start _ _ _ _ (omega (arith, c.requires, length-map nodes key))
    (one_of_four key nodes start 0 start c.index-four-0.result (omega arith) (omega arith) c.index-four-0.is)
    (one_of_four key nodes start 1 (start + 1) c.index-four-1.result (omega arith) (omega arith) c.index-four-1.is)
    (one_of_four key nodes start 2 (start + 2) c.index-four-2.result (omega arith) (omega arith) c.index-four-2.is)
    (one_of_four key nodes start 3 (start + 3) c.index-four-3.result (omega arith) (omega arith) c.index-four-3.is))
