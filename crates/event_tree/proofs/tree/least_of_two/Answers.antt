-- The earlier of the two.
use Rattle.std.proofs.Common.{map, arith}
use Rattle.std.proofs.lemmas.List.{length-map}
use Rattle.event_tree.proofs.Trees.{key_read, least_of_two}
use Rattle.event_tree.proofs.tree.least_of_two.Goals as goal

pub returns : goal.returns
returns g c =
    let key = g.K.Rank.key in
    let nodes = c.args.nodes.now in
    rw c.earlier.ensures
    (least_of_two (map key nodes) _ _ (omega (arith, c.requires, length-map nodes key))
    (key_read key nodes 0 c.index-nodes-0.result c.index-nodes-0.is)
    (key_read key nodes 1 c.index-nodes-1.result c.index-nodes-1.is))
