-- The least of the topmost keys is the least.
use Rattle.std.proofs.Common.{◌≡◌, ◌<◌, length, map, arith}
use Rattle.std.proofs.lemmas.List.{length-map}
use Rattle.event_tree.proofs.Trees.{none_least, top_is_least}
use Rattle.event_tree.proofs.tree.Tree.top.Goals as goal

pub returns-else-is_empty : goal.returns-else-is_empty
returns-else-is_empty g c =
    let nodes = c.self.inside.nodes.items in
    let many = length-map nodes g.K.Rank.key in
    let some : 0 < length nodes = grind arith in
    rw (← c.self.view_is)
    (top_is_least c.self.inside.first (map g.K.Rank.key nodes) (g.K.Rank.key c.least_of_two.result) (omega arith) c.self.invariant
    (rw c.deref.ensures.value at c.least_of_two.ensures))

pub returns-then-is_empty : goal.returns-then-is_empty
returns-then-is_empty g c =
    let nodes = c.self.inside.nodes.items in
    let many = length-map nodes g.K.Rank.key in
    let none : length nodes ≡ 0 = grind arith in
    rw c.none.ensures (none_least c.self.inside.first (map g.K.Rank.key nodes) c.args.self.now c.self.view_is (omega arith))
