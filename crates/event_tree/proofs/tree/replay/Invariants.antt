-- All nodes are played but the one above `child`.
use Rattle.std.proofs.Common.{◌≡◌, ◌+◌, ◌*◌, ◌<◌, length, map, drop}
use Rattle.event_tree.specs.Keys.{IsTreeBut}
use Rattle.event_tree.proofs.tree.replay.Given as goal

abbrev pub invariant-loop-child : goal.invariant-loop-child
invariant-loop-child g l = record {
  within : l.child < length l.nodes;
  len : length l.nodes ≡ 4 * l.first + 2;
  tree : IsTreeBut l.first l.child (map g.K.Rank.key l.nodes);
  leaves : drop l.first l.nodes ≡ drop l.first l.fn.nodes;
}

abbrev pub decreases-loop-child : goal.decreases-loop-child
decreases-loop-child g l = l.child
