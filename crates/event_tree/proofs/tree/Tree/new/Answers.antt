-- There are no nodes.
use Rattle.std.proofs.Common.{arith}
use Rattle.event_tree.proofs.tree.Tree.new.Goals as goal

pub invariant_of-result : goal.invariant_of-result
invariant_of-result g c = rw c.new.ensures.items (record {
  most = omega arith;
  within = omega arith;
  len = λ some. absurd (omega arith);
  played = λ k inner. absurd (omega arith);
})
