-- The chain begins at its head.
use Rattle.cell_lists.specs.Nodes.{pointers_of, cells_of}
use Rattle.cell_lists.proofs.Chaining.{seen, head_leads}
use Rattle.cell_lists.proofs.chains.Chains.first_in.Goals as goal

pub skip-requires : goal.skip-requires
skip-requires c =
    let heads = c.self.inside.heads.items in
    let nexts = pointers_of c.self.inside.nodes.items in
    rw c.get.ensures (rw c.bucket.ensures.value at (head_leads heads nexts c.args.self.now c.bucket.result c.index.result.now
    (seen heads nexts (cells_of c.self.inside.nodes.items) c.args.self.now c.self.view_is c.self.invariant) c.bucket.ensures.in_range c.index.ensures).0)
