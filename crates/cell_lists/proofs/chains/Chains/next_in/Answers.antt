-- The chain goes on.
use Rattle.std.proofs.Common.{◌%◌, length, refl}
use Rattle.cell_lists.specs.Nodes.{pointers_of, cells_of}
use Rattle.cell_lists.proofs.Chaining.{seen, next_leads}
use Rattle.cell_lists.proofs.Nodes.{next_read, node_there}
use Rattle.cell_lists.proofs.chains.Chains.next_in.Goals as goal

pub skip-requires : goal.skip-requires
skip-requires c =
    let heads = c.self.inside.heads.items in
    let nexts = pointers_of c.self.inside.nodes.items in
    rw c.get.ensures ((next_leads heads nexts c.args.self.now (c.args.cell % c.args.self.now.buckets) c.args.disk c.index.result.now.next
    (seen heads nexts (cells_of c.self.inside.nodes.items) c.args.self.now c.self.view_is c.self.invariant) (c.args.cell, c.requires, refl) (next_read c.self.inside.nodes.items c.args.disk c.index.result.now c.index.ensures)).0)

pub index-requires : goal.index-requires
index-requires c =
    let chains = c.args.self.now in
    node_there (length c.self.inside.heads.items) _ c.self.inside.nodes.items chains chains.buckets (c.args.cell % chains.buckets) c.args.disk
    c.self.view_is c.self.inside.nodes.ok.0 (c.args.cell, c.requires, refl)
