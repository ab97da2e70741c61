-- The chain of a bucket is that of its only cell, and goes on.
use Rattle.std.proofs.Common.{◌+◌, List, length, sym, ap, subst, ◌∙◌}
use Rattle.cell_lists.specs.declared.chains.Node.{Node}
use Rattle.cell_lists.specs.Gathering.{LeadsIn}
use Rattle.cell_lists.specs.Pointer.{pointer_at}
use Rattle.cell_lists.specs.Nodes.{pointers_of, cells_of}
use Rattle.cell_lists.proofs.Chaining.{seen}
use Rattle.cell_lists.proofs.Nodes.{count_seen}
use Rattle.cell_lists.proofs.Walks.{own_bucket, leads_in}
use Rattle.cell_lists.proofs.chains.Chains.nodes.Goals as goal

pub returns-clause-after : goal.returns-clause-after
returns-clause-after c = λ disk cell here.
    let heads = c.self.inside.heads.items in
    let nexts = pointers_of c.self.inside.nodes.items in
    let chains = c.args.self.now in
    let lt = c.requires.own disk cell here in
    subst (λ (xs : List Node). LeadsIn chains.cells cell (disk + 1) (pointer_at (pointers_of xs) disk)) (sym c.deref.ensures.value)
    (leads_in chains cell (disk + 1) (pointer_at nexts disk) c.requires.own lt
    ((seen heads nexts (cells_of c.self.inside.nodes.items) chains c.self.view_is c.self.invariant).after disk cell
    ((own_bucket chains cell c.requires.own lt disk).1 here)))

pub returns-clause-count : goal.returns-clause-count
returns-clause-count c = ap length c.deref.ensures.value
    ∙ count_seen (length c.self.inside.heads.items) c.self.inside.nodes.items c.args.self.now c.self.view_is
