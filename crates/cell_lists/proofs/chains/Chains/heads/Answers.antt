-- The chain of a bucket is that of its only cell.
use Rattle.std.proofs.Common.{List, length, sym, ap, subst, ◌∙◌}
use Rattle.cell_lists.specs.declared.pointer.Pointer.{Pointer}
use Rattle.cell_lists.specs.Gathering.{LeadsIn}
use Rattle.cell_lists.specs.Pointer.{pointer_at}
use Rattle.cell_lists.specs.Nodes.{pointers_of, cells_of}
use Rattle.cell_lists.proofs.Chaining.{seen}
use Rattle.cell_lists.proofs.Walks.{leads_in}
use Rattle.cell_lists.proofs.chains.Chains.heads.Goals as goal

pub returns-clause-first : goal.returns-clause-first
returns-clause-first c = λ cell lt.
    let heads = c.self.inside.heads.items in
    let nexts = pointers_of c.self.inside.nodes.items in
    let chains = c.args.self.now in
    subst (λ (xs : List Pointer). LeadsIn chains.cells cell 0 (pointer_at xs cell)) (sym c.deref.ensures.value)
    (leads_in chains cell 0 (pointer_at heads cell) c.requires.own lt
    ((seen heads nexts (cells_of c.self.inside.nodes.items) chains c.self.view_is c.self.invariant).first cell lt))

pub returns-clause-count : goal.returns-clause-count
returns-clause-count c =
    let heads = c.self.inside.heads.items in
    let nexts = pointers_of c.self.inside.nodes.items in
    ap length c.deref.ensures.value
    ∙ (seen heads nexts (cells_of c.self.inside.nodes.items) c.args.self.now c.self.view_is c.self.invariant).count
