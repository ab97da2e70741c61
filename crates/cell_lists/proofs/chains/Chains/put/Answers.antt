-- The chains stay chains.
use Rattle.std.proofs.Common.{◌≡◌, ◌%◌, ◌<◌, List, length, set, sym, subst, ◌∙◌}
use Rattle.std.specs.Prelude.{ℕ, Option, Some, None, IfSome}
use Rattle.cell_lists.specs.Chain.{ChainsData, at, IsLast, IsChained}
use Rattle.cell_lists.specs.Nodes.{pointers_of, cells_of}
use Rattle.cell_lists.proofs.Chaining.{chained_put}
use Rattle.cell_lists.proofs.Nodes.{second_within, chained_as, seen_with_cell, linked_count, marked_heads_count}
use Rattle.cell_lists.proofs.chains.Chains.put.Goals as goal

pub mark-requires-clause-second_last : goal.mark-requires-clause-second_last
mark-requires-clause-second_last c =
    second_within (length c.self.inside.heads.items) c.args.self.now.buckets c.bucket-bucket.result c.args.disk c.self.inside.nodes.items
    c.args.self.now c.last_two_below-before.result.last c.last_two_below-before.result.second_last c.self.view_is
    c.last_two_below-before.ensures.last c.last_two_below-before.ensures.second_last

pub invariant_of-self : goal.invariant_of-self
invariant_of-self c =
    let heads = c.self.inside.heads.items in
    let nexts = pointers_of c.self.inside.nodes.items in
    let cells = cells_of c.self.inside.nodes.items in
    let bucket = c.bucket-bucket.result in
    let before = c.last_two_below-before.result in
    let is : c.args.cell % length heads ≡ bucket =
    subst (λ (d : ChainsData). c.args.cell % d.buckets ≡ bucket) (sym c.self.view_is) (sym c.bucket-bucket.ensures.value) in
    let lt : bucket < length heads = subst (λ (d : ChainsData). bucket < d.buckets) (sym c.self.view_is) c.bucket-bucket.ensures.in_range in
    let room : c.args.disk < length cells = subst (λ (d : ChainsData). c.args.disk < length d.cells) (sym c.self.view_is) c.requires.within in
    let free : at cells c.args.disk ≡ None = subst (λ (d : ChainsData). at d.cells c.args.disk ≡ None) (sym c.self.view_is) c.requires.free in
    let last : IsLast cells (length heads) bucket c.args.disk before.last =
    subst (λ (d : ChainsData). IsLast d.cells d.buckets bucket c.args.disk before.last) (sym c.self.view_is) c.last_two_below-before.ensures.last in
    let second : IfSome before.last (λ p. IsLast cells (length heads) bucket p before.second_last) =
    subst (λ (d : ChainsData). IfSome before.last (λ p. IsLast d.cells d.buckets bucket p before.second_last)) (sym c.self.view_is)
    c.last_two_below-before.ensures.second_last in
    chained_as c.link.new.heads.items c.link.new.nodes.items c.args.disk c.index_mut.result.now _ c.index_mut.ensures.value
    (rw c.of.ensures (subst (λ (xs : List (Option ℕ)). IsChained c.link.new.heads.items (pointers_of c.link.new.nodes.items) (set xs c.args.disk (Some c.args.cell)))
    (sym (c.link.ensures.cells ∙ c.mark.ensures.cells))
    (chained_put heads nexts c.mark.new.heads.items (pointers_of c.mark.new.nodes.items) _ _ cells bucket c.args.disk c.args.cell before.last before.second_last
    c.self.invariant room free is lt last second c.mark.ensures.marked c.link.ensures.linked)))

pub returns : goal.returns
returns c =
    seen_with_cell c.self.inside.heads.items c.link.new.heads.items c.self.inside.nodes.items c.link.new.nodes.items c.args.self.now c.args.disk
    c.index_mut.result.now c.of.result (Some c.args.cell) c.self.view_is
    (linked_count c.mark.new.heads.items (pointers_of c.mark.new.nodes.items) c.link.new.heads.items (pointers_of c.link.new.nodes.items)
    c.bucket-bucket.result c.args.disk c.last_two_below-before.result.last c.link.ensures.linked
    ∙ marked_heads_count c.self.inside.heads.items (pointers_of c.self.inside.nodes.items) c.mark.new.heads.items (pointers_of c.mark.new.nodes.items)
    c.bucket-bucket.result c.last_two_below-before.result.last c.last_two_below-before.result.second_last _ c.mark.ensures.marked)
    (c.link.ensures.cells ∙ c.mark.ensures.cells) c.of.ensures
