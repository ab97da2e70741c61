-- The chains stay chains.
use Rattle.std.proofs.Common.{◌≡◌, ◌↔◌, ◌%◌, ◌<◌, List, length, set, sym, subst, refl, ◌∙◌}
use Rattle.std.specs.Prelude.{ℕ, Option, Some, None, IfSome, IsSome, IsTrue}
use Rattle.cell_lists.specs.declared.pointer.Pointer.{Pointer}
use Rattle.cell_lists.specs.Pointer.{disk_of, pointer_at}
use Rattle.cell_lists.specs.Chain.{ChainsData, at, IsLast, IsChained}
use Rattle.cell_lists.specs.Nodes.{pointers_of, cells_of}
use Rattle.cell_lists.proofs.Chaining.{chained_take}
use Rattle.cell_lists.proofs.Nodes.{second_within, chained_as, seen_with_cell, unlinked_count, marked_heads_count, node_there, next_at}
use Rattle.cell_lists.proofs.chains.Chains.take.Goals as goal

pub mark-requires-clause-second_last : goal.mark-requires-clause-second_last
mark-requires-clause-second_last c =
    second_within (length c.self.inside.heads.items) c.args.self.now.buckets c.bucket-bucket.result c.args.disk c.self.inside.nodes.items
    c.args.self.now c.last_two_below-before.result.last c.last_two_below-before.result.second_last c.self.view_is
    c.last_two_below-before.ensures.last c.last_two_below-before.ensures.second_last

pub invariant_of-self : goal.invariant_of-self
invariant_of-self c =
    let heads = c.self.inside.heads.items in
    let nodes = c.self.inside.nodes.items in
    let nexts = pointers_of nodes in
    let cells = cells_of nodes in
    let chains = c.args.self.now in
    let bucket = c.bucket-bucket.result in
    let before = c.last_two_below-before.result in
    let is : c.args.cell % length heads ≡ bucket =
    subst (λ (d : ChainsData). c.args.cell % d.buckets ≡ bucket) (sym c.self.view_is) (sym c.bucket-bucket.ensures.value) in
    let lt : bucket < length heads = subst (λ (d : ChainsData). bucket < d.buckets) (sym c.self.view_is) c.bucket-bucket.ensures.in_range in
    let listed : at cells c.args.disk ≡ Some c.args.cell = subst (λ (d : ChainsData). at d.cells c.args.disk ≡ Some c.args.cell) (sym c.self.view_is) c.requires in
    let last : IsLast cells (length heads) bucket c.args.disk before.last =
    subst (λ (d : ChainsData). IsLast d.cells d.buckets bucket c.args.disk before.last) (sym c.self.view_is) c.last_two_below-before.ensures.last in
    let second : IfSome before.last (λ p. IsLast cells (length heads) bucket p before.second_last) =
    subst (λ (d : ChainsData). IfSome before.last (λ p. IsLast d.cells d.buckets bucket p before.second_last)) (sym c.self.view_is)
    c.last_two_below-before.ensures.second_last in
    let there : c.args.disk < length nodes =
    node_there (length heads) (length nodes) nodes chains chains.buckets (c.args.cell % chains.buckets) c.args.disk c.self.view_is refl (c.args.cell, c.requires, refl) in
    let more : IsTrue c.is_some-has_next.result ↔ IsSome (disk_of (pointer_at nexts c.args.disk)) =
    subst (λ (x : Pointer). IsTrue c.is_some-has_next.result ↔ IsSome (disk_of x)) (next_at nodes c.args.disk c.index.result.now there c.index.ensures)
    c.is_some-has_next.ensures in
    chained_as c.unlink.new.heads.items c.unlink.new.nodes.items c.args.disk c.index_mut.result.now _ c.index_mut.ensures.value
    (rw c.none.ensures (subst (λ (xs : List (Option ℕ)). IsChained c.unlink.new.heads.items (pointers_of c.unlink.new.nodes.items) (set xs c.args.disk None))
    (sym (c.unlink.ensures.cells ∙ c.mark.ensures.cells))
    (chained_take heads nexts c.mark.new.heads.items (pointers_of c.mark.new.nodes.items) _ _ cells bucket c.args.disk c.args.cell before.last before.second_last
    c.is_some-has_next.result c.self.invariant listed is lt last second more c.mark.ensures.marked c.unlink.ensures.unlinked)))

pub returns : goal.returns
returns c =
    seen_with_cell c.self.inside.heads.items c.unlink.new.heads.items c.self.inside.nodes.items c.unlink.new.nodes.items c.args.self.now c.args.disk
    c.index_mut.result.now c.none.result None c.self.view_is
    (unlinked_count c.mark.new.heads.items (pointers_of c.mark.new.nodes.items) c.unlink.new.heads.items (pointers_of c.unlink.new.nodes.items)
    c.bucket-bucket.result c.args.disk c.last_two_below-before.result.last c.unlink.ensures.unlinked
    ∙ marked_heads_count c.self.inside.heads.items (pointers_of c.self.inside.nodes.items) c.mark.new.heads.items (pointers_of c.mark.new.nodes.items)
    c.bucket-bucket.result c.last_two_below-before.result.last c.last_two_below-before.result.second_last _ c.mark.ensures.marked)
    (c.unlink.ensures.cells ∙ c.mark.ensures.cells) c.none.ensures
