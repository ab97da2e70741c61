-- The key is among the leaves, which no playing changes.
use Rattle.std.proofs.Common.{map, ◌+◌, ◌∙◌, arith}
use Rattle.std.specs.Vec.{with_item}
use Rattle.std.proofs.lemmas.List.{map-set, with_items_is, length-map}
use Rattle.event_tree.proofs.Trees.{leaf_set, leaf_within, set_leaves}
use Rattle.event_tree.proofs.tree.Tree.set.Goals as goal

pub replay-requires-clause-tree : goal.replay-requires-clause-tree
replay-requires-clause-tree g c =
    let key = g.K.Rank.key in
    let first = c.self.inside.first in
    let nodes = c.self.inside.nodes.items in
    rw c.deref_mut.ensures.value (rw (map-set key nodes (first + c.args.place) c.args.key)
    (leaf_set first (first + c.args.place) (map key nodes) (key c.args.key) (omega arith) c.self.invariant))

pub overflow_add-leaf : goal.overflow_add-leaf
overflow_add-leaf g c =
    let nodes = c.self.inside.nodes.items in
    let many = length-map nodes g.K.Rank.key in
    let inside = leaf_within c.self.inside.first c.args.place (map g.K.Rank.key nodes) c.args.self.now c.self.view_is c.requires in
    omega (arith, inside, c.self.invariant.most, c.self.invariant.len (omega (arith, inside)))

pub replay-requires-clause-within : goal.replay-requires-clause-within
replay-requires-clause-within g c =
    let nodes = c.self.inside.nodes.items in
    let many = length-map nodes g.K.Rank.key in
    let inside = leaf_within c.self.inside.first c.args.place (map g.K.Rank.key nodes) c.args.self.now c.self.view_is c.requires in
    omega (arith, inside, c.deref_mut.ensures.len, c.self.inside.nodes.ok.0)

pub returns : goal.returns
returns g c =
    let key = g.K.Rank.key in
    let first = c.self.inside.first in
    let place = c.args.place in
    let nodes = c.self.inside.nodes in
    let now = with_items_is (with_item nodes (first + place) c.args.key) c.replay.new.nodes
    (c.replay.auto.nodes ∙ c.deref_mut.ensures.len) in
    set_leaves key first place nodes.items _ c.deref_mut.result.now c.replay.new.nodes c.args.key now c.replay.ensures.leaves
    c.deref_mut.ensures.value c.self.view_is

pub invariant_of-self : goal.invariant_of-self
invariant_of-self g c =
    let nodes = c.self.inside.nodes in
    let now = with_items_is (with_item nodes (c.self.inside.first + c.args.place) c.args.key) c.replay.new.nodes
    (c.replay.auto.nodes ∙ c.deref_mut.ensures.len) in
    rw now c.replay.ensures.tree

pub index_mut-requires : goal.index_mut-requires
index_mut-requires g c =
    let nodes = c.self.inside.nodes.items in
    let many = length-map nodes g.K.Rank.key in
    let inside = leaf_within c.self.inside.first c.args.place (map g.K.Rank.key nodes) c.args.self.now c.self.view_is c.requires in
    omega (arith, inside, c.self.inside.nodes.ok.0)

pub replay-requires-clause-len : goal.replay-requires-clause-len
replay-requires-clause-len g c =
    let nodes = c.self.inside.nodes.items in
    let many = length-map nodes g.K.Rank.key in
    let inside = leaf_within c.self.inside.first c.args.place (map g.K.Rank.key nodes) c.args.self.now c.self.view_is c.requires in
    omega (arith, c.deref_mut.ensures.len, c.self.inside.nodes.ok.0, c.self.invariant.len (omega (arith, inside)))
