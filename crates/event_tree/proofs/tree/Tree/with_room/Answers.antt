-- All nodes begin without keys.
use Rattle.std.proofs.Common.{◌+◌, ◌*◌, ◌/◌, map, arith}
use Rattle.event_tree.proofs.Trees.{blank_keys, blank_tree, blank_leaves}
use Rattle.event_tree.proofs.tree.Tree.with_room.Goals as goal

pub invariant_of-result : goal.invariant_of-result
invariant_of-result g c =
    let first = c.args.room / 3 in
    let nodes = c.in_ok-vec.field-0.items in
    blank_tree first (map g.K.Rank.key nodes) (omega (arith, c.requires))
    (blank_keys g.K.Rank.key nodes (4 * first + 2) c.none.result
    (c.in_ok-vec.ensures.items_if_clones_equal (λ y same. g.met.K.Rank.clones c.none.result y same)) c.none.ensures)

pub returns : goal.returns
returns g c =
    let first = c.args.room / 3 in
    let nodes = c.in_ok-vec.field-0.items in
    let blank = blank_leaves first (map g.K.Rank.key nodes)
    (blank_keys g.K.Rank.key nodes (4 * first + 2) c.none.result
    (c.in_ok-vec.ensures.items_if_clones_equal (λ y same. g.met.K.Rank.clones c.none.result y same)) c.none.ensures) in
    record { enough = omega (arith, blank.0); none = blank.1 }
