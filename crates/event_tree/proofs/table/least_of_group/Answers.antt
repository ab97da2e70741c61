-- The earlier of the earlier ones of two pairs.
use Rattle.std.proofs.Common.{◌+◌, arith}
use Rattle.std.proofs.lemmas.List.{length-map}
use Rattle.event_tree.specs.Table.{keys_in}
use Rattle.event_tree.specs.declared.table.Entry.{Entry}
use Rattle.event_tree.proofs.Trees.{least_of_four}
use Rattle.event_tree.proofs.Groups.{one_of_group}
use Rattle.event_tree.proofs.table.least_of_group.Goals as goal

pub returns : goal.returns
returns g c =
    let rank = g.K.Rank.key in
    let entries = c.args.entries.now in
    let start = c.args.start in
    let long = length-map entries (λ (e : Entry _). rank e.key) in
    rw (c.earlier.ensures, c.earlier-left.ensures, c.earlier-right.ensures)
    (least_of_four (keys_in rank entries) start _ _ _ _ (omega (arith, c.requires, long))
    (one_of_group rank entries start 0 start c.index-four-0.result (omega arith) (omega arith) c.index-four-0.is)
    (one_of_group rank entries start 1 (start + 1) c.index-four-1.result (omega arith) (omega arith) c.index-four-1.is)
    (one_of_group rank entries start 2 (start + 2) c.index-four-2.result (omega arith) (omega arith) c.index-four-2.is)
    (one_of_group rank entries start 3 (start + 3) c.index-four-3.result (omega arith) (omega arith) c.index-four-3.is))
