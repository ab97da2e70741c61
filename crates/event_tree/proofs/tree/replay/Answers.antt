-- The parent is played.
use Rattle.std.proofs.Common.{◌≡◌, ◌+◌, ◌*◌, ◌-◌, ◌/◌, map, arith, ◌∙◌, subst, length-set}
use Rattle.std.specs.Prelude.{None}
use Rattle.std.proofs.lemmas.List.{get_or_default, drop-set-lt, length-map, map-set}
use Rattle.event_tree.specs.Keys.{Key, IsLeastFrom}
use Rattle.event_tree.proofs.Trees.{key_read, played_up, kept_up}
use Rattle.event_tree.proofs.tree.replay.Goals as goal

pub loop-child-preserved : goal.loop-child-preserved
loop-child-preserved g c =
    let rank = g.K.Rank.key in
    let nodes = c.loop-child.nodes in
    let child = c.loop-child.child in
    let parent = (child - 2) / 4 in
    let key = c.least_of_four-key.result in
    let len = c.loop-child.invariant.len in
    let more = c.loop-child-test.true in
    let within = c.loop-child.invariant.within in
    let many = length-map nodes rank in
    record {
      within = rw (length-set nodes parent key) (omega arith);
      len = length-set nodes parent key ∙ len;
      tree = rw (map-set rank nodes parent key) (played_up c.args.first child parent (map rank nodes) (rank key) (omega arith)
          c.loop-child.invariant.tree (omega arith) (omega arith) c.least_of_four-key.ensures);
      leaves = drop-set-lt c.args.first nodes parent key (omega arith) ∙ c.loop-child.invariant.leaves;
    }

pub returns-then-is-clause-tree : goal.returns-then-is-clause-tree
returns-then-is-clause-tree g c =
    let rank = g.K.Rank.key in
    let nodes = c.loop-child.nodes in
    let child = c.loop-child.child in
    let parent = (child - 2) / 4 in
    let len = c.loop-child.invariant.len in
    let more = c.loop-child-test.true in
    let within = c.loop-child.invariant.within in
    let many = length-map nodes rank in
    let kept = c.index-nodes-parent.result in
    let here = key_read rank nodes parent kept c.index-nodes-parent.is ∙ get_or_default (map rank nodes) parent (rank kept) None (omega arith) in
    let same : rank c.least_of_four-key.result ≡ rank kept = c.is.ensures.0 c.if-is.true in
    kept_up c.args.first child parent (map rank nodes) c.requires.most (many ∙ len) c.loop-child.invariant.tree (omega arith)
    (subst (λ (key : Key). IsLeastFrom (map rank nodes) (4 * parent + 2) 4 key) (same ∙ here) c.least_of_four-key.ensures)

pub returns-clause-tree : goal.returns-clause-tree
returns-clause-tree g c =
    let len = c.loop-child.invariant.len in
    let few = c.loop-child-test.false in
    let many = length-map c.loop-child.nodes g.K.Rank.key in
    record {
      most = c.requires.most;
      within = omega arith;
      len = λ some. many ∙ len;
      played = λ k inner. c.loop-child.invariant.tree k inner (omega arith);
    }
