-- The keys cover the candidates, and the least key is at hand.
use Rattle.event_tree.specs.Keys.{IsLeastKey}
use Rattle.region_queue.specs.Covering.{Covers}
use Rattle.region_queue.specs.Finding.{IsFound, AreListed}
use Rattle.region_queue.proofs.Settled.{below_all}
use Rattle.region_queue.proofs.keys.settle_pairs.Given as goal

abbrev pub invariant-loop-stamp : goal.invariant-loop-stamp
invariant-loop-stamp l = AreListed l.view l.finder.lists.cells → Covers (IsFound l.finder l.view) l.fn.keys.keys l.fn.keys.bounds →
    Covers (IsFound l.finder l.view) l.keys.keys l.keys.bounds × IsLeastKey l.keys.keys l.least

abbrev pub decreases-loop-stamp : goal.decreases-loop-stamp
decreases-loop-stamp l = below_all l.least
