-- A key that is no pair's is fresh.
use Rattle.std.proofs.lemmas.Bool.{both_ways}
use Rattle.region_queue.specs.Finding.{IsFound}
use Rattle.region_queue.proofs.Settled.{settled_alone}
use Rattle.region_queue.proofs.keys.settle.Goals as goal

pub returns : goal.returns
returns c = λ listed covers. (
  covers,
  settled_alone (IsFound c.args.finder.now c.args.view.now) c.args.keys.now.keys c.args.keys.now.bounds c.in-Some.top covers
      (c.in-Some.ensures {u = tt}) (λ pair. both_ways c.is_pair_or_none.result c.if-not-is_pair_or_none.true (c.is_pair_or_none.ensures.1 pair)),
)
