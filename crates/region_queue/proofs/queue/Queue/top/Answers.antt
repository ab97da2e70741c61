-- The least key is the least native candidate.
use Rattle.std.proofs.Common.{List, ap, subst}
use Rattle.event_tree.specs.Keys.{Key, IsLeastKey}
use Rattle.region_queue.specs.Queue.{QueueData}
use Rattle.region_queue.proofs.Standing.{stands_least}
use Rattle.region_queue.proofs.queue.Queue.top.Goals as goal

pub returns : goal.returns
returns c = λ view stands.
    stands_least c.args.self.now view c.top.result stands
    (subst (λ (keys : List Key). IsLeastKey keys c.top.result) (ap (λ (q : QueueData). q.keys) c.self.view_is) c.top.ensures)
