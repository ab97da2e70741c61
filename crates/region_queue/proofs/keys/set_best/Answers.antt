-- The key is the earlier of the two.
use Rattle.region_queue.proofs.keys.set_best.Goals as goal

pub returns : goal.returns
returns c = rw c.earlier-key.ensures at c.set.ensures
