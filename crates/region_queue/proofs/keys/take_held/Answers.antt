-- Only the disks of a stamp can have it for a key.
use Rattle.region_queue.specs.Finding.{IsFound, AreListed, AreRetakenOf, HasKey, IsHolder}
use Rattle.region_queue.proofs.Again.{on_ok}
use Rattle.region_queue.proofs.Settled.{held}
use Rattle.region_queue.proofs.keys.take_held.Goals as goal

pub returns : goal.returns
returns c =
    let finder = c.args.finder.now in
    let view = c.args.view.now in
    let s = c.args.stamp.now in
    let old = c.args.keys.now in
    let mid = c.take_if_held.new.keys in
    let new = c.take_if_held-2.new.keys in
    on_ok c.take_if_held-2.result (AreListed view finder.lists.cells → AreRetakenOf finder view (HasKey mid s.second s) mid new)
    (AreListed view finder.lists.cells → AreRetakenOf finder view (IsHolder old s) old new)
    (λ second listed. held (IsFound finder view) old mid new s (c.in_ok-take_if_held.ensures listed) (second listed))
    c.take_if_held-2.ensures
