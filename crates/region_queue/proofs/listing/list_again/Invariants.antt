-- The disks so far are listed in the cells in which the view has them.
use Rattle.std.proofs.Common.{◌≡◌, take}
use Rattle.region_queue.specs.Finding.{AreRelisted}
use Rattle.region_queue.proofs.listing.list_again.Given as goal

abbrev pub invariant-loop-disk : goal.invariant-loop-disk
invariant-loop-disk l = record {
  grid : l.lists.grid ≡ l.fn.lists.grid;
  listed : AreRelisted l.view (take l.disk-index l.disks) l.fn.lists.cells l.lists.cells;
}
