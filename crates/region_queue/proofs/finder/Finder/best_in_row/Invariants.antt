-- The least event with a disk in the columns so far.
use Rattle.event_stamps.specs.Least.{IsLeastOf}
use Rattle.cell_lists.specs.Nearby.{IsListedWithin, columns_to}
use Rattle.region_queue.specs.Finding.{IsNativeWith, AreListed}
use Rattle.region_queue.proofs.finder.Finder.best_in_row.Given as goal

abbrev pub invariant-loop-column : goal.invariant-loop-column
invariant-loop-column l =
    AreListed l.view l.self.lists.cells → IsLeastOf (IsNativeWith l.self l.view l.disk (IsListedWithin l.self.lists (columns_to l.fn.block l.row l.column))) l.best
