-- The least event with a disk in the rows so far.
use Rattle.event_stamps.specs.Least.{IsLeastOf}
use Rattle.cell_lists.specs.Nearby.{IsListedWithin}
use Rattle.cell_lists.proofs.Blocks.{rows_to}
use Rattle.region_queue.specs.Finding.{IsNativeWith, AreListed}
use Rattle.region_queue.proofs.finder.Finder.best_by_rows.Given as goal

abbrev pub invariant-loop-row : goal.invariant-loop-row
invariant-loop-row l =
    AreListed l.view l.self.lists.cells → IsLeastOf (IsNativeWith l.self l.view l.disk (IsListedWithin l.self.lists (rows_to l.block l.row))) l.best
