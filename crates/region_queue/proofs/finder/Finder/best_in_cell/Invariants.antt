-- The least event with a disk of the cell below some number, from which on the walk goes.
use Rattle.std.proofs.Common.{ℕ}
use Rattle.event_stamps.specs.Least.{IsLeastOf}
use Rattle.cell_lists.proofs.Firsts.{ascent}
use Rattle.cell_lists.specs.Listing.{IsFirstIn}
use Rattle.region_queue.specs.Finding.{IsNativeWith, AreListed}
use Rattle.region_queue.proofs.Candidates.{ListedBelow}
use Rattle.region_queue.proofs.finder.Finder.best_in_cell.Given as goal

abbrev pub invariant-loop-next : goal.invariant-loop-next
invariant-loop-next l = (from : ℕ) × IsFirstIn l.self.lists l.cell from l.next
    × (AreListed l.view l.self.lists.cells → IsLeastOf (IsNativeWith l.self l.view l.disk (ListedBelow l.self.lists l.cell from)) l.best)

abbrev pub decreases-loop-next : goal.decreases-loop-next
decreases-loop-next l = ascent l.next
