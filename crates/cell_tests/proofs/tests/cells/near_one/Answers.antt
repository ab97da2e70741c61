-- The lists have no disk at first.
use Rattle.std.proofs.Common.{◌∙◌, ap}
use Rattle.std.specs.Ordering.{nat_cmp}
use Rattle.std.specs.FinMap.{get, get-empty}
use Rattle.cell_lists.specs.Listing.{ListsData}
use Rattle.cell_tests.proofs.tests.cells.near_one.Goals as goal

pub put-requires-clause-free : goal.put-requires-clause-free
put-requires-clause-free c = ap (λ (l : ListsData). get l.cells 7) c.in_ok-lists.ensures ∙ get-empty nat_cmp 7
