-- The lists have no disk at first, and then the one disk in its cell.
use Rattle.std.proofs.Common.{◌≡◌, ◌∙◌, ℕ, ap}
use Rattle.std.specs.Prelude.{Some}
use Rattle.std.specs.Ordering.{nat_cmp}
use Rattle.std.specs.FinMap.{get, get-empty, get-insert}
use Rattle.std.specs.Cmp.{nat_cmp_total}
use Rattle.cell_lists.specs.Listing.{ListsData, with_disk}
use Rattle.cell_tests.proofs.tests.cells.found_of_one.Goals as goal

pub put-requires-clause-free : goal.put-requires-clause-free
put-requires-clause-free c = ap (λ (l : ListsData). get l.cells 7) c.in_ok-lists.ensures ∙ get-empty nat_cmp 7

listed : (old new : ListsData) (cell : ℕ) → new ≡ with_disk old 7 cell → get new.cells 7 ≡ Some cell
listed old new cell is = ap (λ (l : ListsData). get l.cells 7) is ∙ get-insert nat_cmp_total old.cells 7 cell 7

pub take-requires : goal.take-requires
take-requires c = listed c.in_ok-lists.lists c.put.new.self c.cell_of-cell.result c.in_ok-put.ensures.listed
