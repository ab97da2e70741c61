-- The line has all cells beyond.
use Rattle.std.proofs.Common.{◌+◌, ◌*◌, inr, sym, subst}
use Rattle.cell_grid.specs.Grid.{GridData, IsCell}
use Rattle.region_queue.proofs.finder.Finder.gather_beyond.Goals as goal

pub gather_line-requires : goal.gather_line-requires
gather_line-requires c =
    let line = c.in-Some.line in
    subst (λ (g : GridData). IsCell g (line.first + 2 * line.step)) (sym c.requires.lists) c.in-Some.ensures.cells

pub returns-in-Some : goal.returns-in-Some
returns-in-Some c = λ yes i h. (c.gather_line.ensures yes i).1 (inr (h.0, h.1, c.in-Some.ensures.beyond h.0 h.3 h.4))
