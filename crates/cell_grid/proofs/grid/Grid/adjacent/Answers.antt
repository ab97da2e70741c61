-- Axis by axis.
use Rattle.std.proofs.lemmas.Bool.{both_ways}
use Rattle.cell_grid.proofs.grid.Grid.adjacent.Goals as goal

pub returns-then-is_beside : goal.returns-then-is_beside
returns-then-is_beside c =
    let columns = rw (c.column.ensures.value, c.column-2.ensures.value) at c.is_beside.ensures in
    let rows = rw (c.row.ensures.value, c.row-then-is_beside.ensures.value) at c.is_beside-then-is_beside.ensures in
    (λ yes. (columns.0 c.if-is_beside.true, rows.0 yes), λ h. rows.1 h.1)

pub returns-else-is_beside : goal.returns-else-is_beside
returns-else-is_beside c =
    let columns = rw (c.column.ensures.value, c.column-2.ensures.value) at c.is_beside.ensures in (
      λ yes. absurd (both_ways c.is_beside.result c.if-is_beside.false yes),
      λ h. absurd (both_ways c.is_beside.result c.if-is_beside.false (columns.1 h.0)),
    )
