-- The cell is in this row.
use Rattle.std.proofs.Common.{◌+◌, ◌*◌, ◌/◌, ◌∙◌}
use Rattle.region_core.proofs.Stands.{column_is}
use Rattle.region_core.proofs.region.standing.column_by.Goals as goal

pub returns-then-index-start-clause-value : goal.returns-then-index-start-clause-value
returns-then-index-start-clause-value c =
    column_is ((c.from-index.result + 1) * c.from.result / 4294967296) c.from-columns.result c.from-index.result c.args.cell c.args.grid.now.columns
    c.from-index.ensures (c.from-columns.ensures ∙ c.columns.ensures.value) c.if-start-index.true c.if-index-start.true
