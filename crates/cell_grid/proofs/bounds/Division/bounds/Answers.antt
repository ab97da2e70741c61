-- A coordinate is in a column that isn't the last from its start on up to the next one's.
use Rattle.cell_grid.proofs.Columns.{column_bounds, column_small, last_bounds}
use Rattle.cell_grid.proofs.bounds.Division.bounds.Goals as goal

pub returns-then-index-self-clause-column : goal.returns-then-index-self-clause-column
returns-then-index-self-clause-column c =
    column_bounds c.args.self.side c.args.self.count c.args.index c.from.result c.from-then-index-self.result
    c.requires.side c.if-index-self.true c.requires.size c.from.ensures c.from-then-index-self.ensures

pub returns-then-index-self-clause-small : goal.returns-then-index-self-clause-small
returns-then-index-self-clause-small c =
    column_small c.args.self.side c.args.self.count c.args.index c.from.result c.from-then-index-self.result
    c.requires.side c.if-index-self.true c.requires.size c.from.ensures c.from-then-index-self.ensures

pub returns-else-index-self-clause-column : goal.returns-else-index-self-clause-column
returns-else-index-self-clause-column c =
    last_bounds c.args.self.side c.args.self.count c.args.index c.from-else-index-self.result
    c.requires.side c.requires.index c.if-index-self.false c.requires.size c.from-else-index-self.ensures
