-- The product with the reciprocal of the columns.
use Rattle.std.proofs.Common.{◌≡◌, ℕ, ◌*◌, ◌/◌, ◌^◌, ◌<◌, sym, subst}
use Rattle.std.proofs.lemmas.Nat.{div_below}
use Rattle.cell_grid.specs.Grid.{GridData, HasReciprocals, IsCell}
use Rattle.cell_grid.proofs.Quotients.{row_by_reciprocal, few_cells}
use Rattle.cell_grid.proofs.grid.Grid.row.Goals as goal

row_is : (grid : GridData) (columns x y cell : ℕ) → HasReciprocals grid columns x y → IsCell grid cell →
    cell * columns / 2 ^ 32 ≡ cell / grid.columns
row_is grid columns x y cell has within =
    let sizes = has.sizes in
    row_by_reciprocal grid.columns columns cell sizes.columns sizes.most_columns
    (few_cells grid.rows grid.columns cell sizes.most_rows sizes.most_columns within) has.columns

pub returns-clause-value : goal.returns-clause-value
returns-clause-value c =
    let within = subst (λ (grid : GridData). IsCell grid c.args.cell) (sym c.self.view_is) c.requires in
    rw (← c.self.view_is, c.from.ensures) (row_is _ _ _ _ c.args.cell c.self.invariant within)

pub returns-clause-in_range : goal.returns-clause-in_range
returns-clause-in_range c =
    let i = c.self.inside in
    let within = subst (λ (grid : GridData). IsCell grid c.args.cell) (sym c.self.view_is) c.requires in
    rw (← c.self.view_is, c.from.ensures, row_is _ _ _ _ c.args.cell c.self.invariant within)
    (div_below c.args.cell i.columns i.rows c.self.invariant.sizes.columns within)
