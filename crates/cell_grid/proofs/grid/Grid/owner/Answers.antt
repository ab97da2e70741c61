-- The owner by one division.
use Rattle.std.proofs.Common.{ℕ, ◌%◌, ◌<◌, ◌≤◌, sym, subst, arith}
use Rattle.cell_grid.specs.Grid.{GridData, Owns}
use Rattle.cell_grid.proofs.Strips.{owner_is, one_owner}
use Rattle.cell_grid.proofs.grid.Grid.owner.Goals as goal

below : (columns cell : ℕ) → 1 ≤ columns → cell % columns < columns
below columns cell some = grind arith

pub returns-clause-owns : goal.returns-clause-owns
returns-clause-owns c =
    let i = c.self.inside in
    let column = below i.columns c.args.cell c.self.invariant.sizes.columns in
    let own = owner_is i.columns i.regions (c.args.cell % i.columns) c.self.invariant.sizes.regions column in
    rw (← c.self.view_is) (own.1, own.2)

pub returns-clause-region : goal.returns-clause-region
returns-clause-region c =
    let i = c.self.inside in
    let column = below i.columns c.args.cell c.self.invariant.sizes.columns in
    rw (← c.self.view_is)
    (owner_is i.columns i.regions (c.args.cell % i.columns) c.self.invariant.sizes.regions column).0

pub returns-clause-only : goal.returns-clause-only
returns-clause-only c = λ region within owns.
    let i = c.self.inside in
    let column = below i.columns c.args.cell c.self.invariant.sizes.columns in
    let own = owner_is i.columns i.regions (c.args.cell % i.columns) c.self.invariant.sizes.regions column in
    let its = subst (λ (grid : GridData). Owns grid region c.args.cell) (sym c.self.view_is) owns in
    one_owner i.columns i.regions region _ (c.args.cell % i.columns) c.self.invariant.sizes.regions its.0 its.1 own.1 own.2
