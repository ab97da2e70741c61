use Rattle.std.proofs.Common.{◌^◌}
use Rattle.cell_grid.proofs.Quotients.{quotient_by_reciprocal}
use Rattle.cell_grid.proofs.grid.sides_before.Goals as goal

pub returns : goal.returns
returns c = λ side some small e.
    rw (c.from.ensures, c.from-2.ensures, e) (quotient_by_reciprocal (2 ^ 62) side c.args.coordinate some small)
