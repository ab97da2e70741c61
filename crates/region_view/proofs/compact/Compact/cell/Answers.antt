use Rattle.std.proofs.Common.{◌≡◌, ap}
use Rattle.std.specs.Prelude.{Option, Some, None, IfSome}
use Rattle.region_view.specs.declared.action.Placed.{Placed}
use Rattle.region_view.specs.declared.compact.Compact.TheInside.{Inside}
use Rattle.region_view.specs.Compact.{unpacked}
use Rattle.region_view.proofs.CompactRows.{is_row_of}
use Rattle.region_view.proofs.compact.Compact.cell.Goals as goal

of_row : (a : Inside) (o : Option Placed) → unpacked a ≡ o → IfSome o (λ row. a.cell ≡ row.cell)
of_row a None view = tt
of_row a (Some p) view = ap (λ (row : Placed). row.cell) (is_row_of a p view).1

pub returns : goal.returns
returns c = of_row c.self.inside c.args.self.now c.self.view_is
