use Rattle.std.proofs.Common.{w32, rules}
use mir.Val.{SFits}
use Rattle.std.proofs.lemmas.Int.{to_z-of_z}
use Rattle.region_view.proofs.CompactRows.{recelled}
use Rattle.region_view.proofs.compact.Compact.with_cell.Goals as goal

pub returns : goal.returns
returns c =
    let a = c.self.inside in
    let fits_x : SFits w32 a.x = search rules in
    let fits_y : SFits w32 a.y = search rules in
    let fits_vx : SFits w32 a.vx = search rules in
    let fits_vy : SFits w32 a.vy = search rules in
    let fits_size : SFits w32 a.size = search rules in
    recelled a _ c.args.self.now c.args.cell c.self.view_is c.if-self.false (λ i. record {
      time = a.time;
      x = to_z-of_z w32 a.x fits_x i;
      y = to_z-of_z w32 a.y fits_y i;
      vx = to_z-of_z w32 a.vx fits_vx i;
      vy = to_z-of_z w32 a.vy fits_vy i;
      size = to_z-of_z w32 a.size fits_size i;
      cell = c.args.cell;
    })
