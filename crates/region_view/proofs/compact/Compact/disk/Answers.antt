use Rattle.std.proofs.Common.{◌≡◌, ◌/◌, ◌%◌, ◌^◌, ap, ◌∙◌, w32, rules}
use mir.Val.{SFits}
use Rattle.std.specs.Prelude.{Option, Some, None, IfSome}
use Rattle.fixed_motion.specs.declared.disk.Disk.{Disk}
use Rattle.region_view.specs.declared.action.Placed.{Placed}
use Rattle.region_view.specs.declared.compact.Compact.TheInside.{Inside}
use Rattle.region_view.specs.Compact.{row_inside, unpacked}
use Rattle.region_view.proofs.CompactRows.{is_row_of, widened}
use Rattle.region_view.proofs.compact.Compact.disk.Goals as goal

of_row : (a : Inside) (o : Option Placed) (d : Disk) → unpacked a ≡ o → d ≡ (row_inside a).disk → IfSome o (λ row. d ≡ row.disk)
of_row a None d view same = tt
of_row a (Some p) d view same = same ∙ ap (λ (row : Placed). row.disk) (is_row_of a p view).1

pub returns : goal.returns
returns c =
    let a = c.self.inside in
    let fits_x : SFits w32 a.x = search rules in
    let fits_y : SFits w32 a.y = search rules in
    let fits_vx : SFits w32 a.vx = search rules in
    let fits_vy : SFits w32 a.vy = search rules in
    let fits_size : SFits w32 a.size = search rules in
    of_row a c.args.self.now _ c.self.view_is (λ i. record {
      x = widened a.x fits_x i;
      y = widened a.y fits_y i;
      vx = widened a.vx fits_vx i;
      vy = widened a.vy fits_vy i;
      size = widened a.size fits_size i;
      base = a.time / 2 ^ 20;
      mark = a.time % 2 ^ 20;
    })
