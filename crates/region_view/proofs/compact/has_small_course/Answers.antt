use Rattle.std.proofs.Common.{w64, rules}
use mir.Val.{SFits}
use Rattle.std.proofs.lemmas.Bool.Decides.{Decides-and, Decides-like}
use Rattle.region_view.proofs.CompactRows.{narrow_sent}
use Rattle.region_view.proofs.compact.has_small_course.Goals as goal

pub returns : goal.returns
returns c =
    let disk = c.args.disk.now in
    let fits_x : SFits w64 disk.x = search rules in
    let fits_y : SFits w64 disk.y = search rules in
    let fits_vx : SFits w64 disk.vx = search rules in
    let fits_vy : SFits w64 disk.vy = search rules in
    let fits_size : SFits w64 disk.size = search rules in
    Decides-like _
    (λ h. record { centre = h.0.0.0; velocity = (h.0.0.1, h.0.1); size = h.1 })
    (λ small. (((small.centre, small.velocity.0), small.velocity.1), small.size))
    (Decides-and _ _ (Decides-and _ _ (Decides-and _ _
    (Decides-and _ _ (narrow_sent _ disk.x fits_x c.is_narrow.ensures) (narrow_sent _ disk.y fits_y c.is_narrow-2.ensures))
    (narrow_sent _ disk.vx fits_vx c.is_narrow-3.ensures)) (narrow_sent _ disk.vy fits_vy c.is_narrow-4.ensures))
    (narrow_sent _ disk.size fits_size c.is_narrow-5.ensures))
