-- The sizes are those of a valid disk, and it doesn't get far.
use Rattle.std.proofs.Common.{◌≡◌, ◌∙◌, ◌↔◌, ◌-◌, ◌^◌, ◌≤◌, ap, arith, rules, IsTrue, FitsSigned, w64}
use Rattle.std.specs.Prelude.{◌-ℤ◌}
use Rattle.std.proofs.lemmas.Bool.Decides.{Decides-and, Decides-like}
use Rattle.plane_vectors.specs.declared.Vector.{Vector}
use Rattle.plane_vectors.proofs.Sizes.{sent, sent_same}
use Rattle.fixed_motion.specs.Motion.{half_of, place_of, centre_of, velocity_of}
use Rattle.fixed_motion.proofs.Sizes.{inside_in_box, in_box_size, slow_size}
use Rattle.contact_predictor.specs.Contact.{IsBetween}
use Rattle.event_rules.proofs.Sides.{near_after}
use Rattle.event_rules.proofs.contact_ticks.is_inside_at.Goals as goal

pub fits_between-requires-clause-near : goal.fits_between-requires-clause-near
fits_between-requires-clause-near c =
    let a = c.args.a.now in
    let of = c.args.rules.now in
    let place = c.centre_at-place.result in
    let fits_x : FitsSigned w64 place.x = search rules in
    let px : sent place.x ≡ (place_of a c.args.tick).x = sent_same place.x fits_x ∙ ap (λ (p : Vector). p.x) c.centre_at-place.ensures in
    let centre = in_box_size (centre_of a) (inside_in_box of a (centre_of a) c.requires.checked c.requires.valid.size c.requires.valid.centre) in
    let slow = slow_size of (velocity_of a) c.requires.checked c.requires.valid.velocity in
    let few : c.args.tick - a.base ≤ 2 ^ 40 = omega (arith, c.requires.tick) in
    rw px (near_after a.x a.vx (c.args.tick - a.base) centre.x slow.x few)

pub fits_between-requires-2-clause-near : goal.fits_between-requires-2-clause-near
fits_between-requires-2-clause-near c =
    let a = c.args.a.now in
    let of = c.args.rules.now in
    let place = c.centre_at-place.result in
    let fits_y : FitsSigned w64 place.y = search rules in
    let py : sent place.y ≡ (place_of a c.args.tick).y = sent_same place.y fits_y ∙ ap (λ (p : Vector). p.y) c.centre_at-place.ensures in
    let centre = in_box_size (centre_of a) (inside_in_box of a (centre_of a) c.requires.checked c.requires.valid.size c.requires.valid.centre) in
    let slow = slow_size of (velocity_of a) c.requires.checked c.requires.valid.velocity in
    let few : c.args.tick - a.base ≤ 2 ^ 40 = omega (arith, c.requires.tick) in
    rw py (near_after a.y a.vy (c.args.tick - a.base) centre.y slow.y few)

pub returns : goal.returns
returns c =
    let a = c.args.a.now in
    let of = c.args.rules.now in
    let place = c.centre_at-place.result in
    let fits_size : FitsSigned w64 a.size = search rules in
    let fits_width : FitsSigned w64 of.width = search rules in
    let fits_height : FitsSigned w64 of.height = search rules in
    let fits_x : FitsSigned w64 place.x = search rules in
    let fits_y : FitsSigned w64 place.y = search rules in
    let size : sent a.size ≡ a.size = sent_same a.size fits_size in
    let width : sent of.width ≡ of.width = sent_same of.width fits_width in
    let height : sent of.height ≡ of.height = sent_same of.height fits_height in
    let px : sent place.x ≡ (place_of a c.args.tick).x = sent_same place.x fits_x ∙ ap (λ (p : Vector). p.x) c.centre_at-place.ensures in
    let py : sent place.y ≡ (place_of a c.args.tick).y = sent_same place.y fits_y ∙ ap (λ (p : Vector). p.y) c.centre_at-place.ensures in
    let x : IsTrue c.fits_between.result ↔ IsBetween (half_of a.size) (of.width -ℤ half_of a.size) (place_of a c.args.tick).x =
    rw (size, width, px) at c.fits_between.ensures in
    let y : IsTrue c.fits_between-2.result ↔ IsBetween (half_of a.size) (of.height -ℤ half_of a.size) (place_of a c.args.tick).y =
    rw (size, height, py) at c.fits_between-2.ensures in
    Decides-like _
    (λ h. record { left = h.0.0; right = h.0.1; bottom = h.1.0; top = h.1.1 })
    (λ k. ((k.left, k.right), (k.bottom, k.top)))
    (Decides-and _ _ x y)
