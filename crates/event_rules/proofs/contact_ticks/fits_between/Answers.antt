-- No difference here overflows.
use Rattle.std.proofs.Common.{◌≡◌, ◌∙◌, ◌↔◌, ap, ◌^◌, ◌≤◌, arith, rules, of_z, FitsSigned, w64}
use Rattle.std.specs.Prelude.{ℤ, pos, nat_abs, ◌-ℤ◌, ◌≤ℤ◌}
use Rattle.std.proofs.lemmas.Int.{ints}
use Rattle.std.proofs.lemmas.Bool.{leb-true, le-leb}
use Rattle.plane_vectors.proofs.Sizes.{sent, sent_same}
use Rattle.fixed_motion.specs.Motion.{half_of}
use Rattle.contact_predictor.specs.Contact.{IsBetween}
use Rattle.event_rules.proofs.Sides.{between_ends, half_small}
use Rattle.event_rules.proofs.contact_ticks.fits_between.Goals as goal

small_fits : (r : ℤ) → nat_abs r ≤ 2 ^ 30 → FitsSigned w64 r
small_fits r small = omega (arith, ints)

above_fits : (n r : ℤ) → nat_abs n ≤ 2 ^ 62 → nat_abs r ≤ 2 ^ 30 → FitsSigned w64 (n -ℤ r)
above_fits n r near small = omega (arith, ints)

room_fits : (size side : ℤ) → pos 2 ≤ℤ size → size ≤ℤ side → side ≤ℤ pos 1073741824 → FitsSigned w64 (side -ℤ size)
room_fits size side least fits most = omega (arith, ints)

half_sent : (size side h : ℤ) → FitsSigned w64 size → pos 2 ≤ℤ size → nat_abs (half_of size) ≤ 2 ^ 30 → h ≡ half_of (sent size) → sent h ≡ half_of size
half_sent size side h fits least small e =
    ap sent (e ∙ ap half_of (sent_same size fits)) ∙ sent_same (half_of size) (small_fits (half_of size) small)

pub overflow_sub-above : goal.overflow_sub-above
overflow_sub-above c =
    let n = c.args.coordinate in
    let size = c.args.size in
    let fits_n : FitsSigned w64 n = search rules in
    let fits_size : FitsSigned w64 size = search rules in
    let small = half_small size c.args.side c.requires.size c.requires.even c.requires.fits c.requires.side in
    let h = half_sent size c.args.side c.half.result fits_size c.requires.size small c.half.ensures in
    rw (sent_same n fits_n, h) (above_fits n (half_of size) c.requires.near small)

pub returns : goal.returns
returns c =
    let n = c.args.coordinate in
    let size = c.args.size in
    let side = c.args.side in
    let fits_n : FitsSigned w64 n = search rules in
    let fits_size : FitsSigned w64 size = search rules in
    let fits_side : FitsSigned w64 side = search rules in
    let small = half_small size side c.requires.size c.requires.even c.requires.fits c.requires.side in
    let sn : sent n ≡ n = sent_same n fits_n in
    let ss : sent size ≡ size = sent_same size fits_size in
    let sd : sent side ≡ side = sent_same side fits_side in
    let hs : sent c.half.result ≡ half_of size = half_sent size side c.half.result fits_size c.requires.size small c.half.ensures in
    let above : sent (n -ℤ half_of size) ≡ n -ℤ half_of size = sent_same (n -ℤ half_of size) (above_fits n (half_of size) c.requires.near small) in
    let room : sent (side -ℤ size) ≡ side -ℤ size = sent_same (side -ℤ size) (room_fits size side c.requires.size c.requires.fits c.requires.side) in
    let u : c.cast_unsigned.result ≡ of_z w64 (n -ℤ half_of size) = simp (sn, hs, above) at c.cast_unsigned.ensures in
    let w : c.cast_unsigned-2.result ≡ of_z w64 (side -ℤ size) = simp (sd, ss, room) at c.cast_unsigned-2.ensures in
    let told : (c.cast_unsigned.result ≤ c.cast_unsigned-2.result) ↔ IsBetween (half_of size) (side -ℤ half_of size) n =
    rw (u, w) (between_ends size side n c.requires.size c.requires.even c.requires.fits c.requires.side c.requires.near) in
    (λ yes. told.0 (leb-true _ _ yes), λ between. le-leb _ _ (told.1 between))
