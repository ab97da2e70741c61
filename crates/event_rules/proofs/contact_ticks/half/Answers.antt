-- A size isn't below 0.
use Rattle.std.proofs.Common.{◌≡◌, ◌∙◌, ap, ℕ, ◌/◌, ◌<◌, ◌≤◌, arith, of_z, to_z}
use Rattle.std.specs.Prelude.{ℤ, pos, negsuc, ◌≤ℤ◌}
use Rattle.std.specs.Int.{w64}
use Rattle.std.proofs.lemmas.Int.{ints, to_z_pos}
use Rattle.plane_vectors.proofs.Sizes.{sent}
use Rattle.fixed_motion.specs.Motion.{half_of}
use Rattle.event_rules.proofs.contact_ticks.half.Goals as goal

halved : (size r : ℤ) (w : ℕ) → pos 2 ≤ℤ size → size ≤ℤ pos 1073741824 → w ≡ of_z w64 (sent size) → r ≡ to_z w64 (w / 2) → sent r ≡ half_of size
unfolding half_of
halved (pos n) r w least most ew er =
    let small : n ≤ 1073741824 = omega (arith, ints) in
    let whole : n < 9223372036854775808 = omega (arith, ints) in
    let part : n / 2 < 9223372036854775808 = omega (arith, ints) in
    let is : w ≡ n = ew ∙ ap (of_z w64) (to_z_pos w64 n whole) in
    ap sent (er ∙ ap (λ (k : ℕ). to_z w64 (k / 2)) is ∙ to_z_pos w64 (n / 2) part) ∙ to_z_pos w64 (n / 2) part
halved (negsuc n) r w least most ew er = absurd (omega (arith, ints))

pub returns : goal.returns
returns c =
    halved c.args.size c.cast_signed.result c.cast_unsigned.result c.requires.least c.requires.most c.cast_unsigned.ensures c.cast_signed.ensures
