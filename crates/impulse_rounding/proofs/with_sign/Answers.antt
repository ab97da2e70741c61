-- The size is put on the side of x. That is said here, so that the other side is refused as soon as this fails.
use Rattle.std.proofs.Common.{◌≡◌, ◌∙◌, ℕ, zero, suc, ◌^◌, ◌≤◌, true, false, refl, arith}
use Rattle.std.specs.Prelude.{ℤ, pos, negsuc, nat_abs, neg_ℤ, ◌-ℤ◌}
use Rattle.std.proofs.lemmas.Int.{ints, to_z_pos}
use Rattle.std.proofs.lemmas.Bool.{false≢true}
use lib.Signed.{le_z}
use mir.Syntax.{w64}
use mir.Val.{to_z}
use Rattle.plane_vectors.proofs.Sizes.{sent, sent_same}
use Rattle.impulse_rounding.specs.Impulse.{signed}
use Rattle.impulse_rounding.proofs.with_sign.Goals as goal

signed_up : (x : ℤ) (s : ℕ) → s ≤ 2 ^ 22 → le_z (pos 0) x ≡ true → to_z w64 s ≡ signed x s
signed_up (pos n) s small e = to_z_pos w64 s (omega arith)
signed_up (negsuc n) s small e = absurd (false≢true e)

signed_down : (x : ℤ) (s : ℕ) → s ≤ 2 ^ 22 → le_z (pos 0) x ≡ false → sent (pos 0 -ℤ to_z w64 s) ≡ signed x s
signed_down (pos n) s small e = absurd (omega (arith, ints))
signed_down (negsuc n) s small e =
    rw (to_z_pos w64 s (omega arith)) (sent_same (pos 0 -ℤ pos s) (omega (arith, ints)) ∙ minus s)
  where
    minus : (s : ℕ) → pos 0 -ℤ pos s ≡ neg_ℤ (pos s)
    minus zero = refl
    minus (suc s) = omega (arith, ints)

signed_size : (x : ℤ) (s most : ℕ) → s ≤ most → nat_abs (signed x s) ≤ most
signed_size (pos n) s most h = h
signed_size (negsuc n) zero most h = h
signed_size (negsuc n) (suc s) most h = h

pub returns-then-x-ge0-clause-value : goal.returns-then-x-ge0-clause-value
returns-then-x-ge0-clause-value c =
    signed_up c.args.x c.args.size c.requires (rw (sent_same c.args.x c.ranges.x) at c.if-x-ge0.true)

pub returns-else-x-ge0-clause-value : goal.returns-else-x-ge0-clause-value
returns-else-x-ge0-clause-value c =
    signed_down c.args.x c.args.size c.requires (rw (sent_same c.args.x c.ranges.x) at c.if-x-ge0.false)

pub returns-else-x-ge0-clause-size : goal.returns-else-x-ge0-clause-size
returns-else-x-ge0-clause-size c = rw (returns-else-x-ge0-clause-value c) (signed_size c.args.x c.args.size (2 ^ 22) c.requires)
