-- The code's unsigned numbers are the sizes meant.
use Rattle.std.proofs.Common.{◌≡◌, ℕ, ◌≤◌, ◌↔◌, arith, rules, subst, sym}
use Rattle.std.specs.Prelude.{ℤ, pos, negsuc, nat_abs, ◌≤ℤ◌, FitsSigned, T}
use Rattle.std.proofs.lemmas.Bool.{leb-true, le-leb}
use Rattle.std.proofs.lemmas.Int.{ints}
use mir.Syntax.{w64}
use mir.Val.{Fits}
use lib.Signed.{non_neg}
use Rattle.plane_vectors.proofs.Sizes.{sent, sent_same}
use Rattle.event_rules.proofs.separation.fits_the_box.Goals as goal

side_fits : (side : ℤ) → side ≤ℤ pos 1073741824 → pos 2 ≤ℤ side → FitsSigned w64 side
side_fits side most least = omega (arith, ints)

-- a side as the code's unsigned number
unsigned : (side : ℤ) → side ≤ℤ pos 1073741824 → pos 2 ≤ℤ side → T (non_neg (sent side)) × Fits w64 (nat_abs (sent side))
unsigned side most least =
    subst (λ (z : ℤ). T (non_neg z) × Fits w64 (nat_abs z)) (sym (sent_same side (side_fits side most least))) (as_it_is side most least)
  where
    as_it_is : (side : ℤ) → side ≤ℤ pos 1073741824 → pos 2 ≤ℤ side → T (non_neg side) × Fits w64 (nat_abs side)
    as_it_is (pos n) most least = (tt, omega (arith, ints))
    as_it_is (negsuc n) most least = absurd (omega (arith, ints))

-- the code's comparison is of the sizes
as_sent : (x side : ℤ) (n : ℕ) → FitsSigned w64 x → side ≤ℤ pos 1073741824 → pos 2 ≤ℤ side → n ≡ nat_abs (sent x) →
    n ≤ nat_abs (sent side) ↔ nat_abs x ≤ nat_abs side
as_sent x side n fits most least e = rw (e, sent_same x fits, sent_same side (side_fits side most least)) (λ h. h, λ h. h)

pub returns-then-unsigned_abs-rules : goal.returns-then-unsigned_abs-rules
returns-then-unsigned_abs-rules c =
    let width = c.requires.width in
    let height = c.requires.height in
    let x = as_sent c.args.places.x c.args.rules.now.width c.unsigned_abs.result (search rules) width.1 width.0 c.unsigned_abs.ensures.value in
    let y = as_sent c.args.places.y c.args.rules.now.height c.unsigned_abs-then-unsigned_abs-rules.result (search rules) height.1 height.0
    c.unsigned_abs-then-unsigned_abs-rules.ensures.value in
    (λ yes. record { x = x.0 c.if-unsigned_abs-rules.true; y = y.0 (leb-true _ _ yes) }, λ fits. le-leb _ _ (y.1 fits.y))

pub overflow_cast-result : goal.overflow_cast-result
overflow_cast-result c = unsigned c.args.rules.now.height c.requires.height.1 c.requires.height.0

pub overflow_cast-rules : goal.overflow_cast-rules
overflow_cast-rules c = unsigned c.args.rules.now.width c.requires.width.1 c.requires.width.0
