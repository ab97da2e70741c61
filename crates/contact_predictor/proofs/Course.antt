-- Whether paths cross, by products in 128 bits.
use Rattle.std.proofs.Common.{◌≡◌, ◌↔◌, Bool, true, false, IsTrue, ◌*◌, ◌^◌, ◌≤◌, refl, ◌∙◌, arith, FitsSigned}
use Rattle.std.specs.Prelude.{ℤ, pos, nat_abs, ◌*ℤ◌, ◌<ℤ◌, ◌&&◌}
use Rattle.std.proofs.lemmas.Int.{ints, to_z-of_z}
use Rattle.std.proofs.lemmas.Bool.{false≢true}
use lib.Signed.{lt_z}
use mir.Syntax.{w64, w128}
use mir.Val.{to_z, of_z}
use Rattle.plane_vectors.proofs.Sizes.{size_of_product, sent, sent_same}
use Rattle.contact_predictor.specs.declared.approach.Approach.{Approach}
use Rattle.contact_predictor.specs.Approach.{IsCourse}
use Rattle.contact_predictor.proofs.Signs.{less}

wide : ℤ → ℤ
wide n = to_z w128 (of_z w128 n)

-- a product of two numbers of 64 bits is exact
product_wide : (m n x y : ℤ) → FitsSigned w64 x → FitsSigned w64 y → m ≡ sent x → n ≡ sent y → wide (wide m *ℤ wide n) ≡ x *ℤ y
unfolding wide
product_wide m n x y fx fy mx ny =
    let p : to_z w128 (of_z w128 m) ≡ x = rw (mx ∙ sent_same x fx) (to_z-of_z w128 x (wider x fx)) in
    let q : to_z w128 (of_z w128 n) ≡ y = rw (ny ∙ sent_same y fy) (to_z-of_z w128 y (wider y fy)) in
    rw (p, q) (to_z-of_z w128 (x *ℤ y) (fits (x *ℤ y) (size_of_product x y (2 ^ 63) (2 ^ 63) (size x fx) (size y fy))))
  where
    wider : (z : ℤ) → FitsSigned w64 z → FitsSigned w128 z
    wider z f = omega (arith, ints)

    size : (z : ℤ) → FitsSigned w64 z → nat_abs z ≤ 2 ^ 63
    size z f = omega (arith, ints)

    fits : (z : ℤ) → nat_abs z ≤ 2 ^ 63 * 2 ^ 63 → FitsSigned w128 z
    fits z h = omega (arith, ints)

both : (x y : Bool) → IsTrue (x && y) ↔ (IsTrue x × IsTrue y)
both true y = (λ h. (refl, h), λ h. h.1)
both false y = (λ h. absurd (false≢true h), λ h. h.0)

tests : (b m n : ℤ) → IsTrue (lt_z b (pos 0) && lt_z m n) ↔ ((b <ℤ pos 0) × (m <ℤ n))
tests b m n = (
  λ h. let parts = (both (lt_z b (pos 0)) (lt_z m n)).0 h in ((less b (pos 0)).0 parts.0, (less m n).0 parts.1),
  λ h. (both (lt_z b (pos 0)) (lt_z m n)).1 ((less b (pos 0)).1 h.0, (less m n).1 h.1),
)

pub course_told : (q : Approach) (a c b d : ℤ) → FitsSigned w64 q.square → FitsSigned w64 q.closing → FitsSigned w64 q.gap →
    a ≡ sent q.square → c ≡ sent q.gap → b ≡ sent q.closing → d ≡ sent q.closing →
    IsTrue (lt_z (sent q.closing) (pos 0) && lt_z (to_z w128 (of_z w128 (to_z w128 (of_z w128 a) *ℤ to_z w128 (of_z w128 c))))
    (to_z w128 (of_z w128 (to_z w128 (of_z w128 b) *ℤ to_z w128 (of_z w128 d))))) ↔ IsCourse q
unfolding wide
course_told q a c b d fa fb fc is_a is_c is_b is_d =
    rw (sent_same q.closing fb, product_wide a c q.square q.gap fa fc is_a is_c, product_wide b d q.closing q.closing fb fb is_b is_d)
    (tests q.closing (q.square *ℤ q.gap) (q.closing *ℤ q.closing))
