-- Products and sums that are wrapped to 64 bits, if nothing is lost by that.
use Rattle.std.proofs.Common.{rules, ◌≡◌, ◌+◌, ◌-◌, ◌*◌, ◌%◌, ◌^◌, ◌<◌, sym, ap, subst, ◌∙◌, arith, FitsSigned, to_z, of_z}
use Rattle.std.specs.Prelude.{ℤ, nat_abs, ◌+ℤ◌, ◌-ℤ◌, ◌*ℤ◌}
use Rattle.std.specs.Int.{int_wrap, w64}
use Rattle.std.proofs.lemmas.Int.{ints, wraps, wrapping_sub-bits, int_wrap_fits, int_wrap-add_right, int_wrap-mul_left, SFits-int_wrap}
use Rattle.plane_vectors.proofs.Sizes.{sent, sent_same}

pub exact : (z n : ℤ) → nat_abs n < 2 ^ 63 → z ≡ int_wrap w64 n → sent z ≡ n
exact z n small e =
    let fits : FitsSigned w64 n = omega (arith, ints) in
    rw (e ∙ int_wrap_fits w64 n fits) (sent_same n fits)

pub difference_exact : (z n d : ℤ) → FitsSigned w64 d → z ≡ int_wrap w64 n → nat_abs (n -ℤ (d *ℤ d)) < 2 ^ 63 →
    to_z w64 ((of_z w64 z + (18446744073709551616 - of_z w64 d * of_z w64 d % 18446744073709551616)) % 18446744073709551616) ≡ n -ℤ (d *ℤ d)
difference_exact z n d f e small =
    let fits : FitsSigned w64 z = subst (λ (k : ℤ). FitsSigned w64 k) (sym e) (SFits-int_wrap w64 n) in
    let whole : FitsSigned w64 (n -ℤ (d *ℤ d)) = omega (arith, ints) in
    let told : to_z w64 ((of_z w64 z + (18446744073709551616 - of_z w64 d * of_z w64 d % 18446744073709551616)) % 18446744073709551616)
    ≡ int_wrap w64 (z -ℤ (d *ℤ d)) = search (rules, wraps, wrapping_sub-bits w64) in
    let same : int_wrap w64 (int_wrap w64 n -ℤ (d *ℤ d)) ≡ int_wrap w64 (n -ℤ (d *ℤ d)) = search (rules, wraps) in
    told ∙ rw e same ∙ int_wrap_fits w64 (n -ℤ (d *ℤ d)) whole

-- the same for any number of 64 bits instead of the square
pub less_exact : (z n k : ℤ) → FitsSigned w64 k → z ≡ int_wrap w64 n → nat_abs (n -ℤ k) < 2 ^ 63 →
    to_z w64 ((of_z w64 z + (18446744073709551616 - of_z w64 k)) % 18446744073709551616) ≡ n -ℤ k
less_exact z n k f e small =
    let fits : FitsSigned w64 z = subst (λ (i : ℤ). FitsSigned w64 i) (sym e) (SFits-int_wrap w64 n) in
    let whole : FitsSigned w64 (n -ℤ k) = omega (arith, ints) in
    let told : to_z w64 ((of_z w64 z + (18446744073709551616 - of_z w64 k)) % 18446744073709551616) ≡ int_wrap w64 (z -ℤ k) =
    search (rules, wraps, wrapping_sub-bits w64) in
    let same : int_wrap w64 (int_wrap w64 n -ℤ k) ≡ int_wrap w64 (n -ℤ k) = search (rules, wraps) in
    told ∙ rw e same ∙ int_wrap_fits w64 (n -ℤ k) whole

pub wrapped_gap : (c b e x t : ℤ) → x ≡ int_wrap w64 (b +ℤ int_wrap w64 e) →
    int_wrap w64 (c +ℤ (x *ℤ t)) ≡ int_wrap w64 (c +ℤ ((b +ℤ e) *ℤ t))
wrapped_gap c b e x t is =
    let slope : x ≡ int_wrap w64 (b +ℤ e) = is ∙ int_wrap-add_right w64 b e in
    ap (λ (n : ℤ). int_wrap w64 (c +ℤ (n *ℤ t))) slope ∙ sym (int_wrap-add_right w64 c (int_wrap w64 (b +ℤ e) *ℤ t))
    ∙ ap (λ (n : ℤ). int_wrap w64 (c +ℤ n)) (int_wrap-mul_left w64 (b +ℤ e) t) ∙ int_wrap-add_right w64 c ((b +ℤ e) *ℤ t)
