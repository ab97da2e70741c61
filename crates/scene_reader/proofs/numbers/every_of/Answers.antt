-- Ticks in their range go through 64 bits unchanged.
use Rattle.std.proofs.Common.{◌≡◌, ℤ, pos, nat_abs, ◌≤ℤ◌, true, arith}
use Rattle.std.specs.Ordering.{is_le, int_cmp}
use Rattle.std.specs.Int.Signed.{yes_non_neg}
use Rattle.std.proofs.lemmas.Int.{ints}
use Rattle.std.proofs.lemmas.Bool.Decides.{nat_tests}
use mir.Syntax.{w64}
use mir.Val.{Fits}
use Rattle.plane_vectors.proofs.Sizes.{sent, sent_same}
use Rattle.scene_reader.proofs.numbers.every_of.Goals as goal

at_most : (m n : ℤ) → is_le (int_cmp m n) ≡ true → m ≤ℤ n
at_most m n h = grind (arith, ints, nat_tests)

ticks_sent : (n first last : ℤ) → first ≡ pos 1 → last ≡ pos 1099511627776 → is_le (int_cmp first n) ≡ true → is_le (int_cmp n last) ≡ true → (pos 0 ≤ℤ sent n) × Fits w64 (nat_abs (sent n))
ticks_sent n first last e f h k =
    let least : pos 1 ≤ℤ n = rw e at (at_most first n h) in
    let most : n ≤ℤ pos 1099511627776 = rw f at (at_most n last k) in
    rw (sent_same n (omega (arith, ints))) (omega (arith, ints), omega (arith, ints))

pub overflow_cast-result : goal.overflow_cast-result
overflow_cast-result c =
    let t = ticks_sent _ _ _ c.new.ensures.start c.new.ensures.end c.if-contains.ensures.cases.0 c.if-contains.ensures.cases.1 in
    (yes_non_neg t.0, t.1)
