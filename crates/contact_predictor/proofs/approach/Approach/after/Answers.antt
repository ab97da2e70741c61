-- To wrap on the way changes nothing.
use Rattle.std.proofs.Common.{rules, ◌≡◌, ◌+◌, ◌%◌, ap, sym, subst, ◌∙◌, arith, FitsSigned, to_z, of_z}
use Rattle.std.specs.Prelude.{ℤ, ◌+ℤ◌, ◌*ℤ◌}
use Rattle.std.specs.Int.{int_wrap, w64}
use Rattle.std.proofs.lemmas.Int.{ints, wraps, to_z-of_z, SFits-int_wrap}
use Rattle.plane_vectors.proofs.Sizes.{sent_same}
use Rattle.contact_predictor.specs.Approach.{closing_after}
use Rattle.contact_predictor.proofs.Wrapped.{wrapped_gap}
use Rattle.contact_predictor.proofs.approach.Approach.after.Goals as goal

pub returns-clause-closing : goal.returns-clause-closing
returns-clause-closing c =
    let q = c.args.self in
    let fa : FitsSigned w64 c.args.self.square = search rules in
    let fb : FitsSigned w64 c.args.self.closing = search rules in
    let ft : FitsSigned w64 c.args.ticks = c.ranges.ticks in
    let closing : c.wrapping_line-closing.result ≡ int_wrap w64 (closing_after q c.args.ticks) = simp to_z-of_z at c.wrapping_line-closing.ensures in
    let fits : FitsSigned w64 c.wrapping_line-closing.result = omega (arith, ints, c.wrapping_line-closing.type_inv) in
    sent_same c.wrapping_line-closing.result fits ∙ closing

pub returns-clause-gap : goal.returns-clause-gap
returns-clause-gap c =
    let q = c.args.self in
    let closing = c.wrapping_line-closing.result in
    let fa : FitsSigned w64 c.args.self.square = search rules in
    let fb : FitsSigned w64 c.args.self.closing = search rules in
    let fc : FitsSigned w64 c.args.self.gap = search rules in
    let ft : FitsSigned w64 c.args.ticks = c.ranges.ticks in
    let fl : FitsSigned w64 c.wrapping_line-closing.result = omega (arith, ints, c.wrapping_line-closing.type_inv) in
    let fits : FitsSigned w64 c.wrapping_line.result = omega (arith, ints, c.wrapping_line.type_inv) in
    let is : c.wrapping_line-closing.result ≡ int_wrap w64 (closing_after q c.args.ticks) = simp to_z-of_z at c.wrapping_line-closing.ensures in
    let slope : to_z w64 ((of_z w64 q.closing + of_z w64 closing) % 18446744073709551616) ≡ int_wrap w64 (q.closing +ℤ closing) = search (rules, wraps) in
    let fs : FitsSigned w64 (to_z w64 ((of_z w64 q.closing + of_z w64 closing) % 18446744073709551616)) =
    subst (λ (k : ℤ). FitsSigned w64 k) (sym slope) (SFits-int_wrap w64 (q.closing +ℤ closing)) in
    let told : c.wrapping_line.result ≡ int_wrap w64 (q.gap +ℤ (to_z w64 ((of_z w64 q.closing + of_z w64 closing) % 18446744073709551616) *ℤ c.args.ticks)) =
    simp to_z-of_z at c.wrapping_line.ensures in
    sent_same c.wrapping_line.result fits ∙ told
    ∙ wrapped_gap q.gap q.closing (closing_after q c.args.ticks) (to_z w64 ((of_z w64 q.closing + of_z w64 closing) % 18446744073709551616)) c.args.ticks
    (slope ∙ ap (λ (n : ℤ). int_wrap w64 (q.closing +ℤ n)) is)

pub returns-clause-square : goal.returns-clause-square
returns-clause-square c = to_z-of_z w64 c.args.self.square (search rules)
