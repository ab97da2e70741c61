-- This is told of each component.
use Rattle.std.proofs.Common.{rules, ◌≡◌, ◌+◌, ◌-◌, ◌%◌, FitsSigned, to_z, of_z}
use Rattle.std.specs.Prelude.{ℤ, ◌-ℤ◌}
use Rattle.std.specs.Int.{int_wrap, w64}
use Rattle.std.proofs.lemmas.Int.{wraps}
use Rattle.plane_vectors.specs.Vectors.{vector}
use Rattle.event_rules.proofs.separation.wrapping_difference.Goals as goal

each : (m n : ℤ) → FitsSigned w64 m → FitsSigned w64 n →
    to_z w64 ((of_z w64 m + (18446744073709551616 - of_z w64 n)) % 18446744073709551616) ≡ int_wrap w64 (m -ℤ n)
each m n f g = search (rules, wraps)

pub returns : goal.returns
returns c =
    let ux : FitsSigned w64 c.args.u.x = search rules in
    let uy : FitsSigned w64 c.args.u.y = search rules in
    let vx : FitsSigned w64 c.args.v.x = search rules in
    let vy : FitsSigned w64 c.args.v.y = search rules in
    let x = each c.args.u.x c.args.v.x ux vx in
    let y = each c.args.u.y c.args.v.y uy vy in
    λ i. vector (x i) (y i)
