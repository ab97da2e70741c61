-- The double and the sum are exact.
use Rattle.plane_vectors.specs.declared.Vector.{Vector}
use Rattle.plane_vectors.specs.Vectors.{dot, IsWithin}
use Rattle.std.proofs.Common.{◌^◌}
use Rattle.impulse_rounding.proofs.Signed.{dot_bound, IsExactSum, sum_exact}
use Rattle.impulse_rounding.proofs.parting_speed.Goals as goal

exact : (r u j : Vector) → IsWithin (2 ^ 30) r → IsWithin (2 ^ 30) u → IsWithin (2 ^ 30) j →
    IsExactSum (dot r u) (dot r j)
exact r u j hr hu hj = sum_exact (dot r u) (dot r j) (dot_bound r u hr hu) (dot_bound r j hr hj)

pub overflow_mul-result : goal.overflow_mul-result
overflow_mul-result c =
    rw c.dot-2.ensures.value (exact c.args.r c.args.u c.args.impulse
    c.requires.r_size c.requires.u_size c.requires.impulse_size).twice_fits

pub overflow_add-result : goal.overflow_add-result
overflow_add-result c =
    rw (c.dot.ensures.value, c.dot-2.ensures.value) (exact c.args.r c.args.u c.args.impulse
    c.requires.r_size c.requires.u_size c.requires.impulse_size).sum_fits

pub returns : goal.returns
returns c =
    rw (c.dot.ensures.value, c.dot-2.ensures.value) (exact c.args.r c.args.u c.args.impulse
    c.requires.r_size c.requires.u_size c.requires.impulse_size).value
