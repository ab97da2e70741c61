-- The numbers have 64 bits.
use Rattle.std.proofs.Common.{ap, sym, subst, ◌∙◌, ◌<◌, ◌^◌}
use Rattle.std.specs.Prelude.{ℤ, nat_abs, ◌-ℤ◌}
use Rattle.plane_vectors.specs.Vectors.{dot}
use Rattle.contact_predictor.proofs.Wrapped.{exact, less_exact}
use Rattle.contact_predictor.proofs.approach.Approach.of_square.Goals as goal

pub returns : goal.returns
returns c = λ distance is fits. record {
  square = exact c.wrapping_dot.result (dot c.args.u c.args.u) fits.square c.wrapping_dot.ensures;
  closing = exact c.wrapping_dot-2.result (dot c.args.r c.args.u) fits.closing c.wrapping_dot-2.ensures;
  gap = less_exact c.wrapping_dot-3.result (dot c.args.r c.args.r) c.args.square c.ranges.square c.wrapping_dot-3.ensures
      (subst (λ (k : ℤ). nat_abs (dot c.args.r c.args.r -ℤ k) < 2 ^ 63) (sym is) fits.gap)
      ∙ ap (λ (k : ℤ). dot c.args.r c.args.r -ℤ k) is;
}
