-- The numbers have 64 bits.
use Rattle.plane_vectors.specs.Vectors.{dot}
use Rattle.contact_predictor.proofs.Wrapped.{exact, difference_exact}
use Rattle.contact_predictor.proofs.approach.Approach.new.Goals as goal

pub returns : goal.returns
returns c = λ fits. record {
  square = exact c.wrapping_dot.result (dot c.args.u c.args.u) fits.square c.wrapping_dot.ensures;
  closing = exact c.wrapping_dot-2.result (dot c.args.r c.args.u) fits.closing c.wrapping_dot-2.ensures;
  gap = difference_exact c.wrapping_dot-3.result (dot c.args.r c.args.r) c.args.distance c.ranges.distance c.wrapping_dot-3.ensures fits.gap;
}
