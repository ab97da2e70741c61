-- The test is exact.
use Rattle.std.proofs.Common.{rules, refl}
use Rattle.contact_predictor.proofs.Signs.{negative}
use Rattle.contact_predictor.proofs.approach.Approach.overlap.Goals as goal

pub returns : goal.returns
returns c = negative c.args.self.gap c.args.self.gap (search rules) refl
