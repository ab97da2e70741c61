use Rattle.std.proofs.Common.{FitsSigned, w64, rules}
use Rattle.fixed_motion.proofs.Places.{half_sent}
use Rattle.fixed_motion.proofs.disk.Disk.radius.Goals as goal

pub returns-clause-value : goal.returns-clause-value
returns-clause-value c = let fits : FitsSigned w64 c.args.self.now.size = search rules in (half_sent c.args.self.now.size fits).0

pub returns-clause-size : goal.returns-clause-size
returns-clause-size c =
    let fits : FitsSigned w64 c.args.self.now.size = search rules in
    rw (returns-clause-value c) (half_sent c.args.self.now.size fits).1
