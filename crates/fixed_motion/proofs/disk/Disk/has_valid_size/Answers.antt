use Rattle.std.proofs.Common.{FitsSigned, w64, rules}
use Rattle.std.proofs.lemmas.Int.{to_z-of_z}
use Rattle.fixed_motion.proofs.Ranges.{size_tested}
use Rattle.fixed_motion.proofs.disk.Disk.has_valid_size.Goals as goal

pub returns-clause-test : goal.returns-clause-test
returns-clause-test c =
    let most : FitsSigned w64 c.args.rules.now.diameter = search rules in
    let size : FitsSigned w64 c.args.self.now.size = search rules in
    simp to_z-of_z at c.is_size.ensures

pub returns-clause-fact : goal.returns-clause-fact
returns-clause-fact c = size_tested c.args.rules.now c.args.self.now.size _ (returns-clause-test c)
