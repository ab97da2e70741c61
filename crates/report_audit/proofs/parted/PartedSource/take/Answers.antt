use Rattle.std.proofs.Common.{refl}
use Rattle.report_audit.specs.Parting.{all_left}
use Rattle.report_audit.proofs.Fronts.{front_ended}
use Rattle.report_audit.proofs.parted.PartedSource.take.Goals as goal

pub returns-in-Met-clause-takes : goal.returns-in-Met-clause-takes
returns-in-Met-clause-takes g c =
    front_ended c.args.self.now.stage (all_left c.args.self.now.ahead (g.S.Source.left c.args.self.now.source.now)) c.in-Met.is

pub returns-in-Met-clause-lasts : goal.returns-in-Met-clause-lasts
returns-in-Met-clause-lasts g c = refl
