use Rattle.collision_report.specs.declared.format.Format.TheVariants.{Lines}
use Rattle.collision_report.specs.Report.{report}
use Rattle.program_modes.proofs.Writers.{unwritten}
use Rattle.program_modes.proofs.auditing.write_unwatched.Goals as goal

pub returns-in_default-clause-wrote : goal.returns-in_default-clause-wrote
returns-in_default-clause-wrote g c = unwritten (report Lines) c.args.scene.now (g.K.Sink.taken c.args.sink.now) c.count-count.ensures.valid
