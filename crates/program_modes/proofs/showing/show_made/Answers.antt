use Rattle.program_modes.specs.declared.status.Status.TheVariants.{NoMemory}
use Rattle.program_modes.specs.Output.{OfMade, IsShownRun}
use Rattle.program_modes.proofs.OneOutput.{one_of_made}
use Rattle.program_modes.proofs.Wrote.{as_wrote, kept, wrote_nothing}
use Rattle.program_modes.proofs.Published.{made_unpublished}
use Rattle.program_modes.proofs.showing.show_made.Goals as goal

pub returns-clause-wrote : goal.returns-clause-wrote
returns-clause-wrote g c = let K = g.K.Sink in
    let settings = c.args.settings.now in let scene = c.in-Ok.scene in let shown = IsShownRun settings.format settings.margin in
    as_wrote (shown scene) (OfMade settings.number settings.disks shown)
    (λ text status h. (scene, c.in-Ok.ensures, h)) (K.taken c.args.sink.now) (K.taken c.write_run.new.sink) c.write_run.result c.write_run.ensures.wrote

pub returns-in_default-clause-wrote : goal.returns-in_default-clause-wrote
returns-in_default-clause-wrote g c = let K = g.K.Sink in
    let settings = c.args.settings.now in
    let one = one_of_made settings c.requires.ranges in
    wrote_nothing (OfMade settings.number settings.disks (IsShownRun settings.format settings.margin)) one.0 one.1 (K.taken c.args.sink.now) (K.taken c.args.sink.now)
    one.2 (kept (K.taken c.args.sink.now))

pub returns-in_default-clause-published : goal.returns-in_default-clause-published
returns-in_default-clause-published g c = made_unpublished c.args.settings.now c.requires.ranges NoMemory c.args.pen.now.list tt c.requires.unwritten

pub write_run-requires-clause-allowed : goal.write_run-requires-clause-allowed
write_run-requires-clause-allowed g c κs within =
    λ text own h. c.requires.allowed text own (c.in-Ok.scene, c.in-Ok.ensures, h)
