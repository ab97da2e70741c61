use Rattle.std.proofs.Common.{sym, subst}
use Rattle.command_words.specs.declared.settings.OutputFormat.{OutputFormat}
use Rattle.program_modes.specs.Output.{IsShownRun}
use Rattle.program_modes.specs.Answers.{Wrote, MayWrite}
use Rattle.program_modes.proofs.showing.write_run.Goals as goal

pub returns-in-Lines-clause-wrote : goal.returns-in-Lines-clause-wrote
returns-in-Lines-clause-wrote g c = let K = g.K.Sink in
    subst (λ (format : OutputFormat). Wrote (IsShownRun format c.args.settings.now.margin c.args.scene.now)
    (K.taken c.args.sink.now) (K.taken c.write_report.new.sink) c.write_report.result) (sym c.in-Lines.is) c.write_report.ensures.wrote

pub write_report-requires-clause-allowed : goal.write_report-requires-clause-allowed
write_report-requires-clause-allowed g c κs within = let K = g.K.Sink in
    subst (λ (format : OutputFormat). MayWrite (IsShownRun format c.args.settings.now.margin c.args.scene.now)
    (K.allows (K.lasting c.args.sink.now)) (K.taken c.args.sink.now)) c.in-Lines.is c.requires.allowed

pub returns-in-Summary-clause-wrote : goal.returns-in-Summary-clause-wrote
returns-in-Summary-clause-wrote g c = let K = g.K.Sink in
    subst (λ (format : OutputFormat). Wrote (IsShownRun format c.args.settings.now.margin c.args.scene.now)
    (K.taken c.args.sink.now) (K.taken c.write_report-in-Summary.new.sink) c.write_report-in-Summary.result) (sym c.in-Summary.is) c.write_report-in-Summary.ensures.wrote

pub write_report-requires-in-Summary-clause-allowed : goal.write_report-requires-in-Summary-clause-allowed
write_report-requires-in-Summary-clause-allowed g c κs within = let K = g.K.Sink in
    subst (λ (format : OutputFormat). MayWrite (IsShownRun format c.args.settings.now.margin c.args.scene.now)
    (K.allows (K.lasting c.args.sink.now)) (K.taken c.args.sink.now)) c.in-Summary.is c.requires.allowed

pub returns-in-States-clause-wrote : goal.returns-in-States-clause-wrote
returns-in-States-clause-wrote g c = let K = g.K.Sink in
    subst (λ (format : OutputFormat). Wrote (IsShownRun format c.args.settings.now.margin c.args.scene.now)
    (K.taken c.args.sink.now) (K.taken c.write_samples.new.sink) c.write_samples.result) (sym c.in-States.is) c.write_samples.ensures.wrote

pub write_samples-requires-clause-allowed : goal.write_samples-requires-clause-allowed
write_samples-requires-clause-allowed g c κs within = let K = g.K.Sink in
    subst (λ (format : OutputFormat). MayWrite (IsShownRun format c.args.settings.now.margin c.args.scene.now)
    (K.allows (K.lasting c.args.sink.now)) (K.taken c.args.sink.now)) c.in-States.is c.requires.allowed

pub returns-in-Sums-clause-wrote : goal.returns-in-Sums-clause-wrote
returns-in-Sums-clause-wrote g c = let K = g.K.Sink in
    subst (λ (format : OutputFormat). Wrote (IsShownRun format c.args.settings.now.margin c.args.scene.now)
    (K.taken c.args.sink.now) (K.taken c.write_samples-in-Sums.new.sink) c.write_samples-in-Sums.result) (sym c.in-Sums.is) c.write_samples-in-Sums.ensures.wrote

pub write_samples-requires-in-Sums-clause-allowed : goal.write_samples-requires-in-Sums-clause-allowed
write_samples-requires-in-Sums-clause-allowed g c κs within = let K = g.K.Sink in
    subst (λ (format : OutputFormat). MayWrite (IsShownRun format c.args.settings.now.margin c.args.scene.now)
    (K.allows (K.lasting c.args.sink.now)) (K.taken c.args.sink.now)) c.in-Sums.is c.requires.allowed
