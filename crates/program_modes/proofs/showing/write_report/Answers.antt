use Rattle.std.proofs.Common.{◌∙◌, ℕ, ap, sym, subst}
use Rattle.collision_report.specs.declared.format.Format.{Format}
use Rattle.collision_report.specs.Report.{report}
use Rattle.collision_report.specs.Meaning.{TableData, ReportSoFar, so_far, nothing_yet}
use Rattle.live_progress.specs.Lists.{Known}
use Rattle.program_modes.specs.declared.status.Status.TheVariants.{NoMemory}
use Rattle.program_modes.specs.Reports.{IsReport}
use Rattle.program_modes.specs.Answers.{Wrote, MayWrite, CountsWrites}
use Rattle.program_modes.specs.Publishes.{PublishesRun}
use Rattle.program_modes.proofs.Writers.{unwritten}
use Rattle.program_modes.proofs.Published.{run_unpublished}
use Rattle.program_modes.proofs.showing.write_report.Goals as goal

pub returns-in_default-clause-wrote : goal.returns-in_default-clause-wrote
returns-in_default-clause-wrote g c = unwritten (report c.args.format) c.args.scene.now (g.K.Sink.taken c.args.sink.now) c.count-count.ensures.valid

pub returns-in_default-clause-published : goal.returns-in_default-clause-published
returns-in_default-clause-published g c = run_unpublished c.args.scene.now NoMemory c.args.pen.now.list c.count-count.ensures.valid tt c.requires.unwritten

pub report_run-requires-clause-first : goal.report_run-requires-clause-first
report_run-requires-clause-first g c κs within =
    let K = g.K.Sink in
    let meaning = c.new-reporter.ensures.meaning in
    let table = ap (λ (t : TableData). so_far c.args.format t (K.taken c.args.sink.now) 0 0) c.in-Ok.ensures in
    let format = ap (λ (m : ReportSoFar). m.format) meaning in
    let taken = ap (λ (m : ReportSoFar). m.taken) meaning in
    meaning ∙ table ∙ (λ i. nothing_yet (sym format i) c.args.scene.now (sym taken i))

pub returns-clause-wrote : goal.returns-clause-wrote
returns-clause-wrote g c =
    let K = g.K.Sink in let scene = c.args.scene.now in
    let kept = c.report_run.ensures.loan ∙ c.new-reporter.ensures.loan in
    let last = c.sink-1.given.1 (sym kept) in
    subst (λ v. Wrote (IsReport c.args.format scene) (K.taken c.args.sink.now) (K.taken v) c.report_run.result) (sym last)
    (subst (λ (m : ReportSoFar). Wrote (IsReport m.format scene) m.taken (K.taken c.report_run.new.watched.inner.sink.now) c.report_run.result)
    c.new-reporter.ensures.meaning c.report_run.ensures.wrote)

pub returns-clause-counts : goal.returns-clause-counts
returns-clause-counts g c =
    let K = g.K.Sink in
    let kept = c.report_run.ensures.loan ∙ c.new-reporter.ensures.loan in
    let last = c.sink-1.given.1 (sym kept) in
    subst (λ v. CountsWrites (K.faults c.args.sink.now) (K.faults v) c.report_run.result) (sym last)
    (subst (λ (n : ℕ). CountsWrites n (K.faults c.report_run.new.watched.inner.sink.now) c.report_run.result)
    (ap K.faults c.new-reporter.ensures.sink) c.report_run.ensures.counts)

pub returns-clause-lasts : goal.returns-clause-lasts
returns-clause-lasts g c =
    let K = g.K.Sink in
    let kept = c.report_run.ensures.loan ∙ c.new-reporter.ensures.loan in
    ap K.lasting (c.sink-1.given.1 (sym kept)) ∙ c.report_run.ensures.lasts ∙ ap K.lasting c.new-reporter.ensures.sink

pub returns-clause-board_kept : goal.returns-clause-board_kept
returns-clause-board_kept g c =
    let kept = c.report_run.ensures.pen_loan in
    let last = c.pen-1.given.1 (sym kept) in
    ap (λ (k : Known). k.board) last ∙ c.report_run.ensures.board_kept

pub returns-clause-published : goal.returns-clause-published
returns-clause-published g c =
    let kept = c.report_run.ensures.pen_loan in
    let last = c.pen-1.given.1 (sym kept) in
    subst (λ (k : Known). PublishesRun c.args.scene.now c.report_run.result k.list) (sym last) c.report_run.ensures.published

pub report_run-requires-clause-allowed : goal.report_run-requires-clause-allowed
report_run-requires-clause-allowed g c κs within =
    let K = g.K.Sink in
    let format = ap (λ (m : ReportSoFar). m.format) c.new-reporter.ensures.meaning in
    subst (λ (format : Format). MayWrite (IsReport format c.args.scene.now) (K.allows (K.lasting c.new-reporter.result.sink.now)) (K.taken c.new-reporter.result.sink.now))
    (sym format)
    (subst (λ sink. MayWrite (IsReport c.args.format c.args.scene.now) (K.allows (K.lasting sink)) (K.taken sink))
    (sym c.new-reporter.ensures.sink) c.requires.allowed)
