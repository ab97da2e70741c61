use Rattle.std.proofs.Common.{◌∙◌, ℕ, ap, sym, subst}
use Rattle.collision_report.specs.Meaning.{TableData}
use Rattle.run_samples.specs.declared.sample.Sample.{Sample}
use Rattle.run_samples.specs.Samples.{samples}
use Rattle.run_samples.specs.Meaning.{SampledSoFar, nothing_sampled}
use Rattle.live_progress.specs.Lists.{Known}
use Rattle.program_modes.specs.declared.status.Status.TheVariants.{NoMemory}
use Rattle.program_modes.specs.Reports.{IsSampled}
use Rattle.program_modes.specs.Answers.{Wrote, MayWrite, CountsWrites}
use Rattle.program_modes.specs.Publishes.{PublishesRun}
use Rattle.program_modes.proofs.Writers.{unwritten}
use Rattle.program_modes.proofs.Published.{run_unpublished}
use Rattle.program_modes.proofs.samples.write_samples.Goals as goal

pub returns-in_default-clause-wrote : goal.returns-in_default-clause-wrote
returns-in_default-clause-wrote g c = unwritten (samples c.args.sample) c.args.scene.now (g.K.Sink.taken c.args.sink.now) c.count-count.ensures.valid

pub returns-in_default-clause-published : goal.returns-in_default-clause-published
returns-in_default-clause-published g c = run_unpublished c.args.scene.now NoMemory c.args.pen.now.list c.count-count.ensures.valid tt c.requires.unwritten

pub sample_run-requires-clause-first : goal.sample_run-requires-clause-first
sample_run-requires-clause-first g c κs within =
    let K = g.K.Sink in
    let meaning = c.new-sampler.ensures.meaning in
    let start = nothing_sampled c.args.sample c.args.scene.now (K.taken c.args.sink.now) in
    let table = ap (λ (t : TableData). record start { table = t }) c.in-Ok.ensures in
    let sample = ap (λ (m : SampledSoFar). m.sample) meaning in
    let taken = ap (λ (m : SampledSoFar). m.taken) meaning in
    meaning ∙ table ∙ (λ i. nothing_sampled (sym sample i) c.args.scene.now (sym taken i))

pub sample_run-requires-clause-allowed : goal.sample_run-requires-clause-allowed
sample_run-requires-clause-allowed g c κs within =
    let K = g.K.Sink in
    let same = ap (λ (m : SampledSoFar). m.sample) c.new-sampler.ensures.meaning in
    subst (λ (sample : Sample). MayWrite (IsSampled sample c.args.scene.now) (K.allows (K.lasting c.new-sampler.result.sink.now)) (K.taken c.new-sampler.result.sink.now))
    (sym same)
    (subst (λ sink. MayWrite (IsSampled c.args.sample c.args.scene.now) (K.allows (K.lasting sink)) (K.taken sink))
    (sym c.new-sampler.ensures.sink) c.requires.allowed)

pub returns-clause-wrote : goal.returns-clause-wrote
returns-clause-wrote g c =
    let K = g.K.Sink in let scene = c.args.scene.now in
    let kept = c.sample_run.ensures.loan ∙ c.new-sampler.ensures.loan in
    let last = c.sink-1.given.1 (sym kept) in
    subst (λ v. Wrote (IsSampled c.args.sample scene) (K.taken c.args.sink.now) (K.taken v) c.sample_run.result) (sym last)
    (subst (λ (m : SampledSoFar). Wrote (IsSampled m.sample scene) m.taken (K.taken c.sample_run.new.watched.inner.sink.now) c.sample_run.result)
    c.new-sampler.ensures.meaning c.sample_run.ensures.wrote)

pub returns-clause-counts : goal.returns-clause-counts
returns-clause-counts g c =
    let K = g.K.Sink in
    let kept = c.sample_run.ensures.loan ∙ c.new-sampler.ensures.loan in
    let last = c.sink-1.given.1 (sym kept) in
    subst (λ v. CountsWrites (K.faults c.args.sink.now) (K.faults v) c.sample_run.result) (sym last)
    (subst (λ (n : ℕ). CountsWrites n (K.faults c.sample_run.new.watched.inner.sink.now) c.sample_run.result)
    (ap K.faults c.new-sampler.ensures.sink) c.sample_run.ensures.counts)

pub returns-clause-board_kept : goal.returns-clause-board_kept
returns-clause-board_kept g c =
    let last = c.pen-1.given.1 (sym c.sample_run.ensures.pen_loan) in
    ap (λ (k : Known). k.board) last ∙ c.sample_run.ensures.board_kept

pub returns-clause-published : goal.returns-clause-published
returns-clause-published g c =
    let last = c.pen-1.given.1 (sym c.sample_run.ensures.pen_loan) in
    subst (λ (k : Known). PublishesRun c.args.scene.now c.sample_run.result k.list) (sym last) c.sample_run.ensures.published
