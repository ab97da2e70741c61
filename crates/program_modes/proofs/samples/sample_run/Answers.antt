use Rattle.std.proofs.Common.{◌∙◌, ap, sym, subst, refl}
use Rattle.event_rules.specs.declared.outcome.Outcome.{Outcome}
use Rattle.event_rules.proofs.Fits.{outcomes_fit}
use Rattle.run_samples.specs.Samples.{samples}
use Rattle.run_samples.specs.Meaning.{nothing_sampled, sampled_on_loan, IsSampleAwaited}
use Rattle.run_samples.proofs.Awaited.{samples_await}
use Rattle.live_progress.specs.Watching.{pairs_of}
use Rattle.live_progress.proofs.Watches.{watched_awaits}
use Rattle.program_modes.specs.declared.status.Status.{Status}
use Rattle.program_modes.specs.Reports.{IsSampled, status_of}
use Rattle.program_modes.specs.Answers.{Wrote, CountsWrites}
use Rattle.program_modes.specs.Publishes.{PublishesPairs}
use Rattle.program_modes.proofs.Wrote.{broken_wrote}
use Rattle.program_modes.proofs.Published.{ended_published, broken_published}
use Rattle.program_modes.proofs.Sampled.{sampling, makes_samples}
use Rattle.program_modes.proofs.Watched.{told_all, told_part, told_may, broken_counts, given_text, given_counts}
use Rattle.program_modes.proofs.samples.sample_run.Goals as goal

pub run-requires-clause-awaited : goal.run-requires-clause-awaited
run-requires-clause-awaited g c κs within =
    let inner = c.args.watched.now.inner in let scene = c.args.scene.now in
    let K = g.K.Sink in
    λ changes later steps. watched_awaits sampled_on_loan (IsSampleAwaited (λ loan. K.allows loan.1)) _ changes
    (samples_await (λ loan. K.allows loan.1) inner.sample scene (K.taken inner.sink.now) _ changes later c.requires.valid c.requires.first
    (λ all outcome run. c.requires.allowed (samples inner.sample scene all outcome) (status_of outcome) (all, outcome, run, refl, refl)) steps)

pub end-requires-clause-allowed : goal.end-requires-clause-allowed
end-requires-clause-allowed g c =
    let K = g.K.Sink in let inner = c.args.watched.now.inner in let scene = c.args.scene.now in let outcome = c.in-Ok.outcome in
    let start = nothing_sampled inner.sample scene (K.taken inner.sink.now) in
    told_may sampling (samples inner.sample) scene start (makes_samples inner.sample scene (K.taken inner.sink.now) c.requires.valid)
    (λ loan. K.allows loan.1) outcome _ _ _ _ c.in-Ok.ensures.run refl refl c.requires.valid c.requires.unwritten c.requires.first
    (λ changes run. c.requires.allowed (samples inner.sample scene changes outcome) (status_of outcome) (changes, outcome, run, refl, refl))

pub end-requires-clause-outcome : goal.end-requires-clause-outcome
end-requires-clause-outcome g c =
    let run = c.in-Ok.ensures.run in
    outcomes_fit c.args.scene.now run.0 c.in-Ok.outcome c.requires.valid run.1

pub end-requires-clause-scene : goal.end-requires-clause-scene
end-requires-clause-scene g c =
    let K = g.K.Sink in let inner = c.args.watched.now.inner in let scene = c.args.scene.now in
    let start = nothing_sampled inner.sample scene (K.taken inner.sink.now) in
    let told = told_all sampling (samples inner.sample) scene start (makes_samples inner.sample scene (K.taken inner.sink.now) c.requires.valid)
    c.in-Ok.outcome _ _ _ _ c.in-Ok.ensures.run refl refl c.requires.valid c.requires.unwritten c.requires.first in
    told.table

pub returns-in-Ok : goal.returns-in-Ok
returns-in-Ok g c =
    let K = g.K.Sink in let inner = c.args.watched.now.inner in let scene = c.args.scene.now in let end = c.end.ensures in
    let outcome = c.in-Ok.outcome in let status = c.status_at_end.result in let is = c.status_at_end.ensures.status in
    let text = given_text c.end.result _ outcome status is end.writes in
    let start = nothing_sampled inner.sample scene (K.taken inner.sink.now) in
    let told = told_all sampling (samples inner.sample) scene start (makes_samples inner.sample scene (K.taken inner.sink.now) c.requires.valid)
    c.in-Ok.outcome _ _ _ _ c.in-Ok.ensures.run refl refl c.requires.valid c.requires.unwritten c.requires.first in
    let all = ended_published outcome _ _ _ status (pairs_of told.changes) c.run.new.listener.pen.now.list text told.list in record {
      pen_loan = told.pen;
      loan = end.loan ∙ ap (λ l. l.0) told.sink;
      wrote = told.ended _ _ text;
      of_scene = c.status_at_end.ensures.of_scene;
      counts = given_counts c.end.result _ outcome status (K.faults inner.sink.now) is c.in-Ok.ensures.counts end.writes;
      board_kept = told.board;
      published = (told.changes, c.in-Ok.outcome, told.run, all);
    }

pub returns-in-Err : goal.returns-in-Err
returns-in-Err g c =
    let K = g.K.Sink in let inner = c.args.watched.now.inner in let scene = c.args.scene.now in let status = sym c.status_of_fault.ensures.status in
    let after = c.run.new.listener in
    let start = nothing_sampled inner.sample scene (K.taken inner.sink.now) in
    let told = told_part sampling (samples inner.sample) scene start (makes_samples inner.sample scene (K.taken inner.sink.now) c.requires.valid)
    _ _ _ _ _ c.in-Err.ensures.cut_short refl refl c.requires.valid c.requires.unwritten c.requires.first in record {
      pen_loan = told.pen;
      loan = ap (λ l. l.0) told.sink;
      wrote = subst (λ (s : Status). Wrote (IsSampled inner.sample scene) (K.taken inner.sink.now) (K.taken after.inner.sink.now) s)
          status (broken_wrote _ _ _ c.in-Err.fault told.prefix);
      of_scene = c.status_of_fault.ensures.of_scene;
      counts = subst (λ (s : Status). CountsWrites (K.faults inner.sink.now) (K.faults after.inner.sink.now) s)
          status (broken_counts Outcome _ _ _ c.in-Err.fault c.in-Err.ensures.counts refl);
      board_kept = told.board;
      published = (
        told.changes,
        told.outcome,
        told.run,
        subst (λ (s : Status). PublishesPairs (pairs_of told.changes) s after.pen.now.list) status (broken_published c.in-Err.fault _ _ told.list),
      );
    }
