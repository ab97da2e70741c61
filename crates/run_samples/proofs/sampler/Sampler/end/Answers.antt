-- The samples that are due, and then the end.
use Rattle.std.proofs.Common.{ℕ, ap, refl, sym}
use Rattle.event_rules.specs.Laws.{last_tick}
use Rattle.collision_report.specs.declared.format.Format.TheVariants.{Summary}
use Rattle.collision_report.specs.Report.{end_block}
use Rattle.collision_report.proofs.Pieces.{writes_next, writes_stopped, may_begin, may_go_on}
use Rattle.run_samples.specs.declared.sample.Sample.{Sample}
use Rattle.run_samples.specs.Samples.{sampled_end, last_sums}
use Rattle.run_samples.specs.Meaning.{due_samples}
use Rattle.run_samples.proofs.sampler.Sampler.end.Goals as goal

pub returns-in_err-write_samples-clause-writes : goal.returns-in_err-write_samples-clause-writes
returns-in_err-write_samples-clause-writes g c = let K = g.K.Sink in
    let scene = c.args.scene.now in let outcome = c.args.outcome.now in let r = c.args.self.now in
    let due = λ (tick : ℕ). due_samples r.sample r.table.now r.sums tick in
    writes_stopped {taken = K.taken} {faults = K.faults} {lasting = K.lasting} (due (last_tick scene outcome)) (sampled_end r.sample scene r.sums outcome r.walls r.pairs)
    c.from_residual.ensures.0 (ap due c.last_tick-tick.ensures) c.in_err-write_samples.ensures

pub returns-in-States-clause-writes : goal.returns-in-States-clause-writes
returns-in-States-clause-writes g c = let K = g.K.Sink in
    let scene = c.args.scene.now in let outcome = c.args.outcome.now in let r = c.args.self.now in
    let due = λ (tick : ℕ). due_samples r.sample r.table.now r.sums tick in
    let end = λ (sample : Sample). sampled_end sample scene r.sums outcome r.walls r.pairs in
    writes_next {taken = K.taken} {faults = K.faults} {lasting = K.lasting} (due (last_tick scene outcome)) (end r.sample)
    (ap due c.last_tick-tick.ensures) (ap end (sym c.in-States.is)) c.in_ok-write_samples.ensures c.write_end.ensures

pub returns-in_err-write_end-in-Sums-clause-writes : goal.returns-in_err-write_end-in-Sums-clause-writes
returns-in_err-write_end-in-Sums-clause-writes g c = let K = g.K.Sink in
    let scene = c.args.scene.now in let outcome = c.args.outcome.now in let r = c.args.self.now in
    let due = λ (tick : ℕ). due_samples r.sample r.table.now r.sums tick in
    let end = λ (sample : Sample). sampled_end sample scene r.sums outcome r.walls r.pairs in
    writes_next {taken = K.taken} {faults = K.faults} {lasting = K.lasting} (due (last_tick scene outcome)) (end r.sample)
    (ap due c.last_tick-tick.ensures) (ap end (sym c.in-Sums.is)) c.in_ok-write_samples.ensures
    (writes_stopped (end_block Summary scene outcome r.walls r.pairs) (last_sums scene.rules c.in-Sums.margin r.sums outcome)
    c.from_residual-in_err-write_end-in-Sums.ensures.0 refl c.in_err-write_end-in-Sums.ensures)

pub returns-in_ok-write_end-in-Sums-clause-writes : goal.returns-in_ok-write_end-in-Sums-clause-writes
returns-in_ok-write_end-in-Sums-clause-writes g c = let K = g.K.Sink in
    let scene = c.args.scene.now in let outcome = c.args.outcome.now in let r = c.args.self.now in
    let due = λ (tick : ℕ). due_samples r.sample r.table.now r.sums tick in
    let end = λ (sample : Sample). sampled_end sample scene r.sums outcome r.walls r.pairs in
    writes_next {taken = K.taken} {faults = K.faults} {lasting = K.lasting} (due (last_tick scene outcome)) (end r.sample)
    (ap due c.last_tick-tick.ensures) (ap end (sym c.in-Sums.is)) c.in_ok-write_samples.ensures
    (writes_next (end_block Summary scene outcome r.walls r.pairs) (last_sums scene.rules c.in-Sums.margin r.sums outcome)
    refl refl c.in_ok-write_end-in-Sums.ensures c.write_last.ensures)

pub write_samples-requires : goal.write_samples-requires
write_samples-requires g c = let K = g.K.Sink in
    let scene = c.args.scene.now in let outcome = c.args.outcome.now in let r = c.args.self.now in
    let due = λ (tick : ℕ). due_samples r.sample r.table.now r.sums tick in
    may_begin (K.allows (K.lasting r.sink.now)) (K.taken r.sink.now) (due (last_tick scene outcome)) (sampled_end r.sample scene r.sums outcome r.walls r.pairs)
    (ap due c.last_tick-tick.ensures) refl c.requires.allowed

pub write_end-requires-clause-allowed : goal.write_end-requires-clause-allowed
write_end-requires-clause-allowed g c = let K = g.K.Sink in
    let scene = c.args.scene.now in let outcome = c.args.outcome.now in let r = c.args.self.now in
    let due = λ (tick : ℕ). due_samples r.sample r.table.now r.sums tick in
    let end = λ (sample : Sample). sampled_end sample scene r.sums outcome r.walls r.pairs in
    may_go_on {faults = K.faults} K.allows (due (last_tick scene outcome)) (end r.sample)
    (ap due c.last_tick-tick.ensures) (ap end (sym c.in-States.is)) refl c.in_ok-write_samples.ensures c.requires.allowed

pub write_end-requires-in-Sums-clause-allowed : goal.write_end-requires-in-Sums-clause-allowed
write_end-requires-in-Sums-clause-allowed g c = let K = g.K.Sink in
    let scene = c.args.scene.now in let outcome = c.args.outcome.now in let r = c.args.self.now in
    let due = λ (tick : ℕ). due_samples r.sample r.table.now r.sums tick in
    let end = λ (sample : Sample). sampled_end sample scene r.sums outcome r.walls r.pairs in
    may_begin (K.allows (K.lasting c.write_samples.new.sink)) (K.taken c.write_samples.new.sink) (end_block Summary scene outcome r.walls r.pairs) (last_sums scene.rules c.in-Sums.margin r.sums outcome) refl refl
    (may_go_on {faults = K.faults} K.allows (due (last_tick scene outcome)) (end r.sample)
    (ap due c.last_tick-tick.ensures) (ap end (sym c.in-Sums.is)) refl c.in_ok-write_samples.ensures c.requires.allowed)

pub write_last-requires-clause-allowed : goal.write_last-requires-clause-allowed
write_last-requires-clause-allowed g c = let K = g.K.Sink in
    let scene = c.args.scene.now in let outcome = c.args.outcome.now in let r = c.args.self.now in
    let due = λ (tick : ℕ). due_samples r.sample r.table.now r.sums tick in
    let end = λ (sample : Sample). sampled_end sample scene r.sums outcome r.walls r.pairs in
    may_go_on {faults = K.faults} K.allows (end_block Summary scene outcome r.walls r.pairs) (last_sums scene.rules c.in-Sums.margin r.sums outcome) refl refl refl
    c.in_ok-write_end-in-Sums.ensures
    (may_go_on {faults = K.faults} K.allows (due (last_tick scene outcome)) (end r.sample)
    (ap due c.last_tick-tick.ensures) (ap end (sym c.in-Sums.is)) refl c.in_ok-write_samples.ensures c.requires.allowed)
