-- What a read gives, and which reads are counted.
use Rattle.std.proofs.Common.{◌∙◌, ap, subst, take, arith}
use Rattle.std.specs.Io.KnownBytes.{Consumes, Keeps, IsAtEnd}
use Rattle.report_ports.specs.Counters.{one_more}
use Rattle.report_ports.specs.Standard.{ReaderData}
use Rattle.report_ports.proofs.Answered.{at_least_one, ended}
use Rattle.report_ports.proofs.Counted.{rises}
use Rattle.report_ports.proofs.standard.StdSourceSource.take.Goals as goal

pub returns-in-Ok-eq0-clause-read : goal.returns-in-Ok-eq0-clause-read
returns-in-Ok-eq0-clause-read g c =
    let after = g.R.Read.remaining c.read.new.reader in
    let bytes = c.in-Ok-eq0.ensures.bytes in
    let none = c.in-Ok-eq0.field-0-test in
    subst (λ (s : ReaderData). IsAtEnd s.left × Keeps s.left after) c.self.view_is
    (ended _ after c.in-Ok-eq0.field-0 c.read.new.into none bytes.0 (bytes.1 none (omega arith)))

pub returns-in-Ok-clause-counts : goal.returns-in-Ok-clause-counts
returns-in-Ok-clause-counts g c = ap (λ (s : ReaderData). s.faults) c.self.view_is

pub returns-in-Ok-clause-faults : goal.returns-in-Ok-clause-faults
returns-in-Ok-clause-faults g c = ap (λ (s : ReaderData). s.faults) c.self.view_is

pub returns-in-Ok-clause-read : goal.returns-in-Ok-clause-read
returns-in-Ok-clause-read g c =
    let after = g.R.Read.remaining c.read.new.reader in (
      at_least_one c.in-Ok.count c.in-Ok.count-test.1,
      c.in-Ok.ensures.bound.0,
      subst (λ (s : ReaderData). Consumes s.left after (take c.in-Ok.count c.read.new.into)) c.self.view_is c.in-Ok.ensures.bytes.0,
    )

pub returns-in-Err-clause-counts : goal.returns-in-Err-clause-counts
returns-in-Err-clause-counts g c =
    rises c.args.self.now.faults c.self.inside.faults c.saturating_add-self-inside.result
    (ap (λ (s : ReaderData). s.faults) c.self.view_is) (omega arith) c.saturating_add-self-inside.ensures

pub returns-in-Err-clause-faults : goal.returns-in-Err-clause-faults
returns-in-Err-clause-faults g c =
    c.saturating_add-self-inside.ensures ∙ ap (λ (s : ReaderData). one_more s.faults) c.self.view_is

pub returns-in-Err-clause-read : goal.returns-in-Err-clause-read
returns-in-Err-clause-read g c =
    let after = g.R.Read.remaining c.read.new.reader in
    subst (λ (s : ReaderData). Keeps s.left after) c.self.view_is c.in-Err.ensures.bytes
