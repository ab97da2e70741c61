-- What a write of a piece does, and which are counted.
use Rattle.std.proofs.Common.{◌∙◌, ap, subst, arith}
use Rattle.std.specs.Io.KnownBytes.{Appends}
use Rattle.report_ports.specs.Counters.{one_more}
use Rattle.report_ports.specs.Ports.{AppendsPrefix}
use Rattle.report_ports.specs.Standard.{WriterData}
use Rattle.report_ports.proofs.Counted.{rises}
use Rattle.report_ports.proofs.standard.StdSinkSink.give.Goals as goal

pub returns-in-Ok-clause-written : goal.returns-in-Ok-clause-written
returns-in-Ok-clause-written g c =
    let after = g.W.Write.contents c.write_whole.new.writer in
    subst (λ (s : WriterData). Appends s.held after c.args.piece.now) c.self.view_is c.in-Ok.ensures.ok

pub returns-in-Err-clause-counts : goal.returns-in-Err-clause-counts
returns-in-Err-clause-counts g c =
    rises c.args.self.now.faults c.self.inside.faults c.saturating_add-self-inside.result
    (ap (λ (s : WriterData). s.faults) c.self.view_is) (omega arith) c.saturating_add-self-inside.ensures

pub returns-in-Err-clause-faults : goal.returns-in-Err-clause-faults
returns-in-Err-clause-faults g c =
    c.saturating_add-self-inside.ensures ∙ ap (λ (s : WriterData). one_more s.faults) c.self.view_is

pub returns-in-Err-clause-written : goal.returns-in-Err-clause-written
returns-in-Err-clause-written g c =
    let after = g.W.Write.contents c.write_whole.new.writer in
    subst (λ (s : WriterData). AppendsPrefix s.held after c.args.piece.now) c.self.view_is c.in-Err.ensures.err
