use Rattle.std.proofs.Common.{◌∙◌, Err, sym, subst}
use Rattle.report_audit.specs.declared.verdict.Verdict.{Verdict}
use Rattle.program_modes.specs.declared.auditing.AuditFault.{AuditFault}
use Rattle.program_modes.specs.declared.status.Status.TheVariants.{SceneRefused}
use Rattle.program_modes.specs.Audits.{IsAudit, CountsAudit}
use Rattle.program_modes.proofs.Answered.{verdict_may, unaudited_may, verdict_answered, refusal_answered, unread_answered, memory_answered, text_reads, own_verdict}
use Rattle.program_modes.proofs.Wrote.{IsOwn}
use Rattle.program_modes.proofs.Published.{line_cut, cut_leaves, verdict_leaves}
use Rattle.program_modes.proofs.verdicts.show_audit.Goals as goal

pub returns-in-Ok-clause-answers : goal.returns-in-Ok-clause-answers
returns-in-Ok-clause-answers g c =
    λ settings mode. verdict_answered settings mode _ _ _ c.in-Ok.verdict _ _ _ (c.as_bytes.ensures ∙ c.verdict_text-text.ensures)
    c.verdict_status.ensures.status c.in-Ok.ensures.audits c.write_text.ensures.text

pub returns-in-Err-Scene-clause-answers : goal.returns-in-Err-Scene-clause-answers
returns-in-Err-Scene-clause-answers g c =
    λ settings mode. refusal_answered settings mode _ _ _ c.in-Err-Scene.fault _ _ (c.as_bytes-in-Err-Scene.ensures ∙ c.refusal_line.ensures)
    (subst (λ (f : AuditFault). IsAudit (g.S.Source.left c.args.source.now) (Err f)) c.in-Err-Scene.field-0-is
    c.in-Err-Scene.ensures.audits) c.write_text-in-Err-Scene.ensures.text

pub returns-in-Err-ReadFault-clause-answers : goal.returns-in-Err-ReadFault-clause-answers
returns-in-Err-ReadFault-clause-answers g c = λ settings mode. unread_answered settings mode _ _

pub returns-in-Err-NoMemory-clause-answers : goal.returns-in-Err-NoMemory-clause-answers
returns-in-Err-NoMemory-clause-answers g c = λ settings mode. memory_answered settings mode _ _

pub returns-in-Err-ReadFault-clause-reads : goal.returns-in-Err-ReadFault-clause-reads
returns-in-Err-ReadFault-clause-reads g c = let S = g.S.Source in
    subst (λ (f : AuditFault). CountsAudit {A = Verdict} (S.faults c.args.source.now) (S.faults c.audit_by.new.source) (Err f)) c.in-Err-ReadFault.field-0-is
    c.in-Err-ReadFault.ensures.counts

pub returns-in-Ok-clause-emptied : goal.returns-in-Ok-clause-emptied
returns-in-Ok-clause-emptied g c = let K = g.K.Sink in let S = g.S.Source in
    verdict_leaves (S.left c.args.source.now) (S.left c.audit_by.new.source) (K.taken c.args.sink.now) (K.taken c.write_text.new.sink) c.in-Ok.verdict
    c.as_bytes.result.now c.verdict_status.result c.write_text.result c.verdict_status.ensures.status c.in-Ok.ensures.emptied c.write_text.ensures.text

pub returns-in-Err-Scene-clause-emptied : goal.returns-in-Err-Scene-clause-emptied
returns-in-Err-Scene-clause-emptied g c = let K = g.K.Sink in let S = g.S.Source in
    cut_leaves (S.left c.args.source.now) (S.left c.audit_by.new.source) c.write_text-in-Err-Scene.result
    (line_cut c.as_bytes-in-Err-Scene.result.now c.write_text-in-Err-Scene.result (K.taken c.args.sink.now) (K.taken c.write_text-in-Err-Scene.new.sink)
    c.write_text-in-Err-Scene.ensures.text)

pub returns-in-Ok-clause-reads : goal.returns-in-Ok-clause-reads
returns-in-Ok-clause-reads g c = let K = g.K.Sink in let S = g.S.Source in
    text_reads (S.faults c.args.source.now) (S.faults c.audit_by.new.source) c.as_bytes.result.now c.verdict_status.result c.write_text.result
    (K.taken c.args.sink.now) (K.taken c.write_text.new.sink) (subst IsOwn (sym c.verdict_status.ensures.status) (own_verdict c.in-Ok.verdict))
    c.write_text.ensures.text c.in-Ok.ensures.counts

pub returns-in-Err-Scene-clause-reads : goal.returns-in-Err-Scene-clause-reads
returns-in-Err-Scene-clause-reads g c = let K = g.K.Sink in let S = g.S.Source in
    text_reads (S.faults c.args.source.now) (S.faults c.audit_by.new.source) c.as_bytes-in-Err-Scene.result.now SceneRefused c.write_text-in-Err-Scene.result
    (K.taken c.args.sink.now) (K.taken c.write_text-in-Err-Scene.new.sink) tt c.write_text-in-Err-Scene.ensures.text
    (subst (λ (f : AuditFault). CountsAudit {A = Verdict} (S.faults c.args.source.now) (S.faults c.audit_by.new.source) (Err f)) c.in-Err-Scene.field-0-is
    c.in-Err-Scene.ensures.counts)

pub write_text-requires-clause-allowed : goal.write_text-requires-clause-allowed
write_text-requires-clause-allowed g c = let K = g.K.Sink in
    verdict_may (g.S.Source.left c.args.source.now) (K.allows (K.lasting c.args.sink.now)) (K.taken c.args.sink.now) c.in-Ok.verdict _
    (c.as_bytes.ensures ∙ c.verdict_text-text.ensures) c.in-Ok.ensures.audits c.requires.allowed

pub write_text-requires-in-Err-Scene-clause-allowed : goal.write_text-requires-in-Err-Scene-clause-allowed
write_text-requires-in-Err-Scene-clause-allowed g c = let K = g.K.Sink in
    unaudited_may (g.S.Source.left c.args.source.now) (K.allows (K.lasting c.args.sink.now)) (K.taken c.args.sink.now) c.in-Err-Scene.fault _
    (c.as_bytes-in-Err-Scene.ensures ∙ c.refusal_line.ensures)
    (subst (λ (f : AuditFault). IsAudit (g.S.Source.left c.args.source.now) (Err f)) c.in-Err-Scene.field-0-is
    c.in-Err-Scene.ensures.audits) c.requires.allowed
