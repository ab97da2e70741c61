use Rattle.std.proofs.Common.{◌≤◌, ◌∙◌, [], arith, ap, sym, subst}
use Rattle.report_ports.specs.Ports.{Rose}
use Rattle.program_modes.specs.Audits.{Empties, CountsAudit}
use Rattle.program_modes.proofs.Audited.{claimed_left, answered, answer_empties, counted_since, unread_empties}
use Rattle.program_modes.proofs.Writers.{failed_since}
use Rattle.program_modes.specs.declared.auditing.AuditFault.TheVariants.{ReadFault}
use Rattle.program_modes.proofs.auditing.audit_by.Goals as goal

pub returns-clause-audits : goal.returns-clause-audits
returns-clause-audits g c =
    let made = c.new-parted.ensures in
    let reads = c.in_ok-scene.ensures.reads in
    let rest = claimed_left _ _ _ _ _ _ c.in_ok-scene.scene made.left made.coming (ap (λ v. v.1) c.read_front.ensures.lasts) reads
    (λ bytes none comes. c.in-Ok.ensures.turned [] bytes none (omega arith) comes) in
    answered _ _ _ _ _ c.in_ok-scene.scene c.compare_run-parted.new.answer made.left reads rest c.compare_run-parted.ensures.compares
    c.compare_run-parted.ensures.unrefused

pub returns-clause-emptied : goal.returns-clause-emptied
returns-clause-emptied g c =
    let S = g.S.Source in
    let made = c.new-parted.ensures in
    let reads = c.in_ok-scene.ensures.reads in
    let rest = claimed_left _ _ _ _ _ _ c.in_ok-scene.scene made.left made.coming (ap (λ v. v.1) c.read_front.ensures.lasts) reads
    (λ bytes none comes. c.in-Ok.ensures.turned [] bytes none (omega arith) comes) in
    let answer = c.compare_run-parted.new.answer in
    let after = c.compare_run-parted.result in
    let lasts = c.compare_run-parted.ensures.lasts in
    let loan = ap (λ v. v.0) lasts ∙ c.turn.ensures.loan ∙ ap (λ v. v.0) c.read_front.ensures.lasts ∙ made.loan in
    let last = c.source-2-1.given.1 (sym loan) in
    subst (λ v. Empties (S.left c.args.source.now) (S.left v) answer) (sym last)
    (answer_empties c.in_ok-scene.scene _ _ after.stage after.ahead (S.left after.source.now) answer
    (ap (λ v. v.1) lasts ∙ c.in-Ok.ensures.last) rest c.compare_run-parted.ensures.compares)

pub returns-clause-counts : goal.returns-clause-counts
returns-clause-counts g c =
    let S = g.S.Source in
    let made = c.new-parted.ensures in
    let answer = c.compare_run-parted.new.answer in
    let loan = ap (λ v. v.0) c.compare_run-parted.ensures.lasts ∙ c.turn.ensures.loan ∙ ap (λ v. v.0) c.read_front.ensures.lasts ∙ made.loan in
    let same = c.in-Ok.ensures.counts ∙ c.in_ok-scene.ensures.counts ∙ ap S.faults made.source in
    subst (λ v. CountsAudit (S.faults c.args.source.now) (S.faults v) answer)
    (sym (c.source-2-1.given.1 (sym loan))) (counted_since _ _ _ answer same c.compare_run-parted.ensures.counts)

pub returns-in-Err-clause-counts : goal.returns-in-Err-clause-counts
returns-in-Err-clause-counts g c =
    let S = g.S.Source in
    let made = c.new-parted.ensures in
    let loan = c.turn.ensures.loan ∙ ap (λ v. v.0) c.read_front.ensures.lasts ∙ made.loan in
    let same = c.in_ok-scene.ensures.counts ∙ ap S.faults made.source in
    subst (λ v. (S.faults c.args.source.now ≤ S.faults v) × Rose (S.faults c.args.source.now) (S.faults v))
    (sym (c.source-in-Err-1.given.1 (sym loan))) (failed_since _ _ _ same c.in-Err.ensures.counts)

pub returns-in-Err-clause-emptied : goal.returns-in-Err-clause-emptied
returns-in-Err-clause-emptied g c = unread_empties (g.S.Source.left c.args.source.now) _ ReadFault
