-- Both claims are other texts, as their lengths differ.
use Rattle.std.proofs.Common.{◌≡◌, ◌++◌, length, ap, arith}
use Rattle.std.specs.Prelude.{codes}
use Rattle.text_lines.specs.Lines.{ended}
use Rattle.program_modes.specs.declared.status.Status.TheVariants.{Done}
use Rattle.worked_laws.specs.Texts.{hit_line, pair_report}
use Rattle.worked_outputs.proofs.audits.wrong_reports_are_refused.Goals as goal

pub returns-clause-shorter : goal.returns-clause-shorter
returns-clause-shorter c run audit bytes shown own report mode output =
    c.audits_refuse.ensures run audit bytes pair_report Done report mode hit_line shown own
    (λ same. let e : length hit_line ≡ length pair_report = ap length same in omega arith) output

pub returns-clause-longer : goal.returns-clause-longer
returns-clause-longer c run audit bytes shown own report mode output =
    c.audits_refuse.ensures run audit bytes pair_report Done report mode (pair_report ++ ended (codes "disk 2 30 10 0 0")) shown own
    (λ same. let e : length (pair_report ++ ended (codes "disk 2 30 10 0 0")) ≡ length pair_report = ap length same in omega arith) output
