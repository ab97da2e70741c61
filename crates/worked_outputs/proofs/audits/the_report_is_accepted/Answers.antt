-- The report has eight lines.
use Rattle.std.specs.Fmt.{digits}
use Rattle.program_modes.specs.declared.status.Status.TheVariants.{Done}
use Rattle.worked_laws.specs.Texts.{pair_report}
use Rattle.worked_outputs.proofs.audits.the_report_is_accepted.Goals as goal

pub returns : goal.returns
unfolding digits
returns c run audit bytes report mode = c.audits_accept.ensures run audit bytes pair_report Done report mode
