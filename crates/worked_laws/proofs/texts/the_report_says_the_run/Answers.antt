-- The pair's run has this report.
use Rattle.std.proofs.Common.{[], ◌∷◌, sym, ◌∙◌}
use Rattle.event_rules.specs.declared.outcome.Outcome.TheVariants.{Done}
use Rattle.worked_laws.specs.Pair.{pair_scene, the_hit, pair_end}
use Rattle.worked_laws.proofs.PairRun.{pair_run}
use Rattle.worked_laws.proofs.Lines.{pair_report_is}
use Rattle.worked_laws.proofs.ValidRows.{pair_valid}
use Rattle.worked_laws.proofs.texts.the_report_says_the_run.Goals as goal

pub returns : goal.returns
returns c other others end valid run same =
    let said = c.reports_say_runs.ensures pair_scene other (the_hit ∷ []) others (Done pair_end) end pair_valid valid pair_run run (pair_report_is ∙ sym same) in
    (sym said.0, sym said.1)
