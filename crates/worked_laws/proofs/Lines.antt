-- The texts of the pair's run, byte by byte.
use Rattle.std.proofs.Common.{◌≡◌, [], ◌∷◌, refl}
use Rattle.std.specs.Fmt.{digits}
use Rattle.event_rules.specs.declared.outcome.Outcome.TheVariants.{Done}
use Rattle.collision_report.specs.declared.format.Format.TheVariants.{Lines}
use Rattle.collision_report.specs.Lines.{event_line}
use Rattle.collision_report.specs.Report.{report}
use Rattle.worked_laws.specs.Pair.{pair_scene, the_hit, pair_end}
use Rattle.worked_laws.specs.Texts.{hit_line, pair_report}

pub hit_line_is : event_line the_hit ≡ hit_line
unfolding digits
hit_line_is = refl

pub pair_report_is : report Lines pair_scene (the_hit ∷ []) (Done pair_end) ≡ pair_report
unfolding digits
pair_report_is = refl
