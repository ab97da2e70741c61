-- A reporter writes the report of a run.
use Rattle.std.proofs.Common.{ℕ, List, Option, Bool, true, false, refl, ◌∙◌}
use Rattle.std.specs.Prelude.{if◌then◌else◌}
use Rattle.fixed_motion.specs.Scene.{SceneData, IsValidScene}
use Rattle.event_rules.specs.declared.change.Change.{Change}
use Rattle.event_rules.proofs.Fits.{changes_fit}
use Rattle.event_rules.proofs.Ran.{length-effect}
use Rattle.event_rules.proofs.Ranges.{few_events}
use Rattle.collision_report.specs.declared.format.Format.{Format}
use Rattle.collision_report.specs.Report.{report}
use Rattle.collision_report.specs.Meaning.{TableData, ReportSoFar, IsSceneOf, nothing_yet, with_change, with_records, keeps_records, IsTornAt}
use Rattle.collision_report.specs.Laws.{end_text}
use Rattle.collision_report.proofs.Told.{reports_join_by, reports_begin_by, reports_break_off_by, may_end_by}
use Rattle.program_modes.proofs.Writers.{Writer, Makes}

-- with its new records or without them, a table serves a scene
pub serves_by : (b : Bool) (table : TableData) (c : Change) (scene : SceneData) → IsSceneOf table scene → IsSceneOf (if b then with_records table c else table) scene
serves_by true table c scene h = record { rules = h.rules; every = h.every; count = length-effect table.disks c ∙ h.count }
serves_by false table c scene h = h

abbrev pub reporting : Writer ReportSoFar
reporting = record { next = with_change; torn = IsTornAt; taken = λ m. m.taken; table = λ m. m.table; end = end_text }

pub makes_report : (format : Format) (scene : SceneData) (taken : Option (List ℕ)) → IsValidScene scene → Makes reporting (report format) scene (nothing_yet format scene taken)
makes_report format scene taken valid = record {
  join = (λ changes outcome run. reports_join_by changes_fit few_events format scene taken changes outcome valid run);
  begin = (λ changes outcome m run h. reports_begin_by changes_fit format scene taken changes outcome m valid run h);
  break_off = (λ changes outcome left run h. reports_break_off_by changes_fit few_events format scene taken left changes outcome valid run h);
  may_end = (λ allows changes outcome run may. may_end_by changes_fit few_events allows format scene taken changes outcome valid run may);
  first = record { rules = refl; every = refl; count = refl };
  serves = (λ m c h. serves_by (keeps_records m.table c) m.table c scene h);
}
