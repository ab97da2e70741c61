-- What the reports of a run in two parts say.
use Rattle.std.specs.Prelude.{◌≡◌, ℕ, ◌≤◌, List, ◌++◌, map, option_map}
use Rattle.fixed_motion.specs.Scene.{SceneData, IsValidScene}
use Rattle.event_rules.specs.declared.change.Change.{Change}
use Rattle.event_rules.specs.declared.outcome.Spot.{Spot}
use Rattle.event_rules.specs.declared.outcome.Outcome.{Outcome}
use Rattle.event_rules.specs.declared.outcome.Outcome.TheVariants.{Done}
use Rattle.event_rules.specs.Run.{IsRun}
use Rattle.resume.specs.Shift.{later_stamp, later_outcome}
use Rattle.resume.specs.Parts.{before_scene, rest_scene}
use Rattle.collision_report.specs.declared.format.Format.TheVariants.{Lines}
use Rattle.collision_report.specs.Report.{report}
use Rattle.report_reader.specs.Reader.{Said, SaidRun, read_report}

-- the same event, this many ticks later
abbrev pub said_later : ℕ → Said → Said
said_later by s = record s { stamp = later_stamp by s.stamp }

-- the events of a first part, then those of the rest this many ticks later, and the end of the rest this many ticks
-- later
abbrev pub said_together : ℕ → SaidRun → SaidRun → SaidRun
said_together at first rest = record {
  events = first.events ++ map (said_later at) rest.events;
  outcome = option_map (later_outcome at) rest.outcome;
}

-- the run up to a tick, and the run of what is left there
pub record AreRunParts (scene : SceneData) (at : ℕ) (first : List Change) (spots : List Spot) (more : List Change) (last : Outcome) : Type 0 where
  pub tick : at ≤ scene.rules.end
  pub before : IsRun (before_scene scene at) first (Done spots)
  pub after : IsRun (rest_scene scene at spots) more last

-- what is read of the reports of both parts, the ticks of the second raised, is what is read of the report of the whole run
abbrev pub PartsReadAsOne : Type 0
PartsReadAsOne = (scene : SceneData) (at : ℕ) (first : List Change) (spots : List Spot) (more : List Change) (last : Outcome)
    (changes : List Change) (outcome : Outcome) → IsValidScene scene → AreRunParts scene at first spots more last → IsRun scene changes outcome →
    read_report (report Lines scene changes outcome)
    ≡ said_together at (read_report (report Lines (before_scene scene at) first (Done spots)))
    (read_report (report Lines (rest_scene scene at spots) more last))
