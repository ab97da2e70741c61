-- The sums of a run, and of its two parts.
use Rattle.std.specs.Prelude.{◌≡◌, ℕ, ◌+◌, ◌≤◌, List, ◌++◌}
use Rattle.fixed_motion.specs.Scene.{SceneData, IsValidScene}
use Rattle.event_rules.specs.declared.change.Change.{Change}
use Rattle.event_rules.specs.declared.outcome.Spot.{Spot}
use Rattle.event_rules.specs.declared.outcome.Outcome.{Outcome}
use Rattle.event_rules.specs.declared.outcome.Outcome.TheVariants.{Done}
use Rattle.event_rules.specs.Run.{IsRun}
use Rattle.resume.specs.Shift.{shifted}
use Rattle.resume.specs.Parts.{before_scene, rest_scene}
use Rattle.collision_sums.specs.declared.sums.Sums.{Sums}
use Rattle.sampled_laws.specs.Laws.{sums_of_run}

-- two sums, added number by number
abbrev pub together : Sums → Sums → Sums
together s t = record {
  pairs = s.pairs + t.pairs;
  virial = s.virial + t.virial;
  walls = s.walls + t.walls;
  left = s.left + t.left;
  right = s.right + t.right;
  bottom = s.bottom + t.bottom;
  top = s.top + t.top;
}

-- the sums of a run that is cut are those of its first part and those of the run of the rest, added
abbrev pub SumsOfPartsAddUp : Type 0
SumsOfPartsAddUp = (margin at : ℕ) (scene : SceneData) (first more : List Change) (spots : List Spot) (outcome : Outcome) →
    IsValidScene scene → at ≤ scene.rules.end → IsRun (before_scene scene at) first (Done spots) →
    IsRun (rest_scene scene at spots) more outcome →
    sums_of_run margin scene (first ++ shifted at more)
    ≡ together (sums_of_run margin (before_scene scene at) first) (sums_of_run margin (rest_scene scene at spots) more)
