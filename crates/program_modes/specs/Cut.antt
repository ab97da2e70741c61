-- What a run that is cut at a tick tells and leaves.
use Rattle.std.specs.Prelude.{◌≡◌, ℕ, List, Option}
use Rattle.fixed_motion.specs.Scene.{SceneData}
use Rattle.event_rules.specs.declared.change.Change.{Change}
use Rattle.event_rules.specs.declared.outcome.Outcome.{Outcome}
use Rattle.event_rules.specs.declared.outcome.Outcome.TheVariants.{Limit as Passes}
use Rattle.event_rules.specs.Run.{IsRun}
use Rattle.event_rules.specs.Told.{Told}
use Rattle.resume.specs.Parts.{rest_scene, PassesBefore}
use Rattle.resume.specs.Laws.{IsInParts}
use Rattle.program_modes.specs.declared.cut.Cut.{Cut}
use Rattle.program_modes.specs.declared.cut.Cut.TheVariants.{Rest, Limit}

-- The run of the scene passes no limit before the tick, so it is in two parts there: the first was told, and the
-- answer is the scene whose run is the second. Or it passes that limit before the tick, and was told whole.
abbrev pub CutTold : {M : Type 0} → (M → Change → M) → SceneData → ℕ → Cut → Option M → Option M → Type 0
CutTold after scene at (Rest rest) old new =
    (changes : List Change) × (outcome : Outcome) × IsRun scene changes outcome × (¬ PassesBefore at outcome)
    × ((parts : IsInParts scene at changes outcome) × (rest ≡ rest_scene scene at parts.spots)
    × Told after old parts.first new)
CutTold after scene at (Limit limit) old new =
    (changes : List Change) × IsRun scene changes (Passes limit) × PassesBefore at (Passes limit)
    × Told after old changes new
