-- How many events a run has, by the numbers of its scene.
use Rattle.std.specs.Prelude.{ℕ, ◌+◌, ◌*◌, ◌≤◌, Bool, ◌&&◌, ◌||◌, ◌==◌, List, length, count_by, is_some}
use Rattle.fixed_motion.specs.Scene.{SceneData, IsValidScene}
use Rattle.event_rules.specs.declared.change.Change.{Change}
use Rattle.event_rules.specs.declared.outcome.Outcome.{Outcome}
use Rattle.event_rules.specs.Run.{IsRun}
use Rattle.event_rules.specs.Conservation.{pairs}

-- disk i takes part in the event of the change
abbrev pub takes_part_in : ℕ → Change → Bool
takes_part_in i c = (c.stamp.first == i) || (is_some c.second && (c.stamp.second == i))

-- in how many events of a tick it takes part
abbrev pub events_of : ℕ → ℕ → List Change → ℕ
events_of i tick changes = count_by (λ c. (c.stamp.tick == tick) && takes_part_in i c) changes

-- a disk takes part in no more events of a tick than the round limit
abbrev pub FewEventsOfADisk : Type 0
FewEventsOfADisk = (scene : SceneData) (changes : List Change) (outcome : Outcome) → IsValidScene scene →
    IsRun scene changes outcome → (i tick : ℕ) → events_of i tick changes ≤ scene.rules.round_limit

-- a run has no more events than its ticks times the round limit times the number of disks, with an event of two disks counted
-- as two
abbrev pub FewEventsOfAScene : Type 0
FewEventsOfAScene = (scene : SceneData) (changes : List Change) (outcome : Outcome) → IsValidScene scene →
    IsRun scene changes outcome → length changes + pairs changes ≤ scene.rules.end * scene.rules.round_limit * length scene.disks
