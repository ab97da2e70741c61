-- How fast disks can become in a run.
use Rattle.std.specs.Prelude.{ℕ, ◌+◌, ◌*◌, ◌<◌, ◌≤◌, nat_abs, List, length}
use Rattle.fixed_motion.specs.declared.rules.Rules.{Rules}
use Rattle.fixed_motion.specs.declared.disk.Disk.{Disk}
use Rattle.fixed_motion.specs.Scene.{SceneData, IsValidScene}
use Rattle.event_stamps.specs.declared.Stamp.{Stamp}
use Rattle.event_rules.specs.declared.change.Change.{Change}
use Rattle.event_rules.specs.declared.change.Limit.TheVariants.{Speed}
use Rattle.event_rules.specs.declared.outcome.Outcome.TheVariants.{Limit as Passes}
use Rattle.event_rules.specs.Run.{Runs, Steps, IsRun}
use Rattle.event_rules.specs.Conservation.{energy, pairs}

-- the sum of squared speeds is at most the square of this
abbrev pub IsAtMostSquare : List Disk → ℕ → Type 0
IsAtMostSquare disks root = energy disks ≤ root * root

-- After any beginning of a run, from any state, the root of the sum of squared speeds, rounded up, is greater by at most
-- three, and less by at most seven, for each collision of two disks.
abbrev pub RootOfEnergyNearlyStays : Type 0
RootOfEnergyNearlyStays = (rules : Rules) (disks later : List Disk) (changes : List Change) (root : ℕ) → Steps rules disks changes later →
    (IsAtMostSquare disks root → IsAtMostSquare later (root + 3 * pairs changes))
    × (IsAtMostSquare later root → IsAtMostSquare disks (root + 7 * pairs changes))

-- So a run from any state that fails the limit on speed had enough such collisions before to come to it.
abbrev pub SpeedNeedsCollisions : Type 0
SpeedNeedsCollisions = (rules : Rules) (disks : List Disk) (changes : List Change) (s : Stamp) (root : ℕ) →
    Runs rules disks changes (Passes (Speed s)) → IsAtMostSquare disks root → nat_abs rules.speed_limit < root + 3 * (pairs changes + 1)

-- With so high a limit on speed a scene's run never fails it, as it has at most end · round limit · disks collisions.
abbrev pub SpeedLimitSuffices : Type 0
SpeedLimitSuffices = (scene : SceneData) (changes : List Change) (s : Stamp) (root : ℕ) → IsValidScene scene →
    IsAtMostSquare scene.disks root →
    2 * root + 3 * (scene.rules.end * scene.rules.round_limit * length scene.disks + 2) ≤ 2 * nat_abs scene.rules.speed_limit →
    ¬ IsRun scene changes (Passes (Speed s))
