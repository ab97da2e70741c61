-- What a listener was told of a run.
use Rattle.std.specs.Prelude.{◌≡◌, ℕ, ◌≤◌, List, take, Option, None, Result, Ok, Err}
use Rattle.report_ports.specs.Ports.{Rose}
use Rattle.fixed_motion.specs.Scene.{SceneData}
use Rattle.fixed_motion.specs.declared.rules.Rules.{Rules}
use Rattle.fixed_motion.specs.declared.disk.Disk.{Disk}
use Rattle.event_rules.specs.declared.change.Change.{Change}
use Rattle.event_rules.specs.declared.outcome.Outcome.{Outcome}
use Rattle.event_rules.specs.declared.outcome.RunFault.{RunFault}
use Rattle.event_rules.specs.declared.outcome.RunFault.TheVariants.{Listener, NoMemory}
use Rattle.event_rules.specs.Run.{IsRun, Steps}
use Rattle.event_rules.specs.Told.{Told, PrefixTold, AwaitsAll}
use Rattle.event_rules.specs.Laws.{KeepsApart}
use Rattle.event_rules.specs.Moments.{KeepsApartBetween}

-- each of the changes that lead on from the scene is awaited once those before it were told
abbrev pub AwaitsRun : {M : Type 0} → (M → Change → M) → (M → Change → Type 0) → SceneData → Option M → Type 0
AwaitsRun after awaits scene old =
    (changes : List Change) (later : List Disk) → Steps scene.rules scene.disks changes later
    → AwaitsAll after awaits old changes

-- the changes of the scene's run were told, in order, and this is how it ends; at each of its ticks, and at each moment
-- between them, all disks are inside the box and no two overlap
abbrev pub RunTold : {M : Type 0} → (M → Change → M) → SceneData → Outcome → Option M → Option M → Type 0
RunTold after scene outcome old new =
    (changes : List Change) × IsRun scene changes outcome × Told after old changes new
    × KeepsApart scene changes outcome × KeepsApartBetween scene changes outcome

-- a prefix of the changes of the scene's run was told, and perhaps the change that follows it was refused
abbrev pub RunBegun : {M : Type 0} → (M → Change → M) → (M → Change → M → Type 0) → SceneData → Option M → Option M → Type 0
RunBegun after torn scene old new =
    (changes : List Change) × (outcome : Outcome) × IsRun scene changes outcome × PrefixTold after torn old changes new

-- exactly a prefix of the changes of the scene's run was told
abbrev pub RunBegunWhole : {M : Type 0} → (M → Change → M) → SceneData → Option M → Option M → Type 0
RunBegunWhole after scene old new =
    (changes : List Change) × (outcome : Outcome) × IsRun scene changes outcome × ((n : ℕ) × Told after old (take n changes) new)

-- what was told when a run breaks off
abbrev pub RunCutShort : {M : Type 0} → (M → Change → M) → (M → Change → M → Type 0) → SceneData → RunFault → Option M → Option M → Type 0
RunCutShort after torn scene Listener old new = RunBegun after torn scene old new
RunCutShort after torn scene NoMemory old new = RunBegunWhole after scene old new

-- a listener's count of refusals before and after: it rose if the listener refused a change, and else is what it was
abbrev pub CountsRun : {T : Type 0} → ℕ → ℕ → Result T RunFault → Type 0
CountsRun before after (Ok value) = after ≡ before
CountsRun before after (Err Listener) = (before ≤ after) × Rose before after
CountsRun before after (Err NoMemory) = after ≡ before

-- ---- the same in terms of the rules and disks alone, for engines
-- the scene of these rules and disks, without state blocks
abbrev pub bare_scene : Rules → List Disk → SceneData
bare_scene rules disks = record { rules = rules; disks = disks; every = None }

-- the changes of the scene's run were told, in order, and this is how it ends
abbrev pub RunDone : {M : Type 0} → (M → Change → M) → SceneData → Outcome → Option M → Option M → Type 0
RunDone after scene outcome old new =
    (changes : List Change) × IsRun scene changes outcome × Told after old changes new

-- what was told of changes that lead on from the scene when a run breaks off
abbrev pub StepsCutShort : {M : Type 0} → (M → Change → M) → (M → Change → M → Type 0) → SceneData → RunFault → Option M → Option M → Type 0
StepsCutShort after torn scene Listener old new =
    (changes : List Change) × (later : List Disk) × Steps scene.rules scene.disks changes later
    × PrefixTold after torn old changes new
StepsCutShort after torn scene NoMemory old new =
    (changes : List Change) × (later : List Disk) × Steps scene.rules scene.disks changes later
    × ((n : ℕ) × Told after old (take n changes) new)
