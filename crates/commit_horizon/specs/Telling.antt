-- What a listener is told of a commit.
use Rattle.std.specs.Prelude.{◌≡◌, ℕ, List, take, ⊤, Option}
use Rattle.fixed_motion.specs.declared.rules.Rules.{Rules}
use Rattle.event_rules.specs.declared.change.Change.{Change}
use Rattle.event_rules.specs.declared.outcome.RunFault.{RunFault}
use Rattle.event_rules.specs.declared.outcome.RunFault.TheVariants.{Listener, NoMemory}
use Rattle.event_rules.specs.Told.{Told, Torn, PrefixTold, IsTellable, IsAwaited}
use Rattle.region_view.specs.declared.action.Action.{Action}
use Rattle.region_view.specs.declared.action.Action.TheVariants.{Cross, Hit}
use Rattle.cell_sequence.specs.Run.{hits}
use Rattle.cell_sequence.specs.State.{CellStateData, IsCellState}
use Rattle.local_run.specs.Opening.{RegionData}
use Rattle.commit_horizon.specs.Horizon.{AllStand}

-- ---- one action
-- a collision may be told; a crossing isn't told
abbrev pub MayBeTold : Action → Type 0
MayBeTold (Cross s cell) = ⊤
MayBeTold (Hit change) = IsTellable change

-- a collision is awaited; a crossing isn't told
abbrev pub IsHitAwaited : {M : Type 0} → (M → Change → Type 0) → Option M → Action → Type 0
IsHitAwaited awaits m (Cross s cell) = ⊤
IsHitAwaited awaits m (Hit change) = IsAwaited awaits m change

-- a collision was refused
abbrev pub HitRefused : {M : Type 0} → (M → Change → M → Type 0) → Option M → Action → Option M → Type 0
HitRefused torn old (Cross s cell) new = ⊥
HitRefused torn old (Hit change) new = Torn torn old change new

-- a prefix of the collisions of some actions was told, and if the listener is the reason for breaking off, perhaps the
-- one that follows was refused
abbrev pub HitsCutShort : {M : Type 0} → (M → Change → M) → (M → Change → M → Type 0) → List Action →
    RunFault → Option M → Option M → Type 0
HitsCutShort after torn actions Listener old new = PrefixTold after torn old (hits actions) new
HitsCutShort after torn actions NoMemory old new = (n : ℕ) × Told after old (take n (hits actions)) new

-- ---- a commit
-- a state of the cell run, with these rules, on which the regions stand
pub record IsStateOf (rules : Rules) (regions : List RegionData) (state : CellStateData) : Type 0 where
  pub is : IsCellState state
  pub rules_are : state.rules ≡ rules
  pub stand : AllStand state regions
