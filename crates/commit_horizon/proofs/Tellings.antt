-- What was told of actions as they are merged.
use Rattle.std.proofs.Common.{◌≡◌, List, [], ◌∷◌, ◌++◌}
use Rattle.std.proofs.Common.{sym, ap, ◌∙◌, subst, refl, Option, Some, None}
use Rattle.std.specs.Prelude.{IfSome}
use Rattle.std.proofs.lemmas.Option.{none-some, same_Some}
use Rattle.fixed_motion.specs.declared.rules.Rules.{Rules}
use Rattle.event_stamps.specs.declared.Stamp.{Stamp}
use Rattle.event_stamps.specs.Order.{end_stamp}
use Rattle.event_rules.specs.declared.change.Change.{Change}
use Rattle.event_rules.specs.Told.{told, Told}
use Rattle.event_rules.proofs.Ran.{ran, ran_tellable}
use Rattle.event_rules.proofs.Telling.{told_none}
use Rattle.region_view.specs.declared.action.Action.{Action}
use Rattle.region_view.specs.declared.action.Action.TheVariants.{Cross, Hit}
use Rattle.cell_sequence.specs.Run.{hits, disks_of}
use Rattle.cell_sequence.specs.State.{CellStateData, IsCellState}
use Rattle.cell_sequence.specs.Laws.{IsNextAction}
use Rattle.cell_sequence.proofs.Hits.{turn}
use Rattle.cell_sequence.proofs.Orderly.{known}
use Rattle.local_run.specs.Opening.{RegionData}
use Rattle.event_log.specs.Collisions.{change_in}
use Rattle.commit_horizon.specs.Horizon.{runs_of, AllKept, IsHorizon}
use Rattle.commit_horizon.specs.Bounds.{HoldsUpTo, IsUpToAll}
use Rattle.commit_horizon.specs.Raising.{AllMayRise}
use Rattle.commit_horizon.specs.Telling.{IsStateOf, MayBeTold}
use Rattle.commit_horizon.proofs.Commit.{may_rise}
use Rattle.commit_horizon.proofs.Standing.{horizon_is}

-- ---- tellings, one after the other
told_joined : {M C : Type 0} (after : M → C → M) (m : M) (xs ys : List C) →
    told after m (xs ++ ys) ≡ told after (told after m xs) ys
told_joined after m [] ys = refl
told_joined after m (x ∷ xs) ys = told_joined after (after m x) xs ys

pub told_in_turn : {M C : Type 0} (after : M → C → M) (old mid new : Option M) (xs ys : List C) →
    Told after old xs mid → Told after mid ys new → Told after old (xs ++ ys) new
told_in_turn after None mid new xs ys h k = tt
told_in_turn after (Some m) None new xs ys h k = absurd h
told_in_turn after (Some m) (Some n) None xs ys h k = absurd k
told_in_turn after (Some m) (Some n) (Some p) xs ys h k =
    k ∙ ap (λ v. told after v ys) h ∙ sym (told_joined after m xs ys)

-- the next action of a cell state, if it is a collision, can be told
pub next_tellable : (state : CellStateData) (x : Action) → IsCellState state → IsNextAction state x → MayBeTold x
next_tellable state (Cross s cell) is next = tt
next_tellable state (Hit change) is next =
    let k = known state is in
    let disks = disks_of state.placed in
    let turned = turn state.rules state.grid state.placed k.from (Hit change) k.checked k.of k.settled next.0 next.1 in
    ran_tellable state.rules disks change (ran state.rules disks change turned.0.0 turned.1)

-- ---- what is read of a log
-- an action that has a change is the collision
pub hit_there : (found : Option Action) (change : Change) → Some change ≡ change_in found → found ≡ Some (Hit change)
hit_there None change is = absurd (none-some change (sym is))
hit_there (Some (Cross s cell)) change is = absurd (none-some change (sym is))
hit_there (Some (Hit c)) change is = ap (λ (v : Change). Some (Hit v)) (same_Some c change (sym is))

-- if there is no change, all of it is told
pub nothing_told : {M : Type 0} (after : M → Change → M) (m : Option M) (found : Option Action) →
    None ≡ change_in found → IfSome found (λ x. Told after m (hits (x ∷ [])) m)
nothing_told after m None is = tt
nothing_told after m (Some (Cross s cell)) is = told_none after m
nothing_told after m (Some (Hit change)) is = absurd (none-some change is)

-- ---- a commit
-- the horizon of what the regions have due and agree on
pub horizon_of : (rules : Rules) (regions : List RegionData) (h : Stamp) →
    HoldsUpTo (IsUpToAll (end_stamp rules.end) regions) (Some h) → AllKept regions → (state : CellStateData) →
    IsStateOf rules regions state → IsHorizon state (runs_of regions) h
horizon_of rules regions h bound kept state of = horizon_is state regions h of.is of.stand kept
    (subst (λ (r : Rules). HoldsUpTo (IsUpToAll (end_stamp r.end) regions) (Some h)) (sym of.rules_are) bound)

module _ (rules : Rules) (regions : List RegionData) (h : Stamp)
    (bound : HoldsUpTo (IsUpToAll (end_stamp rules.end) regions) (Some h)) (kept : AllKept regions)
    (old : CellStateData) (of : IsStateOf rules regions old) where
  horizon : IsHorizon old (runs_of regions) h
  horizon = horizon_of rules regions h bound kept old of

  pub may_be_raised : AllMayRise h regions
  may_be_raised = may_rise old regions h of.stand kept horizon.bound
