-- An advance whose state is set on by its batch.
use Rattle.std.proofs.Common.{◌≡◌, List, [], ◌∷◌, Option, Some, sym, ap, ◌∙◌, subst, refl}
use Rattle.event_stamps.specs.declared.Stamp.{Stamp}
use Rattle.event_stamps.specs.Order.{Before, end_stamp}
use Rattle.fixed_motion.specs.declared.rules.Rules.{Rules}
use Rattle.region_view.specs.declared.action.Action.{Action}
use Rattle.cell_sequence.specs.Run.{CellSteps}
use Rattle.cell_sequence.specs.State.{CellStateData, IsCellState, IsNotBefore, followed, followed_by, raised}
use Rattle.local_run.specs.Opening.{RegionData}
use Rattle.commit_horizon.specs.declared.cutting.Final.{Final}
use Rattle.commit_horizon.specs.Horizon.{runs_of, AllStand}
use Rattle.commit_horizon.specs.Following.{MayFollow}
use Rattle.run_core.specs.declared.answers.Advance.{Advance}
use Rattle.run_core.specs.declared.answers.AdvanceKind.{AdvanceKind}
use Rattle.run_core.specs.Advances.{IsAdvance, Works}
use Rattle.run_core.specs.AdvancesUntold.{answer_with, AdvanceMade}
use Rattle.run_core.specs.Standing.{ComesOf}
use Rattle.run_core.proofs.Advancing.{rules_after}
use Rattle.run_core.proofs.Parts.{never_lowered}
use Rattle.run_core.proofs.Simulating.{leads_of}
use Rattle.run_core.proofs.Untold.{batch_in}

-- a state comes of itself, as it is read
pub comes_of_itself : (old read : CellStateData) (regions : List RegionData) → read ≡ old → IsCellState old →
    AllStand old regions → ComesOf read old.floor regions old
comes_of_itself old read regions same is stand = record {
  is = is;
  rules_are = ap (λ (v : CellStateData). v.rules) (sym same);
  grid_is = ap (λ (v : CellStateData). v.grid) (sym same);
  floor_is = refl;
  stand = stand;
}

-- after some actions the floor is the stamp of the last one
floor_is_last : (x : Action) (xs : List Action) (state : CellStateData) →
    (followed_by state (x ∷ xs)).last ≡ Some (followed_by state (x ∷ xs)).floor
floor_is_last x [] state = refl
floor_is_last x (y ∷ xs) state = floor_is_last y xs (followed state x)

not_before_floor : (xs : List Action) (state : CellStateData) (floor : Stamp) → ¬ Before floor state.floor →
    IsNotBefore (followed_by state xs).last floor → ¬ Before floor (followed_by state xs).floor
not_before_floor [] state floor kept after = kept
not_before_floor (x ∷ xs) state floor kept after =
    subst (λ (last : Option Stamp). IsNotBefore last floor) (floor_is_last x xs state) after

module _ (old : CellStateData) (given : List RegionData) (kind : AdvanceKind) (batch : List Action) (made : Final)
    (left : List RegionData) (advance : AdvanceMade old given kind batch made left) where
  -- the state may go on by the batch
  pub may_follow : MayFollow old batch made.floor
  may_follow =
      let leads = leads_of old advance.new (runs_of given) (answer_with kind batch) advance.is in
      let there = subst IsCellState advance.state leads.cell in record {
        steps = subst (λ (v : CellStateData). CellSteps old.rules old.grid old.placed batch v.placed) advance.state
            (subst (λ (xs : List Action). CellSteps old.rules old.grid old.placed xs advance.new.placed)
            (sym (batch_in kind batch)) leads.steps);
        not_lowered = not_before_floor batch old made.floor
            (subst (λ (v : CellStateData). ¬ Before v.floor old.floor) advance.state
            (never_lowered old advance.new (runs_of given) (answer_with kind batch) left advance.works))
            there.after_last;
        in_time = subst (λ (rules : Rules). ¬ Before (end_stamp rules.end) made.floor) (rules_after batch old)
            there.before_end;
        none_below = there.none_below;
      }

  -- once it has, it has advanced
  module _ (told : List Action) (same : told ≡ batch) (new : CellStateData)
      (is : new ≡ raised made.floor (followed_by old batch)) (answer : Advance) (says : answer ≡ answer_with kind told) where
    there : new ≡ advance.new
    there = is ∙ sym advance.state

    answers : answer ≡ answer_with kind batch
    answers = says ∙ ap (answer_with kind) same

    pub works_so : Works old (runs_of given) answer new left
    works_so = subst (λ (v : Advance). Works old (runs_of given) v new left) (sym answers)
        (subst (λ (v : CellStateData). Works old (runs_of given) (answer_with kind batch) v left) (sym there)
        advance.works)

    pub answers_so : IsAdvance old (runs_of given) answer new
    answers_so = subst (λ (v : Advance). IsAdvance old (runs_of given) v new) (sym answers)
        (subst (IsAdvance old (runs_of given) (answer_with kind batch)) (sym there) advance.is)

    pub stands_so : AllStand new left
    stands_so = subst (λ (v : CellStateData). AllStand v left) (sym there) advance.stand
