-- The floors of the states to which advances lead.
use Rattle.std.proofs.Common.{inl, inr, List, [], ◌∷◌, sym, ap, ◌∙◌, subst, refl, Option, Some, None}
use Rattle.event_stamps.specs.declared.Stamp.{Stamp}
use Rattle.event_stamps.specs.Order.{Before}
use Rattle.region_view.specs.declared.action.Action.{Action}
use Rattle.region_view.specs.Acting.{stamp_of}
use Rattle.region_messages.specs.Trails.{IsAmong}
use Rattle.region_messages.proofs.Order.{before_not_before}
use Rattle.cell_sequence.specs.State.{CellStateData, followed, followed_by}
use Rattle.local_run.specs.Opening.{RegionData}
use Rattle.run_floors.specs.Floors.{IsPast, AreOfOneRun}
use Rattle.commit_horizon.specs.Horizon.{LocalRuns}
use Rattle.commit_horizon.specs.Commits.{Commits}
use Rattle.run_core.specs.declared.answers.Advance.{Advance}
use Rattle.run_core.specs.declared.answers.Advance.TheVariants.{Raised, End, Limit}
use Rattle.run_core.specs.Advances.{IsAdvance, Works}
use Rattle.run_core.specs.Simulates.{batch_of}
use Rattle.run_core.specs.Laws.{AdvancesStayAtFloors}
use Rattle.run_core.proofs.Advancing.{rules_after}
use Rattle.run_core.proofs.OneState.{opening_after}
use Rattle.run_core.proofs.Parts.{works_keep}
use Rattle.run_core.proofs.Simulating.{grid_after, leads_of}

-- ---- commits
past_later : (last : Option Stamp) (f h : Stamp) → IsPast last f → ¬ Before h f → IsPast last h
past_later None f h past later = tt
past_later (Some l) f h past later = before_not_before l h f past later

past_followed : (xs : List Action) (state : CellStateData) (h : Stamp) → IsPast state.last h →
    ((x : Action) → IsAmong x xs → Before (stamp_of x) h) → IsPast (followed_by state xs).last h
past_followed [] state h past each = past
past_followed (x ∷ xs) state h past each =
    past_followed xs (followed state x) h (each x (inl refl)) (λ y among. each y (inr among))

-- a commit's batch lies strictly before its horizon, which becomes the floor
past_by : (old new : CellStateData) (given left : List RegionData) (batch : List Action) →
    IsPast old.last old.floor → Commits old given batch new left → IsPast new.last new.floor
past_by old new given left batch past commits =
    let h = commits.horizon in
    subst (λ (v : CellStateData). IsPast v.last v.floor) (sym commits.state)
    (past_followed batch old h (past_later old.last old.floor h past commits.is_horizon.bound.floor)
    (λ x among. (commits.merged.are x among).before))

-- ---- advances
pub past_on : (old new : CellStateData) (runs : LocalRuns) (answer : Advance) (left : List RegionData) →
    IsPast old.last old.floor → Works old runs answer new left → IsPast new.last new.floor
past_on old new runs answer left past works = works_keep (λ (v : CellStateData). IsPast v.last v.floor)
    (λ before after given rest batch commits there. past_by before after given rest batch there commits)
    new left old runs answer works past

pub one_run_on : (old new : CellStateData) (runs : LocalRuns) (answer : Advance) → IsAdvance old runs answer new →
    AreOfOneRun old new
one_run_on old new runs answer advance =
    let batch = batch_of answer in
    let state = (leads_of old new runs answer advance).state in record {
      rules = sym (ap (λ (v : CellStateData). v.rules) state ∙ rules_after batch old);
      grid = sym (ap (λ (v : CellStateData). v.grid) state ∙ grid_after batch old);
      opening = sym (ap (λ (v : CellStateData). v.opening) state ∙ opening_after batch old);
    }

pub advances_stay_at_floors : AdvancesStayAtFloors
advances_stay_at_floors old new runs answer left at advance works = (
  record { is = (leads_of old new runs answer advance).cell; past = past_on old new runs answer left at.past works },
  one_run_on old new runs answer advance,
)
