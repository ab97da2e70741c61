-- The home of the next event runs it.
use Rattle.std.proofs.Common.{◌≡◌, ◌⊎◌, inl, inr, ℕ, ◌<◌, ◌≤◌, Bool, List, [], length, sym, subst, refl, arith}
use Rattle.std.specs.Prelude.{map}
use Rattle.event_stamps.specs.declared.Stamp.{Stamp}
use Rattle.event_stamps.specs.Order.{Before, end_stamp}
use Rattle.event_stamps.specs.Least.{HasNone}
use Rattle.event_stamps.proofs.Least.{one_least}
use Rattle.event_rules.specs.declared.change.Limit.{Limit as Failure}
use Rattle.cell_grid.specs.Grid.{IsRegion}
use Rattle.region_view.specs.declared.action.Action.{Action}
use Rattle.cell_sequence.specs.State.{CellStateData, IsCellState, IsCandidateOf}
use Rattle.cell_sequence.proofs.Orderly.{known}
use Rattle.local_run.specs.declared.answers.Step.{Step}
use Rattle.local_run.specs.declared.answers.Step.TheVariants.{Ran, Heard as Took, Idle, Past, Tied, Halted, Held, Spent}
use Rattle.local_run.specs.LocalRun.{Local, now_of, IsOffered, IsDueOrEnd}
use Rattle.local_run.specs.Answers.{StepsTo}
use Rattle.local_run.specs.Opening.{RegionData, home_of}
use Rattle.local_run.specs.Hearing.{rewound}
use Rattle.commit_horizon.specs.Horizon.{runs_of, AllStand, AllKept}
use Rattle.commit_horizon.specs.Commits.{Commits}
use Rattle.commit_horizon.proofs.Offered.{cell_laws}
use Rattle.commit_horizon.proofs.Standing.{region_at, are_standing}
use Rattle.run_core.specs.declared.answers.Advance.{Advance}
use Rattle.run_core.specs.declared.answers.Advance.TheVariants.{Raised, End, Limit}
use Rattle.run_core.specs.Advances.{SecondAnswers}
use Rattle.run_core.specs.Passing.{Heard, AllHearUpTo}
use Rattle.run_core.specs.Second.{IsLeastDue, AllTakeIn}
use Rattle.run_core.specs.Taking.{IsNextHome, Refreshed, TakenIfRan, RunsEvent, MakesNext}
use Rattle.run_core.specs.Turns.{Turns}
use Rattle.run_core.proofs.Fresh.{AllFresh, IsNextAt, RunsNext, pass_makes_fresh, least_due_is_next, home_runs_next}
use Rattle.run_core.proofs.Passed.{is_pass}
use Rattle.run_core.proofs.Standing.{HasStepped, has_stepped, all_rewound}

-- a region that was taken back and then heard
pub refreshed : (state : CellStateData) (regions back fresh : List RegionData) (more : Bool) →
    AllStand state regions → AllKept regions → back ≡ map (rewound state.floor) regions →
    Heard state back fresh more (AllHearUpTo state state.grid.regions) → Refreshed state regions fresh
refreshed state regions back fresh more stand kept is heard = record {
  standing = are_standing state regions stand kept;
  back = runs_of back;
  rewound = (all_rewound state regions back state.floor stand is).1;
  pass = heard.calls;
  is_pass = is_pass state heard.calls heard.covers;
  hear = heard.hearings;
  stand = heard.stand;
}

module _ (state : CellStateData) (regions fresh : List RegionData) (home : ℕ) (is : IsCellState state)
    (refreshed : Refreshed state regions fresh) (is_home : IsNextHome fresh home) where
  number : (q : ℕ) → IsRegion state.grid q → q < length fresh
  number q within = subst (λ (n : ℕ). q < n) (sym refreshed.stand.count) within

  abbrev dues : ℕ → Stamp
  dues = is_home.1.dues

  abbrev HomeSteps : Step → Local → Type 0
  HomeSteps = StepsTo (home_of state home) (runs_of fresh home)

  least : IsLeastDue state (runs_of fresh) dues home
  least = record {
    within = subst (λ (n : ℕ). home < n) refreshed.stand.count is_home.1.within;
    due = λ q within. is_home.1.due q _ (number q within) (region_at state fresh q refreshed.stand within);
    least = λ q within. subst (λ (s : Stamp). ¬ Before (dues q) s) (sym is_home.1.has)
        (is_home.1.least q (number q within));
  }

  part : (answer : Advance) (new : CellStateData) (left : List RegionData) →
      SecondAnswers state (runs_of fresh) home (dues home) answer new left →
      MakesNext state regions answer new left
  part answer new left answers = (
    refreshed.standing,
    record {
      back = refreshed.back;
      rewound = refreshed.rewound;
      pass = refreshed.pass;
      is_pass = refreshed.is_pass;
      fresh = runs_of fresh;
      hear = refreshed.hear;
      dues = dues;
      home = home;
      least = least;
      answers = answers;
    },
  )

  module _ (step : Step) (stepped : List RegionData) (turns : Turns fresh home step stepped) where
    done : HasStepped state fresh stepped home step
    done = has_stepped state fresh stepped home step refreshed.stand least.within turns

    pub still_stand : AllStand state stepped
    still_stand = done.changes.stand

    -- it ran the event
    pub ran : (s : Stamp) → step ≡ Ran s → (after : List RegionData) →
        AllTakeIn state (runs_of stepped) home (runs_of after) → (batch : List Action)
        (new : CellStateData) (left : List RegionData) → Commits state after batch new left →
        MakesNext state regions (Raised batch) new left
    ran s is after took batch new left commits = part (Raised batch) new left
        (runs_of stepped, after, steps, done.changes.others, took, commits)
      where
        ran_it : HomeSteps (Ran s) done.run
        ran_it = subst (λ (v : Step). HomeSteps v done.run) is done.steps

        is_due : IsDueOrEnd (home_of state home) (now_of (runs_of fresh home)) (dues home) → s ≡ dues home
        is_due (inl due) = one_least (IsOffered (home_of state home) (now_of (runs_of fresh home))) s
            (dues home) ran_it.0.1 due
        is_due (inr none) = absurd (none.0 s ran_it.0.1.0)

        steps : HomeSteps (Ran (dues home)) (runs_of stepped home)
        steps = subst (λ (v : Stamp). HomeSteps (Ran v) (runs_of stepped home))
            (is_due (least.due home least.within)) (subst (HomeSteps (Ran s)) (sym done.changes.here) ran_it)

    -- it halted
    pub halted : (limit : Failure) → step ≡ Halted limit → (batch : List Action) → batch ≡ [] →
        (left : List RegionData) → MakesNext state regions (Limit batch limit) state left
    halted limit is batch none left = part (Limit batch limit) state left (
      (done.run, subst (λ (v : Step). HomeSteps v done.run) is done.steps),
      none,
      refl,
    )

    -- it did neither: no event is left
    pub idled : ((s : Stamp) → ¬ (step ≡ Ran s)) → ((limit : Failure) → ¬ (step ≡ Halted limit)) →
        (batch : List Action) → batch ≡ [] → (left : List RegionData) →
        MakesNext state regions (End batch) state left
    idled not_ran not_halted batch none left =
        part (End batch) state left (
          ended (least_due_is_next state (runs_of fresh) dues home is
              (cell_laws state is) fresh_all least),
          none,
          refl,
        )
      where
        fresh_all : AllFresh state (runs_of fresh)
        fresh_all = pass_makes_fresh state (runs_of regions) refreshed.back (runs_of fresh) refreshed.pass is
            refreshed.standing refreshed.rewound refreshed.is_pass refreshed.hear

        by_step : RunsNext state (dues home) (runs_of fresh home) step done.run → ⊥
        by_step (inl next) = not_ran (dues home) next.1
        by_step (inr fails) = not_halted fails.0 fails.1

        ended : IsNextAt state home (dues home)
            ⊎ (HasNone (IsCandidateOf state) × (dues home ≡ end_stamp state.rules.end)) →
            dues home ≡ end_stamp state.rules.end
        ended (inr none) = none.1
        ended (inl next) = absurd (by_step (home_runs_next state home (dues home) (runs_of fresh home)
            done.run step (cell_laws state is) (fresh_all home least.within) next done.steps))

-- ---- the event
-- a cell state has a region
pub some_regions : (state : CellStateData) (regions : List RegionData) → IsCellState state →
    AllStand state regions → 0 < length regions
some_regions state regions is stand =
    let some : 1 ≤ state.grid.regions = (known state is).sizes.regions in
    let count = stand.count in
    omega (arith, some, count)

-- a step that didn't run the event isn't told of
pub untaken : (state : CellStateData) (stepped : List RegionData) (home : ℕ) (step : Step) →
    ((s : Stamp) → ¬ (step ≡ Ran s)) → TakenIfRan state stepped home step stepped
untaken state stepped home (Ran s) not = absurd (not s refl)
untaken state stepped home (Took s) not = refl
untaken state stepped home Idle not = refl
untaken state stepped home (Past s clock) not = refl
untaken state stepped home (Tied s) not = refl
untaken state stepped home (Halted limit) not = refl
untaken state stepped home Held not = refl
untaken state stepped home Spent not = refl

module _ (state : CellStateData) (is : IsCellState state) (regions left : List RegionData) (step : Step)
    (event : RunsEvent state regions step left) where
  pub event_ran : (s : Stamp) → step ≡ Ran s → (batch : List Action) (new : CellStateData)
      (last : List RegionData) → Commits state left batch new last →
      MakesNext state regions (Raised batch) new last
  event_ran s ran_it batch new last commits =
      let took = subst (λ (v : Step). TakenIfRan state event.stepped event.home v left) ran_it event.taken in
      ran state regions event.fresh event.home is event.refreshed event.is_home step event.stepped event.turns s
      ran_it left took.took batch new last commits

  pub event_halted : (limit : Failure) → step ≡ Halted limit → (batch : List Action) → batch ≡ [] →
      MakesNext state regions (Limit batch limit) state left
  event_halted limit halts batch none = halted state regions event.fresh event.home is event.refreshed
      event.is_home step event.stepped event.turns limit halts batch none left

  pub event_idled : ((s : Stamp) → ¬ (step ≡ Ran s)) → ((limit : Failure) → ¬ (step ≡ Halted limit)) →
      (batch : List Action) → batch ≡ [] → MakesNext state regions (End batch) state left
  event_idled not_ran not_halted batch none = idled state regions event.fresh event.home is event.refreshed
      event.is_home step event.stepped event.turns not_ran not_halted batch none left
