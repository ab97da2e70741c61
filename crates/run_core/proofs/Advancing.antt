-- An advance that works as it should answers as it should.
use Rattle.std.proofs.Common.{◌≡◌, ◌≢◌, ◌⊎◌, inl, inr, ℕ, List, [], ◌∷◌, sym, ap, ◌∙◌, subst, refl}
use Rattle.fixed_motion.specs.declared.rules.Rules.{Rules}
use Rattle.event_stamps.specs.declared.Stamp.{Stamp}
use Rattle.event_stamps.specs.Order.{Before, end_stamp}
use Rattle.event_stamps.specs.Least.{HasNone}
use Rattle.event_stamps.proofs.StampOrder.{not_before_itself, before_trans}
use Rattle.event_rules.specs.declared.change.Limit.{Limit}
use Rattle.region_view.specs.declared.action.Action.{Action}
use Rattle.region_view.specs.Acting.{stamp_of}
use Rattle.region_messages.specs.Trails.{IsAmong}
use Rattle.region_messages.proofs.Order.{before_not_before}
use Rattle.region_view.specs.declared.action.Placed.{Placed}
use Rattle.cell_sequence.specs.Run.{CellSteps}
use Rattle.cell_sequence.specs.State.{CellStateData, IsCellState, IsCandidateOf, HasNoneBelow, followed}
use Rattle.cell_sequence.specs.State.{followed_by, raised}
use Rattle.cell_sequence.specs.Laws.{IsHomeOf}
use Rattle.cell_sequence.proofs.Orderly.{cell_states_are_orderly}
use Rattle.cell_sequence.proofs.Followed.{followed_is, raised_is}
use Rattle.cell_sequence.proofs.Seen.{next_actions_are_seen}
use Rattle.local_run.specs.declared.answers.Step.TheVariants.{Ran, Halted}
use Rattle.local_run.specs.LocalRun.{Local, now_of, IsOffered}
use Rattle.local_run.specs.Answers.{StepsTo}
use Rattle.local_run.specs.Opening.{RegionData, home_of}
use Rattle.commit_horizon.specs.Horizon.{LocalRuns, runs_of, AreStanding, IsBound}
use Rattle.commit_horizon.specs.Commits.{Commits}
use Rattle.commit_horizon.proofs.Offered.{cell_laws}
use Rattle.run_core.specs.declared.answers.Advance.{Advance}
use Rattle.run_core.specs.declared.answers.Advance.TheVariants.{Raised, End, Limit as Fails}
use Rattle.run_core.specs.Second.{IsLeastDue, AllTakeIn}
use Rattle.run_core.specs.Advances.{Leads, FailsNext, IsAdvance, FirstPart, SecondAnswers, SecondPart, WorksInParts, CommitsAtOnce, Works}
use Rattle.run_core.proofs.Pass.{passes_keep}
use Rattle.run_core.proofs.Fresh.{AllFresh, IsNextAt, RunsNext, pass_makes_fresh, offered_is, fresh_still}
use Rattle.run_core.proofs.Fresh.{least_due_is_next, home_runs_next}
use Rattle.run_core.proofs.Event.{OneEvent, event_is_below}

-- ---- after the next actions
-- they lead to a state of the cell run, and leave no event below a stamp below which none was
pub followed_leads : (xs : List Action) (state : CellStateData) (later : List Placed) → IsCellState state →
    CellSteps state.rules state.grid state.placed xs later → IsCellState (followed_by state xs)
followed_leads [] state later is steps = is
followed_leads (x ∷ xs) state later is steps =
    followed_leads xs (followed state x) later (followed_is state x is steps.0 steps.1) steps.2

pub none_after : (xs : List Action) (state : CellStateData) (later : List Placed) (h : Stamp) →
    IsCellState state → CellSteps state.rules state.grid state.placed xs later → HasNoneBelow state h →
    HasNoneBelow (followed_by state xs) h
none_after [] state later h is steps none = none
none_after (x ∷ xs) state later h is steps none =
    let seen = next_actions_are_seen state x is (steps.0, steps.1) in
    none_after xs (followed state x) later h seen.leads steps.2 (λ t event less.
    none (stamp_of x) steps.0.0 (before_trans (stamp_of x) t h (seen.rises t event) less))

-- their floor isn't after a stamp that they are before
floor_after : (xs : List Action) (state : CellStateData) (h : Stamp) → ¬ Before h state.floor →
    ((x : Action) → IsAmong x xs → Before (stamp_of x) h) → ¬ Before h (followed_by state xs).floor
floor_after [] state h late before = late
floor_after (x ∷ xs) state h late before = floor_after xs (followed state x) h
    (λ less. not_before_itself h (before_trans h (stamp_of x) h less (before x (inl refl))))
    (λ y among. before y (inr among))

pub rules_after : (xs : List Action) (state : CellStateData) →
    (followed_by state xs).rules ≡ state.rules
rules_after [] state = refl
rules_after (x ∷ xs) state = rules_after xs (followed state x)

none_lower : (state : CellStateData) (f h : Stamp) → HasNoneBelow state f → ¬ Before f h →
    HasNoneBelow state h
none_lower state f h none not t event less = none t event (before_not_before t f h less not)

-- ---- a commit
-- it leads to a state of the cell run
committed : (old new : CellStateData) (regions left : List RegionData) (batch : List Action) →
    IsCellState old → Commits old regions batch new left → IsCellState new
committed old new regions left batch is commits = subst IsCellState (sym commits.state)
    (raised_is (followed_by old batch) commits.horizon
    (followed_leads batch old new.placed is commits.steps)
    (floor_after batch old commits.horizon commits.is_horizon.bound.floor
    (λ x among. (commits.merged.are x among).before))
    (subst (λ (rules : Rules). ¬ Before (end_stamp rules.end) commits.horizon)
    (sym (rules_after batch old)) commits.is_horizon.bound.end)
    (subst (λ (v : CellStateData). HasNoneBelow v commits.horizon) commits.state commits.none_below))

-- it isn't empty if an event is below the horizon
not_empty : (old new : CellStateData) (regions left : List RegionData) (batch : List Action) (s : Stamp)
    (commits : Commits old regions batch new left) → IsCandidateOf old s → Before s commits.horizon →
    batch ≢ []
not_empty old new regions left batch s commits event less empty =
    let same : new ≡ raised commits.horizon old =
    commits.state ∙ ap (λ (xs : List Action). raised commits.horizon (followed_by old xs)) empty in
    subst (λ (v : CellStateData). HasNoneBelow v commits.horizon) same commits.none_below s event less

-- it leads on from any runs with no more bounds
commit_leads : (old new : CellStateData) (runs : LocalRuns) (given left : List RegionData) (batch : List Action) →
    IsCellState old → ((h : Stamp) → IsBound old runs h → IsBound old (runs_of given) h) →
    Commits old given batch new left → Leads old runs batch new
commit_leads old new runs given left batch is bounds commits = record {
  steps = commits.steps;
  floor = commits.horizon;
  state = commits.state;
  cell = committed old new given left batch is commits;
  at_least = λ h bound. none_lower new commits.horizon h commits.none_below
      (commits.is_horizon.greatest h (bounds h bound));
}

at_once_leads : (old new : CellStateData) (runs : LocalRuns) (batch : List Action) (left : List RegionData) →
    IsCellState old → CommitsAtOnce old runs batch new left → Leads old runs batch new
at_once_leads old new runs batch left is at_once =
    commit_leads old new runs at_once.given left batch is
    (λ h bound. subst (λ (v : LocalRuns). IsBound old v h) (sym at_once.are) bound) at_once.commits

-- ---- the first part
first_leads : (old new : CellStateData) (runs : LocalRuns) (batch : List Action) (left : List RegionData) →
    IsCellState old → AreStanding old runs → FirstPart old runs batch new left →
    Leads old runs batch new
first_leads old new runs batch left is stand first =
    commit_leads old new runs first.heard left batch is
    (passes_keep old runs (runs_of first.heard) first.passes is stand first.hear).bound first.commits

-- ---- after a commit of nothing, which raises the floor to f
-- a later floor in between makes no difference
same_followed : (f h : Stamp) (state : CellStateData) (xs : List Action) →
    raised h (followed_by (raised f state) xs) ≡ raised h (followed_by state xs)
same_followed f h state [] = refl
same_followed f h state (x ∷ xs) = refl

-- what leads on then leads on from the state before it
leads_after : (old new : CellStateData) (runs mids : LocalRuns) (f : Stamp) (batch : List Action) →
    Leads old runs [] (raised f old) → Leads (raised f old) mids batch new → Leads old runs batch new
leads_after old new runs mids f batch first then = record {
  steps = then.steps;
  floor = then.floor;
  state = then.state ∙ same_followed f then.floor old batch;
  cell = then.cell;
  at_least = λ h bound. subst (λ (v : CellStateData). HasNoneBelow v h) (sym then.state)
      (none_after batch (raised f old) new.placed h first.cell then.steps (first.at_least h bound));
}

advance_after : (old new : CellStateData) (runs mids : LocalRuns) (f : Stamp) (answer : Advance) →
    Leads old runs [] (raised f old) → IsAdvance (raised f old) mids answer new → IsAdvance old runs answer new
advance_after old new runs mids f (Raised batch) first (then, some) =
    (leads_after old new runs mids f batch first then, some)
advance_after old new runs mids f (End batch) first (then, none) =
    (leads_after old new runs mids f batch first then, none)
advance_after old new runs mids f (Fails batch limit) first (then, fails) =
    (leads_after old new runs mids f batch first then, fails)

-- ---- the second part
module _ (old : CellStateData) (runs : LocalRuns) (f : Stamp) (first : Leads old runs [] (raised f old))
    (fresh : LocalRuns) (dues : ℕ → Stamp) (k : ℕ) (all : AllFresh (raised f old) fresh)
    (least : IsLeastDue (raised f old) fresh dues k) where
  here : IsCellState (raised f old)
  here = first.cell

  next : IsNextAt (raised f old) k (dues k)
      ⊎ (HasNone (IsCandidateOf old) × (dues k ≡ end_stamp old.rules.end))
  next = least_due_is_next (raised f old) fresh dues k here (cell_laws (raised f old) here) all least

  -- if a step has something due, it is the next event
  next_at : (t : Stamp) → IsOffered (home_of old k) (now_of (fresh k)) t → IsNextAt (raised f old) k (dues k)
  next_at t off = elim next [
    | inl is ↦ is
    | inr none ↦ absurd (none.0 t (offered_is (raised f old) k (now_of (fresh k)) t
        (cell_laws (raised f old) here) least.within
        (fresh_still (raised f old) k (fresh k) (all k least.within)) off).1)
  ]

  none_left : dues k ≡ end_stamp old.rules.end → HasNone (IsCandidateOf old)
  none_left e = elim next [
    | inl is ↦ absurd (not_before_itself (dues k) (subst (Before (dues k)) (sym e)
        ((cell_states_are_orderly (raised f old) here).before_end (dues k) is.0.0)))
    | inr none ↦ none.0
  ]

  fails : (limit : Limit) (kept : Local) → StepsTo (home_of old k) (fresh k) (Halted limit) kept →
      FailsNext old limit
  fails limit kept step = by_answer (home_runs_next (raised f old) k (dues k) (fresh k) kept (Halted limit)
      (cell_laws (raised f old) here) (all k least.within) (next_at step.0.0 step.0.1.1.0) step)
    where
      by_answer : RunsNext (raised f old) (dues k) (fresh k) (Halted limit) kept → FailsNext old limit
      by_answer (inl (x, wrong, same, is_next, is)) = cc
      by_answer (inr (other, same, failed, is)) =
          let is_limit : limit ≡ other = cc in subst (FailsNext old) (sym is_limit) failed

  raises : (ran : LocalRuns) (after left : List RegionData) (batch : List Action) (new : CellStateData) →
      StepsTo (home_of old k) (fresh k) (Ran (dues k)) (ran k) → ((q : ℕ) → q ≢ k → ran q ≡ fresh q) →
      AllTakeIn (raised f old) ran k (runs_of after) → Commits (raised f old) after batch new left →
      Leads old runs batch new × (batch ≢ [])
  raises ran after left batch new step others took commits =
      by_answer (next_at (dues k) step.0.1.0) (home_runs_next (raised f old) k (dues k) (fresh k) (ran k)
      (Ran (dues k)) (cell_laws (raised f old) here) (all k least.within)
      (next_at (dues k) step.0.1.0) step)
    where
      leads : Leads old runs batch new
      leads = leads_after old new runs (runs_of after) f batch first
          (commit_leads (raised f old) new (runs_of after) after left batch here (λ h bound. bound) commits)

      by_answer : IsNextAt (raised f old) k (dues k) →
          RunsNext (raised f old) (dues k) (fresh k) (Ran (dues k)) (ran k) →
          Leads old runs batch new × (batch ≢ [])
      by_answer at (inr (limit, wrong, failed, is)) = cc
      by_answer at (inl (x, ran_it, same, is_next, is)) =
          let event : OneEvent (raised f old) k x fresh (runs_of after) = record {
            within = least.within;
            next = is_next;
            home = subst (λ (v : Stamp). IsHomeOf (raised f old) v k) (sym same) at.1;
            ran = ran;
            home_ran = is;
            others = others;
            took_in = took;
          } in (
            leads,
            not_empty (raised f old) new after left batch (stamp_of x) commits is_next.0.0
                (event_is_below (raised f old) k x fresh (runs_of after) here all event commits.horizon
                commits.is_horizon),
          )

  second : (answer : Advance) (new : CellStateData) (left : List RegionData) →
      SecondAnswers (raised f old) fresh k (dues k) answer new left → IsAdvance old runs answer new
  second (Raised batch) new left (ran, after, step, others, took, commits) =
      raises ran after left batch new step others took commits
  second (End batch) new left (at_end, none, same) =
      subst (λ (v : List Action). Leads old runs v new × HasNone (IsCandidateOf new)) (sym none)
      (subst (λ (v : CellStateData). Leads old runs [] v × HasNone (IsCandidateOf v)) (sym same)
      (first, none_left at_end))
  second (Fails batch limit) new left ((kept, step), none, same) =
      subst (λ (v : List Action). Leads old runs v new × FailsNext new limit) (sym none)
      (subst (λ (v : CellStateData). Leads old runs [] v × FailsNext v limit) (sym same)
      (first, fails limit kept step))

-- ---- both parts
parts_well : (old new : CellStateData) (runs : LocalRuns) (answer : Advance) (left : List RegionData) →
    IsCellState old → AreStanding old runs → WorksInParts old runs answer new left → IsAdvance old runs answer new
parts_well old new runs answer left is stand (inl (batch, first, some, same)) =
    subst (λ (v : Advance). IsAdvance old runs v new) (sym same)
    (first_leads old new runs batch left is stand first, some)
parts_well old new runs answer left is stand (inr (mid, regions, first, standing, part)) =
    let leads = first_leads old mid runs [] regions is stand first in
    from_raised leads.floor
    (subst (Leads old runs []) leads.state leads)
    (subst (λ (v : CellStateData). AreStanding v (runs_of regions)) leads.state standing)
    (subst (λ (v : CellStateData). SecondPart v (runs_of regions) answer new left) leads.state part)
  where
    from_raised : (f : Stamp) → Leads old runs [] (raised f old) →
        AreStanding (raised f old) (runs_of regions) →
        SecondPart (raised f old) (runs_of regions) answer new left → IsAdvance old runs answer new
    from_raised f leads standing part = second old runs f leads part.fresh part.dues part.home
        (pass_makes_fresh (raised f old) (runs_of regions) part.back part.fresh part.pass leads.cell
        standing part.rewound part.is_pass part.hear) part.least answer new left part.answers

-- ---- an advance
pub works_well : (old new : CellStateData) (runs : LocalRuns) (answer : Advance) (left : List RegionData) →
    IsCellState old → Works old runs answer new left → IsAdvance old runs answer new
works_well old new runs answer left is (inl (batch, at_once, some, same)) =
    subst (λ (v : Advance). IsAdvance old runs v new) (sym same)
    (at_once_leads old new runs batch left is at_once, some)
works_well old new runs answer left is (inr (mid, regions, at_once, standing, parts)) =
    let leads = at_once_leads old mid runs [] regions is at_once in
    advance_after old new runs (runs_of regions) leads.floor answer
    (subst (Leads old runs []) leads.state leads)
    (subst (λ (v : CellStateData). IsAdvance v (runs_of regions) answer new) leads.state
    (parts_well mid new (runs_of regions) answer left leads.cell standing parts))
