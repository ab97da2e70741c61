-- How the state goes on while what is committed is left to be told.
use Rattle.std.proofs.Common.{◌≡◌, ◌≢◌, Ok, Err, List, [], ◌∷◌, sym, ap, ◌∙◌, subst, refl, true, false}
use Rattle.std.proofs.Common.{ℕ, Option, Some, None}
use Rattle.std.specs.Prelude.{is_some, Result, IfOk}
use Rattle.std.specs.Option.{option_or}
use Rattle.fixed_motion.specs.declared.rules.Rules.{Rules}
use Rattle.event_stamps.specs.declared.Stamp.{Stamp}
use Rattle.event_rules.specs.declared.change.Limit.{Limit as Failure}
use Rattle.event_rules.specs.declared.outcome.RunFault.{RunFault}
use Rattle.event_rules.specs.declared.outcome.RunFault.TheVariants.{Listener, NoMemory}
use Rattle.event_rules.specs.Tellings.{CountsRun}
use Rattle.cell_grid.specs.Grid.{GridData}
use Rattle.region_view.specs.declared.action.Action.{Action}
use Rattle.region_view.specs.Acting.{stamp_of}
use Rattle.cell_sequence.specs.State.{CellStateData, IsCellState, followed_by, raised, last_stamp}
use Rattle.local_run.specs.declared.answers.Step.{Step}
use Rattle.local_run.specs.declared.answers.Step.TheVariants.{Ran, Halted}
use Rattle.local_run.specs.Opening.{RegionData}
use Rattle.commit_horizon.specs.declared.cutting.Final.{Final}
use Rattle.commit_horizon.specs.Horizon.{runs_of, AllStand, AllKept}
use Rattle.commit_horizon.specs.Telling.{IsStateOf}
use Rattle.commit_horizon.specs.Cutting.{FinalMade}
use Rattle.commit_horizon.proofs.Commit.{final_is}
use Rattle.commit_horizon.proofs.Standing.{are_standing}
use Rattle.run_core.specs.declared.answers.Advance.TheVariants.{Raised}
use Rattle.run_core.specs.declared.answers.AdvanceKind.{AdvanceKind}
use Rattle.run_core.specs.declared.answers.AdvanceKind.TheVariants.{Raised as GoesOn, End as Ends, Limit as Fails}
use Rattle.run_core.specs.Advances.{IsAdvance, Works}
use Rattle.run_core.specs.AdvancesUntold.{answer_with, AdvanceMade, PartsMade, EventMade}
use Rattle.run_core.specs.Passing.{Agrees}
use Rattle.run_core.specs.Simulates.{batch_of, AdvancesBy}
use Rattle.run_core.specs.Standing.{GoesOnTo, ComesOf}
use Rattle.run_core.specs.Taking.{StandOnCells, RunsEvent}
use Rattle.run_core.proofs.Advancing.{works_well}
use Rattle.run_core.proofs.Floors.{past_on}
use Rattle.run_core.proofs.OneState.{goes_on_by}
use Rattle.run_core.proofs.Simulating.{leads_of}
use Rattle.run_core.proofs.Homes.{event_ran, event_halted, event_idled}
use Rattle.run_core.proofs.Parts.{in_first, in_second, works_at_once, works_later}

-- ---- one answer and another
pub batch_in : (kind : AdvanceKind) (batch : List Action) → batch ≡ batch_of (answer_with kind batch)
batch_in GoesOn batch = refl
batch_in Ends batch = refl
batch_in (Fails limit) batch = refl

-- a kind that is none of the others
pub ends_else : (kind : AdvanceKind) → ¬ (kind ≡ GoesOn) → ((limit : Failure) → ¬ (kind ≡ Fails limit)) → kind ≡ Ends
ends_else GoesOn not_raised not_limit = absurd (not_raised refl)
ends_else Ends not_raised not_limit = refl
ends_else (Fails limit) not_raised not_limit = absurd (not_limit limit refl)

-- what holds of a known error holds of a `Result` that is that error
pub at_fault : {T E : Type 0} (P : Result T E → Type 0) (r : Result T E) (e fault : E) → r ≡ Err e → e ≡ fault →
    P (Err fault) → P r
at_fault P r e fault is known holds = subst P (sym (is ∙ ap Err known)) holds

-- a count of refusals if a call breaks off, whatever it would have answered
pub counts_of_err : (S T : Type 0) (before after : ℕ) (fault : RunFault) →
    CountsRun {T = S} before after (Err fault) → CountsRun {T = T} before after (Err fault)
counts_of_err S T before after Listener h = h
counts_of_err S T before after NoMemory h = h

pub if_ok_goes : {T E : Type 0} (r : Result T E) {P Q : T → Type 0} → ((x : T) → P x → Q x) → IfOk r P → IfOk r Q
if_ok_goes (Ok x) f p = f x p
if_ok_goes (Err e) f p = tt

-- ---- the second part
-- regions on a state that comes from an earlier one are regions of its grid
pub stand_on_cells : (earlier : CellStateData) (grid : GridData) (floor : Stamp) (regions : List RegionData)
    (state : CellStateData) → grid ≡ earlier.grid → ComesOf earlier floor regions state →
    StandOnCells grid regions state
stand_on_cells earlier grid floor regions state grid_is of =
    record { is = of.is; grid_is = of.grid_is ∙ sym grid_is; stand = of.stand }

-- and others that stand on it have its rules
pub state_with : (earlier : CellStateData) (rules : Rules) (floor : Stamp) (regions left : List RegionData)
    (state : CellStateData) → rules ≡ earlier.rules → ComesOf earlier floor regions state → AllStand state left →
    IsStateOf rules left state
state_with earlier rules floor regions left state rules_are of stand =
    record { is = of.is; rules_are = of.rules_are ∙ sym rules_are; stand = stand }

module _ (old : CellStateData) (floor : Stamp) (is : IsCellState old) (floor_is : old.floor ≡ floor)
    (regions left : List RegionData) (step : Step) (event : RunsEvent old regions step left)
    (batch : List Action) where
  -- the event was run, and committed
  pub made_event : (s : Stamp) → step ≡ Ran s → (made : Final) (last : List RegionData) →
      FinalMade old left made batch last → EventMade old regions GoesOn batch made last
  made_event s ran made last final = record {
    new = final.new;
    is = event_ran old is regions left step event s ran batch final.new last final.commits;
    state = final_is old left last made batch final;
    is_last = final.is_last;
    stand = final.commits.stand;
  }

  abbrev no_batch : Final
  no_batch = record { last = None; floor = floor }

  module _ (none : batch ≡ []) where
    stays : old ≡ raised floor (followed_by old batch)
    stays = subst (λ (v : List Action). old ≡ raised floor (followed_by old v)) (sym none)
        (λ i. record old { floor = floor_is i })

    -- it fails a limit
    pub halts_at : (limit : Failure) → step ≡ Halted limit → EventMade old regions (Fails limit) batch no_batch left
    halts_at limit halts = record {
      new = old;
      is = event_halted old is regions left step event limit halts batch none;
      state = stays;
      is_last = sym (ap last_stamp none);
      stand = event.stand;
    }

    -- there is none
    pub ends_all : ((s : Stamp) → ¬ (step ≡ Ran s)) → ((limit : Failure) → ¬ (step ≡ Halted limit)) →
        EventMade old regions Ends batch no_batch left
    ends_all not_ran not_halted = record {
      new = old;
      is = event_idled old is regions left step event not_ran not_halted batch none;
      state = stays;
      is_last = sym (ap last_stamp none);
      stand = event.stand;
    }

-- ---- batches
-- whether a batch has a last action
abbrev stamp_at : Action → List Action → Stamp
stamp_at x [] = stamp_of x
stamp_at x (y ∷ xs) = stamp_at y xs

empty_batch : (last : Option Stamp) (batch : List Action) → last ≡ last_stamp batch → false ≡ is_some last →
    batch ≡ []
empty_batch last [] is not = refl
empty_batch last (x ∷ batch) is not =
    let wrong = not ∙ ap is_some (is ∙ last_is_some x batch) in cc
  where
    last_is_some : (x : Action) (xs : List Action) → last_stamp (x ∷ xs) ≡ Some (stamp_at x xs)
    last_is_some x [] = refl
    last_is_some x (y ∷ xs) = last_is_some y xs

not_empty : (last : Option Stamp) (batch : List Action) → last ≡ last_stamp batch → true ≡ is_some last →
    batch ≢ []
not_empty last batch is some none =
    let wrong = some ∙ ap is_some (is ∙ ap last_stamp none) in cc

-- a floor that is raised before more actions doesn't matter
raised_before : (h f : Stamp) (xs : List Action) (state : CellStateData) →
    raised f (followed_by (raised h state) xs) ≡ raised f (followed_by state xs)
raised_before h f [] state = refl
raised_before h f (x ∷ xs) state = refl

-- ---- a commit, and what is made after it
module _ (old : CellStateData) (heard : List RegionData) (made : Final) (batch : List Action)
    (left : List RegionData) (final : FinalMade old heard made batch left) where
  pub some_made : true ≡ is_some made.last → batch ≢ []
  some_made some none = not_empty made.last batch final.is_last some none

  module _ (not : false ≡ is_some made.last) where
    pub none_made : batch ≡ []
    none_made = empty_batch made.last batch final.is_last not

    same : final.new ≡ raised made.floor old
    same = final_is old heard left made batch final ∙ ap (λ (xs : List Action). raised made.floor (followed_by old xs)) none_made

    -- the state stays but for its floor
    pub mid_comes : (earlier : CellStateData) (given : List RegionData) → ComesOf earlier old.floor given old →
        ComesOf earlier made.floor left final.new
    mid_comes earlier given of = record {
      is = final.cell;
      rules_are = ap (λ (v : CellStateData). v.rules) same ∙ of.rules_are;
      grid_is = ap (λ (v : CellStateData). v.grid) same ∙ of.grid_is;
      floor_is = final.floor;
      stand = final.commits.stand;
    }

    pub mid_itself : (earlier : CellStateData) (given : List RegionData) → ComesOf earlier old.floor given old →
        ComesOf earlier final.new.floor left final.new
    mid_itself earlier given of =
        subst (λ (f : Stamp). ComesOf earlier f left final.new) (sym final.floor) (mid_comes earlier given of)

    -- what goes on from it goes on from the state before
    state_on : (new : CellStateData) (then : Final) (more : List Action) →
        new ≡ raised then.floor (followed_by final.new more) → new ≡ raised then.floor (followed_by old more)
    state_on new then more is = is
        ∙ ap (λ (v : CellStateData). raised then.floor (followed_by v more)) same
        ∙ raised_before made.floor then.floor more old

-- ---- both parts
module _ (old : CellStateData) (given heard : List RegionData) (stand : AllStand old given) (kept : AllKept given)
    (agrees : Agrees old given heard) (made : Final) (batch : List Action) (left : List RegionData)
    (final : FinalMade old heard made batch left) where
  -- the first part committed some actions
  pub first_made : true ≡ is_some made.last → PartsMade old given GoesOn batch made left
  first_made some = record {
    new = final.new;
    standing = are_standing old given stand kept;
    works = in_first old final.new given heard left batch agrees final.commits
        (some_made old heard made batch left final some);
    state = final_is old heard left made batch final;
    is_last = final.is_last;
    stand = final.commits.stand;
  }

  -- it committed none
  pub second_made : false ≡ is_some made.last → (kind : AdvanceKind) (more : List Action) (then : Final)
      (last : List RegionData) → EventMade final.new left kind more then last →
      PartsMade old given kind more then last
  second_made not kind more then last event = record {
    new = event.new;
    standing = are_standing old given stand kept;
    works = in_second old final.new given heard left batch agrees final.commits event.new last
        (answer_with kind more) (none_made old heard made batch left final not) event.is;
    state = state_on old heard made batch left final not event.new then more event.state;
    is_last = event.is_last;
    stand = event.stand;
  }

-- ---- an advance
module _ (old : CellStateData) (given : List RegionData) (is : IsCellState old) (made : Final) (batch : List Action)
    (left : List RegionData) (final : FinalMade old given made batch left) where
  -- some actions were committed at once
  pub made_at_once : true ≡ is_some made.last → AdvanceMade old given GoesOn batch made left
  made_at_once some =
      let works = works_at_once old final.new given left batch final.commits
      (some_made old given made batch left final some) in record {
        new = final.new;
        works = works;
        is = works_well old final.new (runs_of given) (Raised batch) left is works;
        state = final_is old given left made batch final;
        is_last = final.is_last;
        stand = final.commits.stand;
      }

  -- none was
  pub made_later : false ≡ is_some made.last → (kind : AdvanceKind) (more : List Action) (then : Final)
      (last : List RegionData) → PartsMade final.new left kind more then last →
      AdvanceMade old given kind more then last
  made_later not kind more then last parts =
      let works = works_later old final.new given left batch final.commits parts.new last (answer_with kind more)
      (none_made old given made batch left final not) parts.standing parts.works in record {
        new = parts.new;
        works = works;
        is = works_well old parts.new (runs_of given) (answer_with kind more) last is works;
        state = state_on old given made batch left final not parts.new then more parts.state;
        is_last = parts.is_last;
        stand = parts.stand;
      }

-- ---- regions with their state
module _ (earlier : CellStateData) (last : Option Stamp) (floor : Stamp) (given : List RegionData)
    (old : CellStateData) (goes : GoesOnTo earlier last floor given old) (left : List RegionData) (kind : AdvanceKind)
    (batch : List Action) (made : Final) (advance : AdvanceMade old given kind batch made left) where
  pub goes_to : GoesOnTo earlier (option_or made.last last) made.floor left advance.new
  goes_to = goes_on_by earlier last floor given old goes batch made.last made.floor left advance.new
      (leads_of old advance.new (runs_of given) (answer_with kind batch) advance.is).cell
      (past_on old advance.new (runs_of given) (answer_with kind batch) left goes.past advance.works) advance.stand
      advance.state advance.is_last

  pub advances_to : (new : CellStateData) → new ≡ advance.new →
      AdvancesBy old (runs_of given) (answer_with kind batch) new
  advances_to new same = record {
    left = left;
    is = subst (IsAdvance old (runs_of given) (answer_with kind batch)) (sym same) advance.is;
    works = subst (λ (v : CellStateData). Works old (runs_of given) (answer_with kind batch) v left) (sym same)
        advance.works;
  }
