-- What any interleaving of calls makes final is the run.
use Rattle.std.proofs.Common.{◌≡◌, inl, inr, ℕ, ◌<◌, List, [], ◌∷◌, ◌++◌, append-nil, length, slice_get, Option, Some, sym, ap, ◌∙◌, subst, refl}
use Rattle.std.proofs.lemmas.List.{length-set}
use Rattle.std.proofs.lemmas.Option.{slice_get_within, slice_get-get_or, same_Some}
use Rattle.fixed_motion.specs.declared.rules.Rules.{Rules}
use Rattle.event_rules.specs.declared.outcome.Outcome.{Outcome}
use Rattle.event_rules.specs.declared.outcome.Outcome.TheVariants.{Done}
use Rattle.event_rules.specs.Run.{spots_of}
use Rattle.cell_grid.specs.Grid.{GridData}
use Rattle.region_view.specs.declared.action.Action.{Action}
use Rattle.cell_sequence.specs.Run.{disks_of, CellSteps, CellRuns}
use Rattle.cell_sequence.specs.State.{CellStateData, opening_state}
use Rattle.cell_sequence.proofs.Hits.{hits_are_changes, hits_are_steps}
use Rattle.cell_sequence.proofs.Joins.{steps_join, runs_join}
use Rattle.local_run.specs.Opening.{RegionData}
use Rattle.local_run.specs.Standing.{StandsOn}
use Rattle.commit_horizon.specs.Horizon.{LocalRuns}
use Rattle.run_core.specs.declared.playing.CoreStep.{CoreStep}
use Rattle.run_core.specs.declared.playing.CoreStep.TheVariants.{Turn, Hear}
use Rattle.run_core.specs.declared.playing.Answer.{Answer}
use Rattle.run_core.specs.declared.answers.Advance.TheVariants.{End}
use Rattle.run_core.specs.Advances.{IsAdvance, Leads}
use Rattle.run_core.specs.Plays.{Plays, PlaysOne}
use Rattle.run_core.specs.Interleavings.{Interleaves, EndsWith, PlayedStand, InterleavingsTellTheRun}
use Rattle.run_core.proofs.Advancing.{rules_after}
use Rattle.run_core.proofs.Simulating.{grid_after, limits_end_the_run}
use Rattle.run_core.proofs.Calls.{plays_stand}

-- ---- regions go on standing
one_keeps_count : (regions after : List RegionData) (c : CoreStep) (first : Option Answer) →
    PlaysOne regions c first after → length after ≡ length regions
unfolding PlaysOne
one_keeps_count regions after (Turn k) first (inl (s, within, turns, is)) = ap length turns.is ∙ length-set regions k turns.left
one_keeps_count regions after (Turn k) first (inr (past, (none, same))) = ap length same
one_keeps_count regions after (Hear k q) first (inl (answer, pair, meets, is)) = ap length meets.is ∙ length-set regions k meets.left
one_keeps_count regions after (Hear k q) first (inr (not, (none, same))) = ap length same

keep_count : (regions after : List RegionData) (calls : List CoreStep) (answers : List Answer) →
    Plays regions calls answers after → length after ≡ length regions
unfolding Plays
keep_count regions after [] answers (none, same) = ap length same
keep_count regions after (c ∷ calls) answers (mid, first, rest, one, others, is) =
    keep_count mid after calls rest others ∙ one_keeps_count regions mid c first one

pub played_stand : PlayedStand
played_stand state regions worked calls answers stand plays = record { count = count ∙ stand.count; each = each }
  where
    count : length worked ≡ length regions
    count = keep_count regions worked calls answers plays

    each : (k : ℕ) (region : RegionData) → slice_get worked k ≡ Some region → StandsOn state k region
    each k region at =
        let within : k < length regions = subst (λ (n : ℕ). k < n) count (slice_get_within worked k region at) in
        let here = slice_get-get_or regions k region within in
        let on = plays_stand regions worked calls answers plays state k k _ here (stand.each k _ here) in
        subst (StandsOn state k) (same_Some on.0 region (sym on.1 ∙ at)) on.2

-- ---- what is final
-- the state has come by the actions of the cell run
record HasCome (old new : CellStateData) (actions : List Action) : Type 0 where
  rules : new.rules ≡ old.rules
  grid : new.grid ≡ old.grid
  steps : CellSteps old.rules old.grid old.placed actions new.placed

led : (old new : CellStateData) (runs : LocalRuns) (batch : List Action) → Leads old runs batch new → HasCome old new batch
led old new runs batch leads = record {
  rules = ap (λ (v : CellStateData). v.rules) leads.state ∙ rules_after batch old;
  grid = ap (λ (v : CellStateData). v.grid) leads.state ∙ grid_after batch old;
  steps = leads.steps;
}

joined : (old mid new : CellStateData) (xs ys : List Action) → HasCome old mid xs → HasCome mid new ys → HasCome old new (xs ++ ys)
joined old mid new xs ys first next = record {
  rules = next.rules ∙ first.rules;
  grid = next.grid ∙ first.grid;
  steps = steps_join old.rules old.grid old.placed mid.placed new.placed xs ys first.steps
      (subst (λ (g : GridData). CellSteps old.rules g mid.placed ys new.placed) first.grid
      (subst (λ (r : Rules). CellSteps r mid.grid mid.placed ys new.placed) first.rules next.steps));
}

come : (old : CellStateData) (lists : List (List CoreStep)) (actions : List Action) (new : CellStateData) →
    Interleaves old lists actions new → HasCome old new actions
come old [] actions new (none, same) = record {
  rules = ap (λ (v : CellStateData). v.rules) same;
  grid = ap (λ (v : CellStateData). v.grid) same;
  steps = subst (λ (xs : List Action). CellSteps old.rules old.grid old.placed xs new.placed) (sym none)
      (ap (λ (v : CellStateData). v.placed) same);
}
come old (calls ∷ lists) actions new (batch, rest, mid, plays, more, is) =
    subst (HasCome old new) (sym is)
    (joined old mid new batch rest (led old mid _ batch plays.advances.0) (come mid lists rest new more))

-- and so the run ends
runs_on : (old new : CellStateData) (xs ys : List Action) (outcome : Outcome) → HasCome old new xs →
    CellRuns new.rules new.grid new.placed ys outcome → CellRuns old.rules old.grid old.placed (xs ++ ys) outcome
runs_on old new xs ys outcome has run =
    runs_join old.rules old.grid old.placed new.placed xs ys outcome has.steps
    (subst (λ (g : GridData). CellRuns old.rules g new.placed ys outcome) has.grid
    (subst (λ (r : Rules). CellRuns r new.grid new.placed ys outcome) has.rules run))

ends_the_run : (old new : CellStateData) (runs : LocalRuns) (batch : List Action) → IsAdvance old runs (End batch) new →
    CellRuns old.rules old.grid old.placed batch (Done (spots_of new.rules.end (disks_of new.placed)))
ends_the_run old new runs batch (leads, none) =
    subst (λ (v : List Action). CellRuns old.rules old.grid old.placed v (Done (spots_of new.rules.end (disks_of new.placed)))) (append-nil batch)
    (runs_on old new batch [] (Done (spots_of new.rules.end (disks_of new.placed))) (led old new runs batch leads) (none, refl))

ended : (old : CellStateData) (calls : List CoreStep) (batch : List Action) (outcome : Outcome) →
    EndsWith old calls batch outcome → CellRuns old.rules old.grid old.placed batch outcome
ended old calls batch outcome (new, inl (plays, is)) =
    subst (CellRuns old.rules old.grid old.placed batch) (sym is) (ends_the_run old new _ batch plays.advances)
ended old calls batch outcome (new, inr (limit, plays, is)) =
    subst (CellRuns old.rules old.grid old.placed batch) (sym is) (limits_end_the_run old new _ batch limit plays.advances)

pub interleavings_tell_the_run : InterleavingsTellTheRun
interleavings_tell_the_run scene asked lists actions state valid some interleaves =
    let has = come (opening_state scene asked) lists actions state interleaves in (
      hits_are_steps scene asked actions state.placed valid some has.steps,
      λ calls batch outcome ends.
          hits_are_changes scene asked (actions ++ batch) outcome valid some
          (runs_on (opening_state scene asked) state actions batch outcome has (ended state calls batch outcome ends)),
    )
