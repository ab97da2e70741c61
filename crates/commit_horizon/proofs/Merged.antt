-- The central induction: what the regions did before a bound, in order, is what the cell run does up to it.
use Rattle.std.proofs.Common.{◌≡◌, inl, inr, ℕ, List, [], ◌∷◌, ap, ◌∙◌, sym, subst, refl}
use Rattle.event_stamps.specs.declared.Stamp.{Stamp}
use Rattle.event_stamps.specs.Order.{Before, end_stamp}
use Rattle.event_stamps.proofs.StampOrder.{before_trans, not_before_itself}
use Rattle.cell_grid.specs.Grid.{IsRegion}
use Rattle.region_view.specs.declared.action.Action.{Action}
use Rattle.region_view.specs.Acting.{stamp_of}
use Rattle.region_messages.specs.Trails.{IsAmong}
use Rattle.cell_sequence.specs.State.{CellStateData, IsCellState, followed}
use Rattle.cell_sequence.specs.Laws.{Sees}
use Rattle.cell_sequence.proofs.Followed.{followed_is, raised_is}
use Rattle.local_run.specs.declared.entry.Entry.TheVariants.{Native}
use Rattle.local_run.specs.Entries.{entries_below}
use Rattle.local_run.specs.LocalRun.{At, Local, start_of, after_log}
use Rattle.commit_horizon.specs.Horizon.{LocalRuns, IsDone, IsMerged}
use Rattle.commit_horizon.specs.Laws.{IsNextMerged, MergedIsNext}
use Rattle.commit_horizon.proofs.GoesOn.{AllGoOn, HeadNotBefore, IsLeastEntry, IsRestOf, past}
use Rattle.commit_horizon.proofs.Past.{past_after, past_keeps, rest_whole, rest_past, done_is_below}
use Rattle.commit_horizon.proofs.Steps.{central_step, central_end, heads_late}
use Rattle.commit_horizon.proofs.Offered.{cell_laws}
use Rattle.commit_horizon.proofs.Bounds.{all_go_on}

-- the first of the merged entries is the least of all
pub least_of : (state : CellStateData) (runs : LocalRuns) (h : Stamp) (x : Action) (xs : List Action)
    (merged : IsMerged state runs h (x ∷ xs)) →
    IsLeastEntry state runs (merged.are x (inl refl)).home x
least_of state runs h x xs merged =
    let done = merged.are x (inl refl) in
    record {
      within = done.within;
      among = done.among;
      least = λ q y within among less. by_member y less (merged.all y (record {
        home = q;
        within = within;
        among = among;
        before = before_trans (stamp_of y) (stamp_of x) h less done.before;
      }));
    }
  where
    by_member : (y : Action) → Before (stamp_of y) (stamp_of x) → IsAmong y (x ∷ xs) → ⊥
    by_member y less (inl is) =
        not_before_itself (stamp_of x) (subst (λ (v : Action). Before (stamp_of v) (stamp_of x)) is less)
    by_member y less (inr more) = not_before_itself (stamp_of x)
        (before_trans (stamp_of x) (stamp_of y) (stamp_of x) (merged.rise.0 y more) less)

-- the others are those of what is left
pub rest_merged : (state : CellStateData) (runs : LocalRuns) (h : Stamp) (x : Action) (xs : List Action) →
    AllGoOn state h runs → IsMerged state runs h (x ∷ xs) →
    ((q : ℕ) → IsRegion state.grid q → HeadNotBefore (stamp_of x) (runs q).log) →
    IsMerged (followed state x) (λ q. past (stamp_of x) (runs q)) h xs
rest_merged state runs h x xs all merged heads = record {
  rise = merged.rise.1;
  are = λ y among. left y among (merged.are y (inr among));
  all = λ y done. whole y done;
}
  where
    left : (y : Action) → IsAmong y xs → IsDone state runs h y →
        IsDone (followed state x) (λ q. past (stamp_of x) (runs q)) h y
    left y among done = record {
      home = done.home;
      within = done.within;
      among = past_keeps (stamp_of x) (runs done.home) (heads done.home done.within) (Native y) done.among
          (merged.rise.0 y among);
      before = done.before;
    }

    not_first : (y : Action) → Before (stamp_of x) (stamp_of y) → IsAmong y (x ∷ xs) → IsAmong y xs
    not_first y after (inl is) = absurd (not_before_itself (stamp_of x)
        (subst (λ (v : Action). Before (stamp_of x) (stamp_of v)) is after))
    not_first y after (inr more) = more

    whole : (y : Action) → IsDone (followed state x) (λ q. past (stamp_of x) (runs q)) h y → IsAmong y xs
    whole y done =
        let k = done.home in
        let was = past_after (stamp_of x) (runs k) (heads k done.within) (all.each k done.within).rises
        (Native y) done.among in
        not_first y was.0 (merged.all y
        (record { home = k; within = done.within; among = was.1; before = done.before }))

-- the view after the entries that are done is that after all entries before h
done_view : (h : Stamp) (whole run : Local) → IsRestOf h whole run → HeadNotBefore h run.log →
    run.base ≡ (after_log (start_of whole) (entries_below h whole.log)).view
done_view h whole run rest late =
    let below : entries_below h whole.log ≡ rest.done
    = ap (entries_below h) rest.log ∙ done_is_below h rest.done run.log rest.before late in
    ap (λ (a : At). a.view) (rest.at ∙ ap (after_log (start_of whole)) (sym below))

-- the induction, of runs and of what is left of them
from_rest : (xs : List Action) (state : CellStateData) (runs left : LocalRuns) (h : Stamp) → IsCellState state →
    ¬ Before (end_stamp state.rules.end) h → ¬ Before h state.floor → AllGoOn state h left →
    ((k : ℕ) → IsRegion state.grid k → IsRestOf h (runs k) (left k)) → IsMerged state left h xs →
    IsNextMerged state runs h xs
from_rest [] state runs left h is in_time floor all rests merged =
    let end = central_end state h left (cell_laws state is) all (λ q x within among before. merged.all x
    (record { home = q; within = within; among = among; before = before })) in
    record {
      steps = refl;
      none_below = end.0;
      leads = raised_is state h is floor in_time end.0;
      views = λ k within. subst (Sees state k)
          (done_view h (runs k) (left k) (rests k within) (end.1 k within)) (all.each k within).base;
    }
from_rest (x ∷ xs) state runs left h is in_time floor all rests merged =
    let done = merged.are x (inl refl) in
    let t = stamp_of x in
    let entry = least_of state left h x xs merged in
    let step = central_step state h left done.home x (cell_laws state is) all entry done.before in
    let heads = heads_late state h left done.home x (cell_laws state is) all entry done.before in
    let rest = from_rest xs (followed state x) runs (λ q. past t (left q)) h
    (followed_is state x is step.0.0 step.0.1) in_time
    (λ less. not_before_itself h (before_trans h t h less done.before)) step.2
    (λ k within. rest_past h t (runs k) (left k) (rests k within) (heads k within) done.before)
    (rest_merged state left h x xs all merged heads) in
    record {
      steps = (step.0.0, step.0.1, rest.steps);
      none_below = rest.none_below;
      leads = rest.leads;
      views = rest.views;
    }

pub merged_is_next : MergedIsNext
merged_is_next state runs h xs is stand bound merged =
    from_rest xs state runs runs h is bound.end bound.floor
    (all_go_on state runs h stand bound) (λ k within. rest_whole h (runs k)) merged
