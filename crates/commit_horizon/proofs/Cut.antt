-- What regions did before a bound, put in order, is a merge of what each of them did, and can be told.
use Rattle.std.proofs.Common.{◌≡◌, ◌≢◌, inl, inr, ℕ, zero, suc, ◌<◌, List, [], ◌∷◌, length, map, set, get_or, get_or-set_same, get_or-set_other}
use Rattle.std.proofs.Common.{Some, sym, ap, ◌∙◌, subst, refl}
use Rattle.std.specs.Prelude.{slice_get}
use Rattle.std.proofs.lemmas.Bool.{cases_lt}
use Rattle.std.proofs.lemmas.List.{get_or_past, length-map, length-set}
use Rattle.std.proofs.lemmas.Option.{none-some, same_Some}
use Rattle.event_stamps.specs.declared.Stamp.{Stamp}
use Rattle.event_stamps.specs.Order.{Before}
use Rattle.event_stamps.proofs.StampOrder.{before_trans, before_decides, same_stamp}
use Rattle.cell_grid.specs.Grid.{IsRegion}
use Rattle.region_view.specs.declared.action.Action.{Action}
use Rattle.region_view.specs.Acting.{stamp_of}
use Rattle.region_messages.specs.Trails.{IsAmong}
use Rattle.cell_sequence.specs.State.{CellStateData, IsCellState, followed}
use Rattle.cell_sequence.specs.Laws.{IsNextAction, IsHomeOf}
use Rattle.cell_sequence.proofs.Followed.{followed_is}
use Rattle.cell_sequence.proofs.Orderly.{cell_states_are_orderly}
use Rattle.local_run.specs.declared.entry.Entry.{Entry}
use Rattle.local_run.specs.declared.entry.Entry.TheVariants.{Native, Heard}
use Rattle.local_run.specs.Entries.{entry_stamp, RiseFrom, entries_below}
use Rattle.local_run.specs.LocalRun.{Local}
use Rattle.local_run.specs.Opening.{RegionData}
use Rattle.local_run.specs.Keeping.{entries_of}
use Rattle.local_run.proofs.Among.{same_or_other}
use Rattle.local_run.proofs.Logs.{rises_log_tail, among_after, below_in, below_out}
use Rattle.commit_horizon.specs.Horizon.{LocalRuns, runs_of, AllStand, AllKept, ActionStampsRise, IsBound, IsDone, IsMerged}
use Rattle.commit_horizon.proofs.Merging.{actions_below}
use Rattle.commit_horizon.specs.Untold.{actions_in, ActionsBeginAfter, IsMergeOf, CanBeTold, AllListsRise, CanBeTellings}
use Rattle.commit_horizon.proofs.GoesOn.{AllGoOn, HeadNotBefore, IsLeastEntry, past}
use Rattle.commit_horizon.proofs.Past.{head_is, past_first}
use Rattle.commit_horizon.proofs.Steps.{central_step, heads_late}
use Rattle.commit_horizon.proofs.Offered.{cell_laws}
use Rattle.commit_horizon.proofs.Bounds.{all_go_on}
use Rattle.commit_horizon.proofs.Merged.{least_of, rest_merged}
use Rattle.commit_horizon.proofs.Standing.{region_on, region_at, are_standing}
use Rattle.commit_horizon.proofs.Heads.{actions_in as below_in_order, actions_out, actions_among, actions_rise}
use Rattle.commit_horizon.proofs.Merges.{only_least, same_actions}
use Rattle.commit_horizon.proofs.Tellings.{next_tellable}

-- ---- the actions of a log before a stamp
-- none of entries that all come after one that isn't before it
none_below : (h s : Stamp) (es : List Entry) → ¬ Before s h →
    ((e : Entry) → IsAmong e es → Before s (entry_stamp e)) → actions_below h es ≡ []
none_below h s es not after = by_actions (actions_below h es) refl
  where
    by_actions : (xs : List Action) → actions_below h es ≡ xs → xs ≡ []
    by_actions [] is = refl
    by_actions (x ∷ xs) is =
        let found = actions_among h es x (subst (IsAmong x) (sym is) (inl refl)) in
        absurd (not (before_trans s (stamp_of x) h (after (Native x) found.0) found.1))

-- they are those of the entries before it
pub below_are : (f h : Stamp) (log : List Entry) → RiseFrom f log → actions_in (entries_below h log) ≡ actions_below h log
below_are f h [] rises = refl
below_are f h (Native x ∷ es) rises = elim (before_decides (stamp_of x) h) [
  | inl lt ↦ ap actions_in (below_in h (Native x) es lt)
      ∙ ap (λ (v : List Action). x ∷ v) (below_are (stamp_of x) h es (rises_log_tail (stamp_of x) es rises.1))
      ∙ sym (below_in_order h x es lt)
  | inr not ↦ ap actions_in (below_out h (Native x) es not) ∙ sym (actions_out h x es not)
]
below_are f h (Heard q m ∷ es) rises = elim (before_decides m.stamp h) [
  | inl lt ↦ ap actions_in (below_in h (Heard q m) es lt)
      ∙ below_are m.stamp h es (rises_log_tail m.stamp es rises.1)
  | inr not ↦ ap actions_in (below_out h (Heard q m) es not)
      ∙ sym (none_below h m.stamp es not (λ e among. among_after m.stamp es e rises.1 among))
]

-- ---- what is left of the regions
-- a list for each region, of what it did before the stamp
pub record AreListsOf (state : CellStateData) (h : Stamp) (runs : LocalRuns) (lists : List (List Action)) : Type 0 where
  pub count : length lists ≡ state.grid.regions
  pub own : (k : ℕ) → IsRegion state.grid k → get_or lists k [] ≡ actions_below h (runs k).log

module _ (state : CellStateData) (h : Stamp) (runs : LocalRuns) (lists : List (List Action))
    (of : AreListsOf state h runs lists) where
  -- what holds for no actions and for those of each region holds for each list
  by_region : (P : List Action → Type 0) (k : ℕ) → P [] → (IsRegion state.grid k → P (actions_below h (runs k).log)) →
      P (get_or lists k [])
  by_region P k none each = elim (cases_lt k (length lists)) [
    | inl lt ↦
        let within : IsRegion state.grid k = subst (λ (n : ℕ). k < n) of.count lt in
        subst P (sym (of.own k within)) (each within)
    | inr out ↦ subst P (sym (get_or_past lists k [] out)) none
  ]

  lists_rise : AllGoOn state h runs → AllListsRise lists
  lists_rise all k = by_region ActionStampsRise k tt
      (λ within. actions_rise (runs k).floor h (runs k).log (all.each k within).rises)

  none_left : IsMerged state runs h [] → IsMergeOf lists []
  none_left merged k = by_region (λ (v : List Action). v ≡ []) k refl
      (λ within. by_actions within (actions_below h (runs k).log) refl)
    where
      by_actions : IsRegion state.grid k → (xs : List Action) → actions_below h (runs k).log ≡ xs → xs ≡ []
      by_actions within [] is = refl
      by_actions within (x ∷ xs) is =
          let found = actions_among h (runs k).log x (subst (IsAmong x) (sym is) (inl refl)) in
          absurd (merged.all x (record { home = k; within = within; among = found.0; before = found.1 }))

  module _ (is : IsCellState state) (all : AllGoOn state h runs) (x : Action) (xs : List Action)
      (merged : IsMerged state runs h (x ∷ xs)) where
    abbrev done : IsDone state runs h x
    done = merged.are x (inl refl)

    entry : IsLeastEntry state runs done.home x
    entry = least_of state runs h x xs merged

    step : IsNextAction state x × IsHomeOf state (stamp_of x) done.home
        × AllGoOn (followed state x) h (λ q. past (stamp_of x) (runs q))
    step = central_step state h runs done.home x (cell_laws state is) all entry done.before

    late : (q : ℕ) → IsRegion state.grid q → HeadNotBefore (stamp_of x) (runs q).log
    late = heads_late state h runs done.home x (cell_laws state is) all entry done.before

    only : (q : ℕ) (y : Action) → IsRegion state.grid q → IsAmong (Native y) (runs q).log →
        stamp_of y ≡ stamp_of x → (y ≡ x) × (q ≡ done.home)
    only = only_least state h runs done.home x (cell_laws state is) all entry done.before

    abbrev first : (es : List Entry) × ((runs done.home).log ≡ Native x ∷ es)
    first = head_is (runs done.home).floor x (runs done.home).log (late done.home done.within)
        (all.each done.home done.within).rises done.among

    abbrev rest : List Action
    rest = actions_below h first.0

    here : get_or lists done.home [] ≡ x ∷ rest
    here = of.own done.home done.within ∙ ap (actions_below h) first.1 ∙ below_in_order h x first.0 done.before

    others : (q : ℕ) → q ≢ done.home → ActionsBeginAfter x (get_or lists q [])
    others q not = by_region (ActionsBeginAfter x) q tt (λ within. by_actions within (actions_below h (runs q).log) refl)
      where
        by_actions : IsRegion state.grid q → (ys : List Action) → actions_below h (runs q).log ≡ ys → ActionsBeginAfter x ys
        by_actions within [] is = tt
        by_actions within (y ∷ ys) is =
            let found = actions_among h (runs q).log y (subst (IsAmong y) (sym is) (inl refl)) in
            elim (before_decides (stamp_of x) (stamp_of y)) [
              | inl less ↦ less
              | inr not_less ↦ absurd (not (only q y within found.0
                  (same_stamp (stamp_of y) (stamp_of x) (entry.least q y within found.0) not_less)).1)
            ]

    left_of : AreListsOf (followed state x) h (λ q. past (stamp_of x) (runs q)) (set lists done.home rest)
    left_of = record {
      count = length-set lists done.home rest ∙ of.count;
      own = λ q within. elim (same_or_other q done.home) [
        | inl same ↦ subst (λ (n : ℕ). get_or (set lists done.home rest) n []
            ≡ actions_below h (past (stamp_of x) (runs n)).log) (sym same)
            (get_or-set_same lists done.home rest [] (subst (λ (n : ℕ). done.home < n) (sym of.count) done.within)
            ∙ sym (ap (λ (v : Local). actions_below h v.log)
            (past_first (stamp_of x) (runs done.home) (Native x) first.0 first.1 refl)))
        | inr other ↦ get_or-set_other lists done.home q rest [] other ∙ of.own q within
            ∙ sym (same_actions h (stamp_of x) (runs q) (late q within)
            (λ y among same. other (only q y within among same).1))
      ];
    }

    can : CanBeTold x
    can = record {
      range = (cell_states_are_orderly state is).in_range (stamp_of x) step.0.0.0;
      may = next_tellable state x is step.0;
    }

merge_of : (xs : List Action) (state : CellStateData) (h : Stamp) (runs : LocalRuns) (lists : List (List Action)) →
    AreListsOf state h runs lists → IsCellState state → AllGoOn state h runs → IsMerged state runs h xs →
    CanBeTellings lists xs
merge_of [] state h runs lists of is all merged = record {
  merged = none_left state h runs lists of merged;
  can = tt;
  rise = lists_rise state h runs lists of all;
}
merge_of (x ∷ xs) state h runs lists of is all merged =
    let next = step state h runs lists of is all x xs merged in
    let now = first state h runs lists of is all x xs merged in
    let k = (done state h runs lists of is all x xs merged).home in
    let more = merge_of xs (followed state x) h (λ q. past (stamp_of x) (runs q)) (set lists k (actions_below h now.0))
    (left_of state h runs lists of is all x xs merged) (followed_is state x is next.0.0 next.0.1) next.2
    (rest_merged state runs h x xs all merged (late state h runs lists of is all x xs merged)) in record {
      merged = (
        k,
        actions_below h now.0,
        here state h runs lists of is all x xs merged,
        others state h runs lists of is all x xs merged,
        more.merged,
      );
      can = (can state h runs lists of is all x xs merged, more.can);
      rise = lists_rise state h runs lists of all;
    }

-- ---- the regions of a state
-- what each region did before a stamp
abbrev pub cut_at : Stamp → List RegionData → List (List Entry)
cut_at h regions = map (λ region. entries_below h (entries_of region)) regions

-- what they did before a bound, in order, is a merge of what each of them did, and can be told
pub cut_batch : (state : CellStateData) (regions : List RegionData) (h : Stamp) (batch : List Action) →
    IsCellState state → AllStand state regions → AllKept regions → IsBound state (runs_of regions) h →
    IsMerged state (runs_of regions) h batch → CanBeTellings (map actions_in (cut_at h regions)) batch
cut_batch state regions h batch is stand kept bound merged =
    let standing = are_standing state regions stand kept in
    let on = all_go_on state (runs_of regions) h standing bound in
    merge_of batch state h (runs_of regions) (map actions_in (cut_at h regions)) (record {
      count = length-map (cut_at h regions) actions_in
          ∙ length-map regions (λ region. entries_below h (entries_of region)) ∙ stand.count;
      own = λ k within. twice k (region_on state k (runs_of regions k)) (region_at state regions k stand within)
          ∙ below_are (runs_of regions k).floor h (runs_of regions k).log (on.each k within).rises;
    }) is on merged
  where
    twice : (k : ℕ) (region : RegionData) → slice_get regions k ≡ Some region →
        get_or (map actions_in (cut_at h regions)) k [] ≡ actions_in (entries_below h (entries_of region))
    twice k region at = by_place regions k at
      where
        by_place : (rs : List RegionData) (k : ℕ) → slice_get rs k ≡ Some region →
            get_or (map actions_in (cut_at h rs)) k [] ≡ actions_in (entries_below h (entries_of region))
        by_place [] k at = absurd (none-some region at)
        by_place (r ∷ rs) zero at = ap (λ (v : RegionData). actions_in (entries_below h (entries_of v))) (same_Some r region at)
        by_place (r ∷ rs) (suc k) at = by_place rs k at
