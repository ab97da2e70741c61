-- Merging by heads: what is left of the regions, and what was merged of them.
use Rattle.std.proofs.Common.{◌≡◌, ◌≢◌, ◌⊎◌, inl, inr, ℕ, ◌+◌, ◌<◌, ◌≤◌, List, [], ◌∷◌, ◌++◌, length, set, get_or-set_same, get_or-set_other, drop, sym, ap, ◌∙◌, subst, refl}
use Rattle.std.proofs.Common.{Option, Some, None}
use Rattle.std.specs.Prelude.{slice_get}
use Rattle.std.specs.Option.{IsSome, is_some}
use Rattle.std.specs.List.{sum_by}
use Rattle.std.proofs.lemmas.List.{length-set}
use Rattle.std.proofs.lemmas.List.Sums.{fold_push}
use Rattle.std.proofs.lemmas.Option.{same_Some}
use Rattle.event_stamps.specs.declared.Stamp.{Stamp}
use Rattle.event_stamps.specs.Order.{Before}
use Rattle.event_stamps.proofs.StampOrder.{before_trans, before_decides, same_stamp}
use Rattle.cell_grid.specs.Grid.{GridData, IsRegion}
use Rattle.region_view.specs.declared.action.Action.{Action}
use Rattle.region_view.specs.Acting.{stamp_of}
use Rattle.region_messages.specs.Trails.{IsAmong}
use Rattle.region_messages.proofs.Among.{among_left, among_right, among_either}
use Rattle.cell_sequence.specs.State.{CellStateData, IsCellState, followed, followed_by}
use Rattle.cell_sequence.specs.Laws.{IsNextAction, IsHomeOf}
use Rattle.cell_sequence.proofs.Followed.{followed_is}
use Rattle.local_run.specs.declared.entry.Entry.{Entry}
use Rattle.local_run.specs.declared.entry.Entry.TheVariants.{Native, Heard}
use Rattle.local_run.specs.Entries.{entry_stamp, native_in}
use Rattle.local_run.specs.LocalRun.{Local}
use Rattle.local_run.proofs.Among.{same_or_other}
use Rattle.local_run.specs.declared.entry.TheConstants.{MAX_ENTRIES}
use Rattle.local_run.specs.Opening.{RegionData}
use Rattle.local_run.specs.Keeping.{entries_of}
use Rattle.commit_horizon.specs.Horizon.{LocalRuns, runs_of, AllStand, AllKept, IsBound, ActionStampsRise, IsDone, IsMerged}
use Rattle.commit_horizon.specs.Merging.{Head, Heads, head_at, IsLeadingHead}
use Rattle.commit_horizon.proofs.Merging.{actions_below, BeginsAt, IsLeft, IsHeadAfter, AreHeads, Merges}
use Rattle.commit_horizon.proofs.GoesOn.{CellLaws, AllGoOn, past, IsLeastEntry, NoneBefore, HeadNotBefore}
use Rattle.commit_horizon.proofs.Past.{head_is, past_cases, past_first, past_after, past_keeps}
use Rattle.commit_horizon.proofs.Steps.{central_step, heads_late}
use Rattle.commit_horizon.proofs.Offered.{cell_laws}
use Rattle.commit_horizon.proofs.Bounds.{all_go_on}
use Rattle.commit_horizon.proofs.Merged.{merged_is_next}
use Rattle.commit_horizon.proofs.Standing.{region_on, region_at, region_is, kept_at, are_standing}
use Rattle.commit_horizon.proofs.Heads.{actions_in, actions_among, among_actions, actions_rise, head_within}
use Rattle.commit_horizon.proofs.Heads.{FitLogs, fits_log, fit_more, cost_of, costs_fall}

-- ---- actions that rise
rise_joined : (xs : List Action) (x : Action) → ActionStampsRise xs →
    ((y : Action) → IsAmong y xs → Before (stamp_of y) (stamp_of x)) → ActionStampsRise (xs ++ x ∷ [])
rise_joined [] x rise before = (λ y none. absurd none, tt)
rise_joined (z ∷ xs) x rise before = (
  λ y among. elim (among_either y xs (x ∷ []) among) [
    | inl here ↦ rise.0 y here
    | inr (inl is) ↦ subst (λ (v : Action). Before (stamp_of z) (stamp_of v)) (sym is) (before z (inl refl))
    | inr (inr none) ↦ absurd none
  ],
  rise_joined xs x rise.1 (λ y among. before y (inr among)),
)

-- ---- the least entry
-- only this action has its stamp, and only in this region
pub only_least : (state : CellStateData) (h : Stamp) (runs : LocalRuns) (k : ℕ) (b : Action) → CellLaws state →
    AllGoOn state h runs → IsLeastEntry state runs k b → Before (stamp_of b) h →
    (q : ℕ) (x : Action) → IsRegion state.grid q → IsAmong (Native x) (runs q).log → stamp_of x ≡ stamp_of b →
    (x ≡ b) × (q ≡ k)
only_least state h runs k b laws on entry before q x within among same =
    let step = central_step state h runs k b laws on entry before in
    let also = central_step state h runs q x laws on (record {
      within = within;
      among = among;
      least = subst (NoneBefore state runs) (sym same) entry.least;
    }) (subst (λ (s : Stamp). Before s h) (sym same) before) in (
      laws.one_action x b also.0 step.0,
      laws.one_home (stamp_of b) q k step.0.0.0 (subst (λ (s : Stamp). IsHomeOf state s q) same also.1) step.1,
    )

-- if no action of a run has the stamp, it has the same ones past it
pub same_actions : (h t : Stamp) (run : Local) → HeadNotBefore t run.log →
    ((x : Action) → IsAmong (Native x) run.log → stamp_of x ≢ t) →
    actions_below h (past t run).log ≡ actions_below h run.log
same_actions h t run late none = elim (past_cases t run run.log refl late) [
  | inl first ↦ ap (λ (v : Local). actions_below h v.log) first.4 ∙ by_entry first.0 first.1 first.2 first.3
  | inr kept ↦ ap (λ (v : Local). actions_below h v.log) kept.0
]
  where
    by_entry : (e : Entry) (es : List Entry) → run.log ≡ e ∷ es → entry_stamp e ≡ t →
        actions_below h es ≡ actions_below h run.log
    by_entry (Native x) es is same = absurd (none x (subst (IsAmong (Native x)) (sym is) (inl refl)) same)
    by_entry (Heard p m) es is same = sym (ap (actions_below h) is)

-- ---- what is left
-- the state has followed what was merged; the regions that are left go on from it, and the heads are theirs
pub record IsMerging (old : CellStateData) (whole : LocalRuns) (h : Stamp) (heads : Heads) (done : List Action)
    (now : CellStateData) : Type 0 where
  pub left : LocalRuns
  pub is : IsCellState now
  pub grid : now.grid ≡ old.grid
  pub follows : now ≡ followed_by old done
  pub on : AllGoOn now h left
  pub actions : (k : ℕ) → IsRegion now.grid k →
      IsLeft h (whole k).log (actions_below h (left k).log) (head_at heads k)
  -- what is left was there, and comes after what was merged
  pub part : (k : ℕ) (x : Action) → IsRegion now.grid k → IsAmong (Native x) (left k).log →
      IsAmong (Native x) (whole k).log
  pub after : (k : ℕ) (x y : Action) → IsRegion now.grid k → IsAmong x done →
      IsAmong (Native y) (left k).log → Before (stamp_of x) (stamp_of y)
  -- what was merged rises and was run before the stamp; all such was merged or is left
  pub rise : ActionStampsRise done
  pub are : (x : Action) → IsAmong x done → IsDone old whole h x
  pub all : (k : ℕ) (x : Action) → IsRegion now.grid k → IsAmong (Native x) (whole k).log →
      Before (stamp_of x) h → IsAmong x done ⊎ IsAmong (Native x) (left k).log

pub merging_begins : (old : CellStateData) (whole : LocalRuns) (h : Stamp) (heads : Heads) → IsCellState old →
    AllGoOn old h whole →
    ((k : ℕ) → IsRegion old.grid k → IsHeadAfter h (whole k).log 0 (head_at heads k)) →
    IsMerging old whole h heads [] old
merging_begins old whole h heads is on first = record {
  left = whole;
  is = is;
  grid = refl;
  follows = refl;
  on = on;
  actions = λ k within. (first k within).actions;
  part = λ k x within among. among;
  after = λ k x y within none. absurd none;
  rise = tt;
  are = λ x none. absurd none;
  all = λ k x within among before. inr among;
}

-- without heads all is merged
pub merging_ends : (old : CellStateData) (whole : LocalRuns) (h : Stamp) (heads : Heads) (done : List Action)
    (now : CellStateData) → IsMerging old whole h heads done now → IsLeadingHead heads None →
    IsMerged old whole h done
merging_ends old whole h heads done now merging none = record {
  rise = merging.rise;
  are = merging.are;
  all = λ x run. by_all x run.home
      (subst (λ (g : GridData). IsRegion g run.home) (sym merging.grid) run.within) run.before
      (merging.all run.home x (subst (λ (g : GridData). IsRegion g run.home) (sym merging.grid) run.within)
      run.among run.before);
}
  where
    by_all : (x : Action) (k : ℕ) → IsRegion now.grid k → Before (stamp_of x) h →
        IsAmong x done ⊎ IsAmong (Native x) (merging.left k).log → IsAmong x done
    by_all x k within before (inl merged) = merged
    by_all x k within before (inr among) =
        let run = merging.on.each k within in
        let later = among_actions (merging.left k).floor h (merging.left k).log x run.rises among before in
        let nothing = subst (IsLeft h (whole k).log (actions_below h (merging.left k).log)) (none k)
        (merging.actions k within) in
        absurd (subst (IsAmong x) nothing later)

-- ---- one more action
module _ (old : CellStateData) (whole : LocalRuns) (h : Stamp) (heads : Heads) (done : List Action)
    (now : CellStateData) (merging : IsMerging old whole h heads done now) (laws : CellLaws now)
    (k : ℕ) (head : Head) (within : IsRegion now.grid k) (least : IsLeadingHead heads (Some (k, head)))
    (b : Action) (read : native_in (slice_get (whole k).log head.place) ≡ Some b) where
  abbrev left : LocalRuns
  left = merging.left

  begins : BeginsAt h (whole k).log (actions_below h (left k).log) head
  begins = subst (IsLeft h (whole k).log (actions_below h (left k).log)) least.1 (merging.actions k within)

  is_action : begins.action ≡ b
  is_action = same_Some begins.action b (sym begins.at ∙ read)

  own : actions_below h (left k).log ≡ b ∷ actions_below h (drop (head.place + 1) (whole k).log)
  own = subst (λ (v : Action). actions_below h (left k).log
      ≡ v ∷ actions_below h (drop (head.place + 1) (whole k).log)) is_action begins.rest

  own_stamp : stamp_of b ≡ head.stamp
  own_stamp = subst (λ (v : Action). stamp_of v ≡ head.stamp) is_action begins.stamp

  -- no action of a head comes before it
  head_not_before : (q : ℕ) (other : Head) (y : Action) → head_at heads q ≡ Some other →
      stamp_of y ≡ other.stamp → ¬ Before (stamp_of y) (stamp_of b)
  head_not_before q other y is same less = least.2 q other is
      (subst (λ (s : Stamp). Before s head.stamp) same (subst (Before (stamp_of y)) own_stamp less))

  own_among : IsAmong (Native b) (left k).log × Before (stamp_of b) h
  own_among = actions_among h (left k).log b (subst (IsAmong b) (sym own) (inl refl))

  none_before : NoneBefore now left (stamp_of b)
  none_before q x within_q among less = by_head (head_at heads q) refl (merging.actions q within_q)
    where
      member : IsAmong x (actions_below h (left q).log)
      member = among_actions (left q).floor h (left q).log x (merging.on.each q within_q).rises among
          (before_trans (stamp_of x) (stamp_of b) h less own_among.1)

      rises : ActionStampsRise (actions_below h (left q).log)
      rises = actions_rise (left q).floor h (left q).log (merging.on.each q within_q).rises

      by_place : (other : Head) (y : Action) (ys : List Action) → head_at heads q ≡ Some other →
          stamp_of y ≡ other.stamp → ActionStampsRise (y ∷ ys) → IsAmong x (y ∷ ys) → ⊥
      by_place other y ys is same rise (inl here) = head_not_before q other y is same
          (subst (λ (v : Action). Before (stamp_of v) (stamp_of b)) here less)
      by_place other y ys is same rise (inr more) = head_not_before q other y is same
          (before_trans (stamp_of y) (stamp_of x) (stamp_of b) (rise.0 x more) less)

      by_head : (found : Option Head) → head_at heads q ≡ found →
          IsLeft h (whole q).log (actions_below h (left q).log) found → ⊥
      by_head None is none = subst (IsAmong x) none member
      by_head (Some other) is begins = by_place other begins.action
          (actions_below h (drop (other.place + 1) (whole q).log)) is begins.stamp
          (subst ActionStampsRise begins.rest rises) (subst (IsAmong x) begins.rest member)

  entry : IsLeastEntry now left k b
  entry = record { within = within; among = own_among.0; least = none_before }

  step : IsNextAction now b × IsHomeOf now (stamp_of b) k
      × AllGoOn (followed now b) h (λ q. past (stamp_of b) (left q))
  step = central_step now h left k b laws merging.on entry own_among.1

  pub next_is : IsNextAction now b
  next_is = step.0

  late : (q : ℕ) → IsRegion now.grid q → HeadNotBefore (stamp_of b) (left q).log
  late = heads_late now h left k b laws merging.on entry own_among.1

  -- only this action has the stamp, and only here
  only : (q : ℕ) (x : Action) → IsRegion now.grid q → IsAmong (Native x) (left q).log →
      stamp_of x ≡ stamp_of b → (x ≡ b) × (q ≡ k)
  only = only_least now h left k b laws merging.on entry own_among.1

  left_here : (new : Option Head) → IsHeadAfter h (whole k).log (head.place + 1) new →
      IsLeft h (whole k).log (actions_below h (past (stamp_of b) (left k)).log) new
  left_here new after =
      let first = head_is (left k).floor b (left k).log (late k within) (merging.on.each k within).rises
      own_among.0 in
      let rest = ap (λ (v : Local). v.log)
      (past_first (stamp_of b) (left k) (Native b) first.0 first.1 refl) in
      let whole_is : b ∷ actions_below h first.0 ≡ b ∷ actions_below h (drop (head.place + 1) (whole k).log)
      = sym (actions_in h b first.0 own_among.1) ∙ sym (ap (actions_below h) first.1) ∙ own in
      let tails : actions_below h first.0 ≡ actions_below h (drop (head.place + 1) (whole k).log) = cc in
      subst (λ (xs : List Action). IsLeft h (whole k).log xs new)
      (sym (ap (actions_below h) rest ∙ tails)) after.actions

  left_there : (q : ℕ) → IsRegion now.grid q → q ≢ k →
      actions_below h (past (stamp_of b) (left q)).log ≡ actions_below h (left q).log
  left_there q within_q other = same_actions h (stamp_of b) (left q) (late q within_q)
      (λ x among same. other (only q x within_q among same).1)

  heads_left : (new : Option Head) → k < length heads →
      IsHeadAfter h (whole k).log (head.place + 1) new → (q : ℕ) → IsRegion now.grid q →
      IsLeft h (whole q).log (actions_below h (past (stamp_of b) (left q)).log)
      (head_at (set heads k new) q)
  heads_left new lt after q within_q = elim (same_or_other q k) [
    | inl is ↦ subst (λ (n : ℕ). IsLeft h (whole n).log (actions_below h (past (stamp_of b) (left n)).log)
        (head_at (set heads k new) n)) (sym is)
        (subst (IsLeft h (whole k).log (actions_below h (past (stamp_of b) (left k)).log))
        (sym (get_or-set_same heads k new None lt)) (left_here new after))
    | inr other ↦ subst (IsLeft h (whole q).log (actions_below h (past (stamp_of b) (left q)).log))
        (sym (get_or-set_other heads k q new None other))
        (subst (λ (xs : List Action). IsLeft h (whole q).log xs (head_at heads q))
        (sym (left_there q within_q other)) (merging.actions q within_q))
  ]

  -- an entry that was left is the one that goes, or stays
  left_or_gone : (q : ℕ) (x : Action) → IsRegion now.grid q → IsAmong (Native x) (left q).log →
      (x ≡ b) ⊎ IsAmong (Native x) (past (stamp_of b) (left q)).log
  left_or_gone q x within_q among = elim (before_decides (stamp_of b) (stamp_of x)) [
    | inl after ↦ inr (past_keeps (stamp_of b) (left q) (late q within_q) (Native x) among after)
    | inr not ↦ inl (only q x within_q among
        (same_stamp (stamp_of x) (stamp_of b) (none_before q x within_q among) not)).0
  ]

  was_left : (q : ℕ) (x : Action) → IsRegion now.grid q →
      IsAmong (Native x) (past (stamp_of b) (left q)).log →
      Before (stamp_of b) (stamp_of x) × IsAmong (Native x) (left q).log
  was_left q x within_q = past_after (stamp_of b) (left q) (late q within_q)
      (merging.on.each q within_q).rises (Native x)

  this_is_done : IsDone old whole h b
  this_is_done = record {
    home = k;
    within = subst (λ (g : GridData). IsRegion g k) merging.grid within;
    among = merging.part k b within own_among.0;
    before = own_among.1;
  }

  pub merging_goes_on : (new : Option Head) → k < length heads →
      IsHeadAfter h (whole k).log (head.place + 1) new →
      IsMerging old whole h (set heads k new) (done ++ b ∷ []) (followed now b)
  merging_goes_on new lt after = record {
    left = λ q. past (stamp_of b) (left q);
    is = followed_is now b merging.is step.0.0 step.0.1;
    grid = merging.grid;
    follows = ap (λ (v : CellStateData). followed v b) merging.follows ∙ sym (fold_push followed old done b);
    on = step.2;
    actions = heads_left new lt after;
    part = λ q x within_q among. merging.part q x within_q (was_left q x within_q among).1;
    after = λ q x y within_q merged among.
        let was = was_left q y within_q among in
        elim (among_either x done (b ∷ []) merged) [
          | inl before ↦ merging.after q x y within_q before was.1
          | inr (inl is) ↦ subst (λ (v : Action). Before (stamp_of v) (stamp_of y)) (sym is) was.0
          | inr (inr none) ↦ absurd none
        ];
    rise = rise_joined done b merging.rise (λ x merged. merging.after k x b within merged own_among.0);
    are = λ x merged. elim (among_either x done (b ∷ []) merged) [
      | inl before ↦ merging.are x before
      | inr (inl is) ↦ subst (IsDone old whole h) (sym is) this_is_done
      | inr (inr none) ↦ absurd none
    ];
    all = λ q x within_q among before. elim (merging.all q x within_q among before) [
      | inl merged ↦ inl (among_left x done (b ∷ []) merged)
      | inr still ↦ elim (left_or_gone q x within_q still) [
        | inl is ↦ inl (among_right x done (b ∷ []) (inl is))
        | inr stays ↦ inr stays
      ]
    ];
  }

-- ---- the regions and their heads
pub head_of_run : (state : CellStateData) (regions : List RegionData) (h : Stamp) (k done : ℕ)
    (region : RegionData) (head : Option Head) → AllStand state regions → slice_get regions k ≡ Some region →
    IsHeadAfter h (entries_of region) done head → IsHeadAfter h (runs_of regions k).log done head
head_of_run state regions h k done region head stand at =
    subst (λ (v : RegionData). IsHeadAfter h (entries_of v) done head)
    (sym (region_is state regions k region stand at).1)

few_entries : (state : CellStateData) (regions : List RegionData) (k : ℕ) → AllStand state regions →
    AllKept regions → IsRegion state.grid k → length (runs_of regions k).log ≤ MAX_ENTRIES
few_entries state regions k stand kept within = (kept_at state regions k stand kept within).run.few

-- what the merge keeps from one action to the next
pub record KeepsMerging (old : CellStateData) (regions : List RegionData) (h : Stamp) (heads : Heads)
    (done : List Action) (now : CellStateData) : Type 0 where
  pub count : length heads ≡ length regions
  pub fit : FitLogs heads
  pub merging : IsMerging old (runs_of regions) h heads done now

pub keeps_begin : (old : CellStateData) (regions : List RegionData) (h : Stamp) (heads : Heads) →
    IsCellState old → AllStand old regions → AllKept regions → IsBound old (runs_of regions) h →
    AreHeads h regions (length regions) heads → KeepsMerging old regions h heads [] old
keeps_begin old regions h heads is stand kept bound first = record {
  count = first.count;
  fit = λ k head at.
      let run = of_run k (subst (λ n. k < n) (first.count ∙ stand.count) (head_within heads k head at)) in
      fits_log h (runs_of regions k).log 0 (head_at heads k) head run.0 run.1 at;
  merging = merging_begins old (runs_of regions) h heads is
      (all_go_on old (runs_of regions) h (are_standing old regions stand kept) bound) (λ k within. (of_run k within).1);
}
  where
    of_run : (k : ℕ) → IsRegion old.grid k →
        (length (runs_of regions k).log ≤ MAX_ENTRIES) × IsHeadAfter h (runs_of regions k).log 0 (head_at heads k)
    of_run k within = (
      few_entries old regions k stand kept within,
      first.each k (region_on old k (runs_of regions k)) (subst (λ n. k < n) (sym stand.count) within)
          (region_at old regions k stand within),
    )

module _ (old : CellStateData) (regions : List RegionData) (h : Stamp) (heads : Heads) (done : List Action)
    (now : CellStateData) (keeps : KeepsMerging old regions h heads done now) (stand : AllStand old regions)
    (kept : AllKept regions) (k : ℕ) (head : Head) (least : IsLeadingHead heads (Some (k, head)))
    (region : RegionData) (at : slice_get regions k ≡ Some region) where
  within_old : IsRegion old.grid k
  within_old = subst (λ n. k < n) (keeps.count ∙ stand.count) least.0

  within_now : IsRegion now.grid k
  within_now = subst (λ (g : GridData). IsRegion g k) (sym keeps.merging.grid) within_old

  log_is : (runs_of regions k).log ≡ entries_of region
  log_is = ap entries_of (region_is old regions k region stand at).1

  head_left : List Action
  head_left = actions_below h (keeps.merging.left k).log

  begins_at : BeginsAt h (runs_of regions k).log head_left head
  unfolding head_left
  begins_at = subst (IsLeft h (runs_of regions k).log head_left) least.1 (keeps.merging.actions k within_now)

  pub has_action : IsSome (native_in (slice_get (entries_of region) head.place))
  has_action = subst (λ (log : List Entry). IsSome (native_in (slice_get log head.place))) log_is
      (ap is_some begins_at.at)

  pub costs_less : (new : Option Head) → IsHeadAfter h (entries_of region) (head.place + 1) new →
      sum_by cost_of (set heads k new) < sum_by cost_of heads
  costs_less new after = costs_fall heads k head new h (entries_of region) least.0 least.1 keeps.fit after

  module _ (x : Action) (found : native_in (slice_get (entries_of region) head.place) ≡ Some x) where
    laws : CellLaws now
    laws = cell_laws now keeps.merging.is

    read : native_in (slice_get (runs_of regions k).log head.place) ≡ Some x
    read = subst (λ (log : List Entry). native_in (slice_get log head.place) ≡ Some x) (sym log_is) found

    pub keeps_on : (new : Option Head) → IsHeadAfter h (entries_of region) (head.place + 1) new →
        KeepsMerging old regions h (set heads k new) (done ++ x ∷ []) (followed now x)
    keeps_on new after =
        let few = few_entries old regions k stand kept within_old in
        let is = head_of_run old regions h k (head.place + 1) region new stand at after in record {
          count = length-set heads k new ∙ keeps.count;
          fit = fit_more heads k (head.place + 1) new h (runs_of regions k).log least.0 keeps.fit few is;
          merging = merging_goes_on old (runs_of regions) h heads done now keeps.merging laws k head within_now
              least x read new least.0 is;
        }

pub keeps_end : (old : CellStateData) (regions : List RegionData) (h : Stamp) (heads : Heads)
    (done : List Action) (now : CellStateData) → KeepsMerging old regions h heads done now → IsCellState old →
    AllStand old regions → AllKept regions → IsBound old (runs_of regions) h → IsLeadingHead heads None →
    Merges old regions h done now
keeps_end old regions h heads done now keeps is stand kept bound none =
    let merged = merging_ends old (runs_of regions) h heads done now keeps.merging none in record {
      merged = merged;
      next = merged_is_next old (runs_of regions) h done is (are_standing old regions stand kept) bound merged;
      follows = keeps.merging.follows;
    }
