-- The actions of a log before a stamp, and its head, the first of them.
use Rattle.std.proofs.Common.{◌≡◌, ◌⊎◌, inl, inr, ℕ, zero, suc, ◌+◌, ◌-◌, ◌<◌, ◌≤◌, Bool, true, false, List, [], ◌∷◌, ◌++◌}
use Rattle.std.proofs.Common.{Option, Some, None, drop, set, get_or, length, sym, ap, ◌∙◌, subst, refl, arith}
use Rattle.std.proofs.Common.{get_or-set_same, get_or-set_other}
use Rattle.std.specs.Prelude.{slice_get, IfSome, if◌then◌else◌}
use Rattle.std.specs.List.{sum_by}
use Rattle.std.proofs.lemmas.Bool.{cases_lt}
use Rattle.std.proofs.lemmas.List.{drop_more, drop_all, get_or_past, get_or_push, get_or_append_left, length_push}
use Rattle.std.proofs.lemmas.List.Sums.{sum_by-set}
use Rattle.std.proofs.lemmas.Option.{none-some, same_Some, slice_get_within, get_or_from_slice_get}
use Rattle.event_stamps.specs.declared.Stamp.{Stamp}
use Rattle.event_stamps.specs.Order.{Before}
use Rattle.event_stamps.proofs.StampOrder.{before_trans, before_decides, not_before_itself}
use Rattle.region_view.specs.declared.action.Action.{Action}
use Rattle.region_view.specs.Acting.{stamp_of}
use Rattle.region_messages.specs.Trails.{IsAmong, is_before}
use Rattle.region_messages.proofs.Order.{is_before_true, is_before_false, before_from_true, not_before_from_false}
use Rattle.local_run.specs.declared.entry.Entry.{Entry}
use Rattle.local_run.specs.declared.entry.Entry.TheVariants.{Native, Heard}
use Rattle.local_run.specs.declared.entry.TheConstants.{MAX_ENTRIES}
use Rattle.local_run.specs.Entries.{RiseFrom, native_in}
use Rattle.local_run.specs.Opening.{RegionData}
use Rattle.local_run.specs.Keeping.{entries_of}
use Rattle.local_run.proofs.Among.{same_or_other}
use Rattle.local_run.proofs.Logs.{rises_log_tail, among_after}
use Rattle.commit_horizon.specs.Horizon.{ActionStampsRise}
use Rattle.commit_horizon.specs.Merging.{Head, Heads, head_at, IsLeadingHead}
use Rattle.commit_horizon.proofs.Merging.{actions_below, IsLeft, IsHeadAfter, head_before, AreHeads, nearer_of}

-- ---- the actions before a stamp
pub actions_in : (h : Stamp) (x : Action) (es : List Entry) → Before (stamp_of x) h →
    actions_below h (Native x ∷ es) ≡ x ∷ actions_below h es
actions_in h x es lt = rw (is_before_true (stamp_of x) h lt) refl

pub actions_out : (h : Stamp) (x : Action) (es : List Entry) → ¬ Before (stamp_of x) h →
    actions_below h (Native x ∷ es) ≡ []
actions_out h x es not = rw (is_before_false (stamp_of x) h not) refl

-- they are native entries before it, and all of them
pub actions_among : (h : Stamp) (log : List Entry) (x : Action) → IsAmong x (actions_below h log) →
    IsAmong (Native x) log × Before (stamp_of x) h
actions_among h [] x among = absurd among
actions_among h (Heard q m ∷ es) x among =
    let more = actions_among h es x among in (inr more.0, more.1)
actions_among h (Native y ∷ es) x among = elim (before_decides (stamp_of y) h) [
  | inl lt ↦ by_place lt (actions_among h es x) (subst (IsAmong x) (actions_in h y es lt) among)
  | inr not ↦ absurd (subst (IsAmong x) (actions_out h y es not) among)
]
  where
    by_place : Before (stamp_of y) h →
        (IsAmong x (actions_below h es) → IsAmong (Native x) es × Before (stamp_of x) h) →
        IsAmong x (y ∷ actions_below h es) → IsAmong (Native x) (Native y ∷ es) × Before (stamp_of x) h
    by_place lt rest (inl same) =
        (inl (ap Native same), subst (λ (v : Action). Before (stamp_of v) h) (sym same) lt)
    by_place lt rest (inr later) = let more = rest later in (inr more.0, more.1)

pub among_actions : (f h : Stamp) (log : List Entry) (x : Action) → RiseFrom f log → IsAmong (Native x) log →
    Before (stamp_of x) h → IsAmong x (actions_below h log)
among_actions f h [] x rises among lt = absurd among
among_actions f h (Heard q m ∷ es) x rises (inl same) lt = cc
among_actions f h (Heard q m ∷ es) x rises (inr more) lt =
    among_actions m.stamp h es x (rises_log_tail m.stamp es rises.1) more lt
among_actions f h (Native y ∷ es) x rises (inl same) lt =
    let is : x ≡ y = cc in
    subst (IsAmong x) (sym (actions_in h y es (subst (λ (v : Action). Before (stamp_of v) h) is lt))) (inl is)
among_actions f h (Native y ∷ es) x rises (inr more) lt =
    let first = before_trans (stamp_of y) (stamp_of x) h (among_after (stamp_of y) es (Native x) rises.1 more) lt in
    subst (IsAmong x) (sym (actions_in h y es first))
    (inr (among_actions (stamp_of y) h es x (rises_log_tail (stamp_of y) es rises.1) more lt))

pub actions_rise : (f h : Stamp) (log : List Entry) → RiseFrom f log → ActionStampsRise (actions_below h log)
actions_rise f h [] rises = tt
actions_rise f h (Heard q m ∷ es) rises = actions_rise m.stamp h es (rises_log_tail m.stamp es rises.1)
actions_rise f h (Native y ∷ es) rises = elim (before_decides (stamp_of y) h) [
  | inl lt ↦ subst ActionStampsRise (sym (actions_in h y es lt)) (
    λ x among. among_after (stamp_of y) es (Native x) rises.1 (actions_among h es x among).0,
    actions_rise (stamp_of y) h es (rises_log_tail (stamp_of y) es rises.1),
  )
  | inr not ↦ subst ActionStampsRise (sym (actions_out h y es not)) tt
]

-- ---- by places
pub below_or_last : (k n : ℕ) → k < n + 1 → (k < n) ⊎ (k ≡ n)
below_or_last k n lt = grind arith

pub head_within : (heads : Heads) (k : ℕ) (head : Head) → head_at heads k ≡ Some head → k < length heads
head_within heads k head at = elim (cases_lt k (length heads)) [
  | inl lt ↦ lt
  | inr past ↦ absurd (none-some head (sym (get_or_past heads k None past) ∙ at))
]

pub rest_at : (log : List Entry) (k : ℕ) (e : Entry) → slice_get log k ≡ Some e → drop k log ≡ e ∷ drop (k + 1) log
rest_at log k e at = drop_more log k e (slice_get_within log k e at)
    ∙ ap (λ (v : Entry). v ∷ drop (k + 1) log) (get_or_from_slice_get log k e e at)

pub entry_at : (log : List Entry) (k : ℕ) → k < length log → (e : Entry) × (slice_get log k ≡ Some e)
entry_at [] k lt = absurd (omega arith)
entry_at (e ∷ es) zero lt = (e, refl)
entry_at (e ∷ es) (suc k) lt = entry_at es k (omega arith)

pub native_entry : (found : Option Entry) (x : Action) → native_in found ≡ Some x → found ≡ Some (Native x)
native_entry None x is = absurd (none-some x is)
native_entry (Some (Native y)) x is = ap (λ (v : Action). Some (Native v)) (same_Some y x is)
native_entry (Some (Heard q m)) x is = absurd (none-some x is)

pub native_within : (log : List Entry) (k : ℕ) (x : Action) → native_in (slice_get log k) ≡ Some x → k < length log
native_within log k x is = slice_get_within log k (Native x) (native_entry (slice_get log k) x is)

pub head_found : (h : Stamp) (log : List Entry) (done k : ℕ) (x : Action) → done ≤ k →
    native_in (slice_get log k) ≡ Some x → actions_below h (drop done log) ≡ actions_below h (drop k log) →
    IsHeadAfter h log done (head_before h (stamp_of x) k)
head_found h log done k x le is so_far = by_test (is_before (stamp_of x) h) refl
  where
    rest : actions_below h (drop done log) ≡ actions_below h (Native x ∷ drop (k + 1) log)
    rest = so_far ∙ ap (actions_below h) (rest_at log k (Native x) (native_entry (slice_get log k) x is))

    by_test : (b : Bool) → is_before (stamp_of x) h ≡ b →
        IsHeadAfter h log done (if b then Some (record { stamp = stamp_of x; place = k }) else None)
    by_test true e = record {
      actions = record {
        action = x;
        at = is;
        stamp = refl;
        rest = rest ∙ actions_in h x (drop (k + 1) log) (before_from_true (stamp_of x) h e);
      };
      place = le;
    }
    by_test false e = record {
      actions = rest ∙ actions_out h x (drop (k + 1) log) (not_before_from_false (stamp_of x) h e);
      place = tt;
    }

pub head_passed : (h : Stamp) (log : List Entry) (k : ℕ) → k < length log →
    native_in (slice_get log k) ≡ None → actions_below h (drop k log) ≡ actions_below h (drop (k + 1) log)
head_passed h log k lt is = by_entry (slice_get log k) refl is
  where
    by_entry : (found : Option Entry) → slice_get log k ≡ found → native_in found ≡ None →
        actions_below h (drop k log) ≡ actions_below h (drop (k + 1) log)
    by_entry None at none = absurd (none-some (entry_at log k lt).0 (sym at ∙ (entry_at log k lt).1))
    by_entry (Some (Native y)) at none = absurd (none-some y (sym none))
    by_entry (Some (Heard q m)) at none = ap (actions_below h) (rest_at log k (Heard q m) at)

pub head_past : (h : Stamp) (log : List Entry) (done k : ℕ) → length log ≤ k →
    actions_below h (drop done log) ≡ actions_below h (drop k log) → IsHeadAfter h log done None
head_past h log done k le so_far = record {
  actions = so_far ∙ ap (actions_below h) (drop_all k log le);
  place = tt;
}

-- ---- all heads
-- the least of the heads of the first regions, up to a number
abbrev pub IsLeastOfFirst : Heads → ℕ → Option (ℕ × Head) → Type 0
IsLeastOfFirst heads n None = (k : ℕ) → k < n → head_at heads k ≡ None
IsLeastOfFirst heads n (Some least) = (least.0 < length heads) × (head_at heads least.0 ≡ Some least.1)
    × ((k : ℕ) (head : Head) → k < n → head_at heads k ≡ Some head →
    ¬ Before head.stamp least.1.stamp)

pub nearer_is : (heads : Heads) (n : ℕ) (least : Option (ℕ × Head)) (head : Option Head) →
    n < length heads → head_at heads n ≡ head → IsLeastOfFirst heads n least →
    IsLeastOfFirst heads (n + 1) (nearer_of least n head)
nearer_is heads n None None lt at so_far = λ k below. elim (below_or_last k n below) [
  | inl less ↦ so_far k less
  | inr same ↦ ap (head_at heads) same ∙ at
]
nearer_is heads n None (Some head) lt at so_far = (
  lt,
  at,
  λ k other below at_k. elim (below_or_last k n below) [
    | inl less ↦ absurd (none-some other (sym (so_far k less) ∙ at_k))
    | inr same ↦
        let is : head ≡ other = same_Some head other (sym at ∙ ap (head_at heads) (sym same) ∙ at_k) in
        subst (λ (v : Head). ¬ Before v.stamp head.stamp) is
        (not_before_itself head.stamp)
  ],
)
nearer_is heads n (Some least) None lt at so_far = (
  so_far.0,
  so_far.1,
  λ k other below at_k.
      elim (below_or_last k n below) [
        | inl less ↦ so_far.2 k other less at_k
        | inr same ↦ absurd (none-some other (sym at ∙ ap (head_at heads) (sym same) ∙ at_k))
      ],
)
nearer_is heads n (Some least) (Some head) lt at so_far =
    by_test (is_before head.stamp least.1.stamp) refl
  where
    of_last : (k : ℕ) (other : Head) → k ≡ n → head_at heads k ≡ Some other → head ≡ other
    of_last k other same at_k = same_Some head other (sym at ∙ ap (head_at heads) (sym same) ∙ at_k)

    by_test : (b : Bool) → is_before head.stamp least.1.stamp ≡ b →
        IsLeastOfFirst heads (n + 1) (if b then Some (n, head) else Some least)
    by_test true e = (
      lt,
      at,
      λ k other below at_k less. elim (below_or_last k n below) [
        | inl first ↦ so_far.2 k other first at_k (before_trans other.stamp head.stamp
            least.1.stamp less
            (before_from_true head.stamp least.1.stamp e))
        | inr same ↦ not_before_itself head.stamp
            (subst (λ (v : Head). Before v.stamp head.stamp)
            (sym (of_last k other same at_k)) less)
      ],
    )
    by_test false e = (
      so_far.0,
      so_far.1,
      λ k other below at_k. elim (below_or_last k n below) [
        | inl first ↦ so_far.2 k other first at_k
        | inr same ↦ subst (λ (v : Head). ¬ Before v.stamp least.1.stamp)
            (of_last k other same at_k)
            (not_before_from_false head.stamp least.1.stamp e)
      ],
    )

pub least_of_all : (heads : Heads) (n : ℕ) (least : Option (ℕ × Head)) → length heads ≤ n →
    IsLeastOfFirst heads n least → IsLeadingHead heads least
least_of_all heads n None le so_far = λ k. elim (cases_lt k n) [
  | inl lt ↦ so_far k lt
  | inr past ↦ get_or_past heads k None (omega arith)
]
least_of_all heads n (Some least) le so_far = (
  so_far.0,
  so_far.1,
  λ k head at.
      so_far.2 k head (omega (arith, head_within heads k head at)) at,
)

pub one_more_head : (h : Stamp) (regions : List RegionData) (n : ℕ) (heads : Heads) (region : RegionData)
    (head : Option Head) → slice_get regions n ≡ Some region → AreHeads h regions n heads →
    IsHeadAfter h (entries_of region) 0 head → AreHeads h regions (n + 1) (heads ++ head ∷ [])
one_more_head h regions n heads region head at so_far after = record {
  count = length_push heads head ∙ ap (λ (m : ℕ). m + 1) so_far.count;
  each = λ k other below there. elim (below_or_last k n below) [
    | inl less ↦ subst (IsHeadAfter h (entries_of other) 0)
        (sym (get_or_append_left heads (head ∷ []) None k
        (subst (λ (m : ℕ). k < m) (sym so_far.count) less)))
        (so_far.each k other less there)
    | inr same ↦
        let is : region ≡ other = same_Some region other (sym at ∙ ap (slice_get regions) (sym same) ∙ there) in
        subst (IsHeadAfter h (entries_of other) 0)
        (sym (get_or_push heads head None k (so_far.count ∙ sym same)))
        (subst (λ (v : RegionData). IsHeadAfter h (entries_of v) 0 head) is after)
  ];
}

-- ---- how much is left
-- as many entries as there can be from a head on
abbrev pub cost_of : Option Head → ℕ
cost_of None = 0
cost_of (Some head) = MAX_ENTRIES - head.place

abbrev pub FitLogs : Heads → Type 0
FitLogs heads = (k : ℕ) (head : Head) → head_at heads k ≡ Some head → head.place < MAX_ENTRIES

cost_falls : (head : Head) (new : Option Head) → head.place < MAX_ENTRIES →
    IfSome new (λ v. head.place + 1 ≤ v.place) → cost_of new < cost_of (Some head)
cost_falls head None fit later = omega arith
cost_falls head (Some new) fit later = omega (arith, later)

pub costs_fall : (heads : Heads) (k : ℕ) (head : Head) (new : Option Head) (h : Stamp) (log : List Entry) →
    k < length heads → head_at heads k ≡ Some head → FitLogs heads →
    IsHeadAfter h log (head.place + 1) new → sum_by cost_of (set heads k new) < sum_by cost_of heads
costs_fall heads k head new h log lt at fit after =
    let falls = cost_falls head new (fit k head at) after.place in
    let was : cost_of (get_or heads k None) ≡ cost_of (Some head) = ap cost_of at in
    omega (arith, sum_by-set cost_of heads k new None lt)

pub fits_log : (h : Stamp) (log : List Entry) (done : ℕ) (found : Option Head) (head : Head) →
    length log ≤ MAX_ENTRIES → IsHeadAfter h log done found → found ≡ Some head → head.place < MAX_ENTRIES
fits_log h log done found head few after is =
    let begins = subst (IsLeft h log (actions_below h (drop done log))) is after.actions in
    omega (arith, native_within log head.place begins.action begins.at)

pub fit_more : (heads : Heads) (k : ℕ) (done : ℕ) (new : Option Head) (h : Stamp) (log : List Entry) →
    k < length heads → FitLogs heads → length log ≤ MAX_ENTRIES → IsHeadAfter h log done new →
    FitLogs (set heads k new)
fit_more heads k done new h log lt fit few after q head at = elim (same_or_other q k) [
  | inl same ↦ fits_log h log done new head few after
      (sym (get_or-set_same heads k new None lt) ∙ ap (head_at (set heads k new)) (sym same) ∙ at)
  | inr other ↦ fit q head (sym (get_or-set_other heads k q new None other) ∙ at)
]
