-- A limit that the next event fails is never before a bound.
use Rattle.std.proofs.Common.{◌≡◌, ◌⊎◌, inl, inr, ℕ, zero, suc, ◌<◌, List, [], ◌∷◌, ◌++◌, sym, ap, subst}
use Rattle.std.proofs.Common.{refl, arith}
use Rattle.event_stamps.specs.declared.Stamp.{Stamp}
use Rattle.event_stamps.specs.Order.{Before}
use Rattle.event_stamps.proofs.StampOrder.{before_decides, before_trans, not_before_itself}
use Rattle.region_view.specs.declared.action.Action.{Action}
use Rattle.region_view.specs.declared.rows.Message.{Message}
use Rattle.region_view.specs.Acting.{stamp_of}
use Rattle.region_messages.specs.Trails.{IsAmong}
use Rattle.region_messages.proofs.Among.{among_left, among_right, among_either}
use Rattle.cell_sequence.specs.State.{CellStateData}
use Rattle.cell_sequence.proofs.Exists.{never_both}
use Rattle.local_run.specs.declared.entry.Entry.{Entry}
use Rattle.local_run.specs.declared.entry.Entry.TheVariants.{Native, Heard}
use Rattle.local_run.specs.Entries.{entry_stamp}
use Rattle.commit_horizon.specs.Horizon.{LocalRuns}
use Rattle.commit_horizon.specs.Laws.{LimitsBound}
use Rattle.commit_horizon.proofs.GoesOn.{CellLaws, AllGoOn, IsLeastEntry, NoneBefore}
use Rattle.commit_horizon.proofs.Steps.{central_step, central_end}
use Rattle.commit_horizon.proofs.Offered.{cell_laws}
use Rattle.commit_horizon.proofs.Bounds.{all_go_on}

-- ---- the least native entry of a list
abbrev NoneIn : Stamp → List Entry → Type 0
NoneIn t es = (x : Action) → IsAmong (Native x) es → ¬ Before (stamp_of x) t

abbrev HasLeast : Stamp → List Entry → Type 0
HasLeast t es = (x : Action) × IsAmong (Native x) es × Before (stamp_of x) t × NoneIn (stamp_of x) es

none_more : (t : Stamp) (e : Entry) (es : List Entry) → NoneIn t es →
    ((x : Action) → Native x ≡ e → ¬ Before (stamp_of x) t) → NoneIn t (e ∷ es)
none_more t e es none first x (inl is) = first x is
none_more t e es none first x (inr more) = none x more

not_native : (x : Action) (q : ℕ) (m : Message) → Native x ≡ Heard q m → ⊥
not_native x q m is = cc

none_with : (t : Stamp) (x : Action) (es : List Entry) → NoneIn t es → ¬ Before (stamp_of x) t →
    NoneIn t (Native x ∷ es)
none_with t x es none late = none_more t (Native x) es none
    (λ y is. subst (λ (v : Stamp). ¬ Before v t) (sym (ap entry_stamp is)) late)

-- none is before a stamp that is before all of them
none_sooner : (s t : Stamp) (es : List Entry) → NoneIn t es → Before s t → NoneIn s es
none_sooner s t es none before x among less = none x among (before_trans (stamp_of x) s t less before)

-- before a stamp there is a least one, or none
least_in : (t : Stamp) (es : List Entry) → HasLeast t es ⊎ NoneIn t es
least_in t [] = inr (λ x among. absurd among)
least_in t (Heard q m ∷ es) = elim (least_in t es) [
  | inl found ↦ inl (
    found.0,
    inr found.1,
    found.2,
    none_more (stamp_of found.0) (Heard q m) es found.3
        (λ x is. absurd (not_native x q m is)),
  )
  | inr none ↦ inr (none_more t (Heard q m) es none (λ x is. absurd (not_native x q m is)))
]
least_in t (Native x ∷ es) = by_rest (least_in t es) (before_decides (stamp_of x) t)
  where
    first : NoneIn (stamp_of x) es → Before (stamp_of x) t → HasLeast t (Native x ∷ es)
    first none before =
        (x, inl refl, before, none_with (stamp_of x) x es none (not_before_itself (stamp_of x)))

    by_order : (found : HasLeast t es) → Before (stamp_of x) t →
        Before (stamp_of x) (stamp_of found.0) ⊎ ¬ Before (stamp_of x) (stamp_of found.0) →
        HasLeast t (Native x ∷ es)
    by_order found before (inl less) =
        first (none_sooner (stamp_of x) (stamp_of found.0) es found.3 less) before
    by_order found before (inr not) =
        (found.0, inr found.1, found.2, none_with (stamp_of found.0) x es found.3 not)

    by_rest : HasLeast t es ⊎ NoneIn t es → Before (stamp_of x) t ⊎ ¬ Before (stamp_of x) t →
        HasLeast t (Native x ∷ es) ⊎ NoneIn t (Native x ∷ es)
    by_rest (inl found) (inl before) =
        inl (by_order found before (before_decides (stamp_of x) (stamp_of found.0)))
    by_rest (inl found) (inr late) = inl (
      found.0,
      inr found.1,
      found.2,
      none_with (stamp_of found.0) x es found.3
          (λ less. late (before_trans (stamp_of x) (stamp_of found.0) t less found.2)),
    )
    by_rest (inr none) (inl before) = inl (first (none_sooner (stamp_of x) t es none before) before)
    by_rest (inr none) (inr late) = inr (none_with t x es none late)

-- ---- the logs of the regions, one after the other
abbrev logs : LocalRuns → ℕ → List Entry
logs runs zero = []
logs runs (suc n) = logs runs n ++ (runs n).log

into_logs : (runs : LocalRuns) (n q : ℕ) (e : Entry) → q < n → IsAmong e (runs q).log → IsAmong e (logs runs n)
into_logs runs zero q e within among = absurd (omega arith)
into_logs runs (suc n) q e within among = elim (below_or_same q n within) [
  | inl less ↦ among_left e (logs runs n) (runs n).log (into_logs runs n q e less among)
  | inr same ↦ among_right e (logs runs n) (runs n).log
      (subst (λ (v : ℕ). IsAmong e (runs v).log) same among)
]
  where
    below_or_same : (q n : ℕ) → q < suc n → (q < n) ⊎ (q ≡ n)
    below_or_same q n lt = grind arith

from_logs : (runs : LocalRuns) (n : ℕ) (e : Entry) → IsAmong e (logs runs n) →
    (q : ℕ) × (q < n) × IsAmong e (runs q).log
from_logs runs zero e among = absurd among
from_logs runs (suc n) e among = elim (among_either e (logs runs n) (runs n).log among) [
  | inl sooner ↦
      let found = from_logs runs n e sooner in
      (found.0, (let lt : found.0 < n = found.1 in omega arith), found.2)
  | inr here ↦ (n, omega arith, here)
]

pub least_or_none : (state : CellStateData) (runs : LocalRuns) (h : Stamp) →
    ((k : ℕ) × (x : Action) × IsLeastEntry state runs k x × Before (stamp_of x) h) ⊎ NoneBefore state runs h
least_or_none state runs h = elim (least_in h (logs runs state.grid.regions)) [
  | inl found ↦
      let at = from_logs runs state.grid.regions (Native found.0) found.1 in
      inl (
        at.0,
        found.0,
        record {
          within = at.1;
          among = at.2;
          least = λ q y within among. found.3 y (into_logs runs state.grid.regions q (Native y) within among);
        },
        found.2,
      )
  | inr none ↦ inr (λ q y within among. none y (into_logs runs state.grid.regions q (Native y) within among))
]

-- ---- the law
pub limits_bound : LimitsBound
limits_bound state runs h s limit is stand bound next fails before =
    elim (least_or_none state runs h) [
      | inl found ↦
          let step = central_step state h runs found.0 found.1 laws all found.2 found.3 in
          never_both state.rules state.grid state.placed s found.1 limit next step.0.0 fails step.0.1
      | inr none ↦ (central_end state h runs laws all none).0 s next.0 before
    ]
  where
    laws : CellLaws state
    laws = cell_laws state is

    all : AllGoOn state h runs
    all = all_go_on state runs h stand bound
