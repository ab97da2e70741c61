-- Why entries that the test for hindrances passes over are none.
use Rattle.std.proofs.Common.{◌≡◌, ◌⊎◌, inl, inr, ℕ, ◌+◌, ◌<◌, ◌≤◌, List, length, drop, slice_get, Option, Some, None, sym, subst, arith}
use Rattle.std.specs.Prelude.{IfSome, All, option_map, unwrap_or}
use Rattle.std.proofs.lemmas.Option.{slice_get-map}
use Rattle.std.proofs.lemmas.Bool.{cases_lt}
use Rattle.event_stamps.specs.declared.Stamp.{Stamp}
use Rattle.event_stamps.specs.Order.{Before}
use Rattle.cell_grid.specs.Grid.{IsAdjacent}
use Rattle.region_view.specs.declared.action.Placed.{Placed}
use Rattle.region_view.specs.Setting.{RowList}
use Rattle.local_run.specs.declared.home.Home.{Home}
use Rattle.local_run.specs.declared.entry.Entry.{Entry}
use Rattle.local_run.specs.Weaving.{IsApart}
use Rattle.event_log.specs.Logged.{Logged, logged_stamp, entries_in}
use Rattle.event_log.specs.Nearness.{AreAway, IsFar, AllUpTo}
use Rattle.region_parts.specs.Aside.{IsOwnTouch, TouchAfter, IsLateAside, IsOutOfWay}
use Rattle.region_parts.proofs.Lists.{as_many}
use Rattle.region_parts.proofs.Hindrances.{all_from}

-- ---- far rows
-- disks in cells that aren't adjacent have no event
no_touch : (h : Home) (t : Stamp) (i j : ℕ) (p q : Placed) → (¬ IsAdjacent h.grid p.cell q.cell) → (s : Stamp) →
    IsOwnTouch h i p j q s ⊎ IsOwnTouch h j q i p s → Before t s
no_touch h t i j p q away s (inl touch) = absurd (away touch.1.0)
no_touch h t i j p q away s (inr touch) =
    let near = touch.1.0 in absurd (away ((near.0.1, near.0.0), (near.1.1, near.1.0)))

away_after : (h : Home) (t : Stamp) (row other : ℕ × Option Placed) → AreAway h.grid row.1 other.1 →
    TouchAfter h t row other
away_after h t (i, None) other away = tt
away_after h t (i, Some p) (j, None) away = tt
away_after h t (i, Some p) (j, Some q) away = λ s touch. no_touch h t i j p q away s touch

far_aside : (h : Home) (rows : RowList) (l : Logged) → IsFar h.grid rows l → IsOutOfWay h rows l
far_aside h rows l far = (
  far.apart,
  record {
    others = far.others;
    later = λ row other here among. away_after h (logged_stamp l) row other (far.away row other here among);
  },
)

far_at : (h : Home) (rows : RowList) (o : Option Logged) → IfSome o (IsFar h.grid rows) → IfSome o (IsOutOfWay h rows)
far_at h rows None far = tt
far_at h rows (Some l) far = far_aside h rows l far

-- ---- one entry
both_at : {A : Type 0} (P Q : A → Type 0) (o : Option A) → IfSome o P → IfSome o Q → IfSome o (λ x. P x × Q x)
both_at P Q None p q = tt
both_at P Q (Some x) p q = (p, q)

of_entry : (P : Entry → Type 0) (o : Option Logged) → IfSome (option_map (λ l. l.0) o) P → IfSome o (λ l. P l.0)
of_entry P None is = tt
of_entry P (Some l) is = is

pub tested_at : (h : Home) (rows : RowList) (log : List Logged) (i : ℕ) →
    IfSome (slice_get (entries_in log) i) (IsApart rows) → IfSome (slice_get log i) (IsLateAside h rows) →
    IfSome (slice_get log i) (IsOutOfWay h rows)
tested_at h rows log i apart late = both_at (λ (l : Logged). IsApart rows l.0) (IsLateAside h rows) (slice_get log i)
    (of_entry (IsApart rows) (slice_get log i)
    (subst (λ (o : Option Entry). IfSome o (IsApart rows)) (slice_get-map (λ (l : Logged). l.0) log i) apart)) late

-- ---- the walk
-- those from a place on, as far as it has come
abbrev pub ArePassed : Home → RowList → List Logged → ℕ → ℕ → Type 0
ArePassed h rows log kept next = (k : ℕ) → k < next → kept ≤ k → IfSome (slice_get log k) (IsOutOfWay h rows)

-- up to the next entry that may be near
passed_up_to : (h : Home) (rows : RowList) (log : List Logged) (kept next : ℕ) (found : Option ℕ) →
    ArePassed h rows log kept next → AllUpTo (IsFar h.grid rows) log next found →
    ArePassed h rows log kept (unwrap_or found (length log))
passed_up_to h rows log kept next found passed far k lt le = elim (cases_lt k next) [
  | inl before ↦ passed k before le
  | inr from ↦ far_at h rows (slice_get log k) (far k from lt)
]

-- and that one, if it is tested
pub passed_more : (h : Home) (rows : RowList) (log : List Logged) (kept next i : ℕ) →
    ArePassed h rows log kept next → AllUpTo (IsFar h.grid rows) log next (Some i) →
    IfSome (slice_get log i) (IsOutOfWay h rows) → ArePassed h rows log kept (i + 1)
passed_more h rows log kept next i passed far here k lt le = elim (cases_lt k i) [
  | inl before ↦ passed_up_to h rows log kept next (Some i) passed far k before le
  | inr from ↦
      let same : i ≡ k = omega arith in
      subst (λ (n : ℕ). IfSome (slice_get log n) (IsOutOfWay h rows)) same here
]

-- at the end, all
pub passed_all : (h : Home) (rows : RowList) (log : List Logged) (kept next : ℕ) →
    ArePassed h rows log kept next → AllUpTo (IsFar h.grid rows) log next None →
    ArePassed h rows log kept (length log)
passed_all h rows log kept next passed far = passed_up_to h rows log kept next None passed far

pub all_apart : (h : Home) (rows : RowList) (log : List Logged) (kept : ℕ) → ArePassed h rows log kept (length log) →
    All (IsApart rows) (drop kept (entries_in log))
all_apart h rows log kept passed = all_from (IsApart rows) kept (entries_in log) (λ k lt le.
    subst (λ (o : Option Entry). IfSome o (IsApart rows)) (sym (slice_get-map (λ (l : Logged). l.0) log k))
    (apart (slice_get log k) (passed k (few k lt) le)))
  where
    apart : (o : Option Logged) → IfSome o (IsOutOfWay h rows) → IfSome (option_map (λ (l : Logged). l.0) o) (IsApart rows)
    apart None out = tt
    apart (Some l) out = out.0

    few : (k : ℕ) → k < length (entries_in log) → k < length log
    few k lt = let many = as_many log in omega arith

pub all_aside : (h : Home) (rows : RowList) (log : List Logged) (kept : ℕ) → ArePassed h rows log kept (length log) →
    All (IsLateAside h rows) (drop kept log)
all_aside h rows log kept passed = all_from (IsLateAside h rows) kept log (λ k lt le.
    late (slice_get log k) (passed k lt le))
  where
    late : (o : Option Logged) → IfSome o (IsOutOfWay h rows) → IfSome o (IsLateAside h rows)
    late None out = tt
    late (Some l) out = out.1

-- at the beginning, none
pub none_passed : (h : Home) (rows : RowList) (log : List Logged) (kept : ℕ) → ArePassed h rows log kept kept
none_passed h rows log kept k lt le = absurd (omega arith)
