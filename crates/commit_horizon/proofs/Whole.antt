-- Merging comes to an end: what the regions did before a stamp can be put in the order of stamps.
use Rattle.std.proofs.Common.{◌≡◌, inl, inr, ℕ, zero, suc, ◌+◌, ◌<◌, ◌≤◌, List, [], ◌∷◌, ◌++◌, append-nil, append_assoc, length, set, drop}
use Rattle.std.proofs.Common.{sym, ◌∙◌, subst, refl, arith, Option, Some, None}
use Rattle.std.specs.Prelude.{slice_get}
use Rattle.std.specs.Option.{IsSome}
use Rattle.std.specs.List.{sum_by}
use Rattle.std.proofs.lemmas.Bool.{cases_lt}
use Rattle.event_stamps.specs.declared.Stamp.{Stamp}
use Rattle.cell_grid.specs.Grid.{IsRegion}
use Rattle.region_view.specs.declared.action.Action.{Action}
use Rattle.region_view.specs.Acting.{stamp_of}
use Rattle.cell_sequence.specs.State.{CellStateData, IsCellState, followed}
use Rattle.local_run.specs.declared.entry.Entry.{Entry}
use Rattle.local_run.specs.Opening.{RegionData}
use Rattle.local_run.specs.Entries.{native_in}
use Rattle.local_run.specs.Keeping.{entries_of}
use Rattle.commit_horizon.specs.Horizon.{runs_of, AllStand, AllKept, IsBound}
use Rattle.commit_horizon.specs.Merging.{Head, Heads, head_at, IsLeadingHead}
use Rattle.commit_horizon.proofs.Merging.{actions_below, IsHeadAfter, head_before, AreHeads, nearer_of, Merges}
use Rattle.commit_horizon.proofs.Heads.{IsLeastOfFirst, nearer_is, least_of_all, head_found, head_passed, head_past, one_more_head, cost_of}
use Rattle.commit_horizon.proofs.Merges.{KeepsMerging, keeps_begin, has_action, keeps_on, costs_less, keeps_end}
use Rattle.commit_horizon.proofs.Standing.{region_on, region_at}

-- ---- heads
head_from : (h : Stamp) (log : List Entry) (done k fuel : ℕ) → done ≤ k → length log ≤ k + fuel →
    actions_below h (drop done log) ≡ actions_below h (drop k log) →
    (head : Option Head) × IsHeadAfter h log done head
head_from h log done k zero le past so_far = (None, head_past h log done k (omega (arith, past)) so_far)
head_from h log done k (suc fuel) le past so_far = by_found (native_in (slice_get log k)) refl
    (head_from h log done (k + 1) fuel (omega arith) (omega (arith, past)))
  where
    by_found : (found : Option Action) → native_in (slice_get log k) ≡ found →
        (actions_below h (drop done log) ≡ actions_below h (drop (k + 1) log) →
        (head : Option Head) × IsHeadAfter h log done head) → (head : Option Head) × IsHeadAfter h log done head
    by_found (Some x) is more = (head_before h (stamp_of x) k, head_found h log done k x le is so_far)
    by_found None is more = elim (cases_lt k (length log)) [
      | inl lt ↦ more (so_far ∙ head_passed h log k lt is)
      | inr out ↦ (None, head_past h log done k out so_far)
    ]

-- each log has a head after any number of entries
pub some_head : (h : Stamp) (log : List Entry) (done : ℕ) → (head : Option Head) × IsHeadAfter h log done head
some_head h log done = head_from h log done done (length log) (omega arith) (omega arith) refl

least_upto : (heads : Heads) (n : ℕ) → n ≤ length heads →
    (least : Option (ℕ × Head)) × IsLeastOfFirst heads n least
least_upto heads zero le = (None, λ k below. absurd (omega arith))
least_upto heads (suc n) le =
    let sooner = least_upto heads n (omega arith) in (
      nearer_of sooner.0 n (head_at heads n),
      subst (λ (m : ℕ). IsLeastOfFirst heads m (nearer_of sooner.0 n (head_at heads n)))
          (let e : n + 1 ≡ suc n = omega arith in e)
          (nearer_is heads n sooner.0 (head_at heads n) (omega arith) refl sooner.1),
    )

-- some heads have a least one, or there is none
least_head : (heads : Heads) → (least : Option (ℕ × Head)) × IsLeadingHead heads least
least_head heads =
    let found = least_upto heads (length heads) (omega arith) in
    (found.0, least_of_all heads (length heads) found.0 (omega arith) found.1)

some_in : {A : Type 0} (found : Option A) → IsSome found → (x : A) × (found ≡ Some x)
some_in None is = cc
some_in (Some x) is = (x, refl)

module _ (old : CellStateData) (regions : List RegionData) (h : Stamp) (is : IsCellState old)
    (stand : AllStand old regions) (kept : AllKept regions) (bound : IsBound old (runs_of regions) h) where
  heads_upto : (n : ℕ) → n ≤ length regions → (heads : Heads) × AreHeads h regions n heads
  heads_upto zero le = ([], record { count = refl; each = λ k region below at. absurd (omega arith) })
  heads_upto (suc n) le =
      let sooner = heads_upto n (omega arith) in
      let region = region_on old n (runs_of regions n) in
      let within : IsRegion old.grid n = subst (λ m. n < m) stand.count (let lt : n < length regions = omega arith in lt) in
      let head = some_head h (entries_of region) 0 in (
        sooner.0 ++ head.0 ∷ [],
        subst (λ (m : ℕ). AreHeads h regions m (sooner.0 ++ head.0 ∷ []))
            (let e : n + 1 ≡ suc n = omega arith in e)
            (one_more_head h regions n sooner.0 region head.0 (region_at old regions n stand within) sooner.1 head.1),
      )

  -- what is left to merge, after what was merged
  abbrev pub Left : List Action → Type 0
  Left done = (rest : List Action) × (later : CellStateData) × Merges old regions h (done ++ rest) later

  merges_same : {xs ys : List Action} (later : CellStateData) → xs ≡ ys → Merges old regions h xs later →
      Merges old regions h ys later
  merges_same later same merges = subst (λ (xs : List Action). Merges old regions h xs later) same merges

  merge_from : (fuel : ℕ) (heads : Heads) (done : List Action) (now : CellStateData) →
      KeepsMerging old regions h heads done now → sum_by cost_of heads < fuel → Left done
  merge_from zero heads done now keeps less = absurd (omega (arith, less))
  merge_from (suc fuel) heads done now keeps less =
      let least = least_head heads in by_least least.0 least.1 (merge_from fuel)
    where
      by_least : (least : Option (ℕ × Head)) → IsLeadingHead heads least →
          ((heads : Heads) (done : List Action) (now : CellStateData) →
          KeepsMerging old regions h heads done now → sum_by cost_of heads < fuel → Left done) → Left done
      by_least None none more = (
        [],
        now,
        subst (λ (xs : List Action). Merges old regions h xs now) (sym (append-nil done))
            (keeps_end old regions h heads done now keeps is stand kept bound none),
      )
      by_least (Some (k, head)) least more =
          let within : IsRegion old.grid k = subst (λ n. k < n) (keeps.count ∙ stand.count) least.0 in
          let region = region_on old k (runs_of regions k) in
          let at = region_at old regions k stand within in
          let x = some_in (native_in (slice_get (entries_of region) head.place))
          (has_action old regions h heads done now keeps stand kept k head least region at) in
          let new = some_head h (entries_of region) (head.place + 1) in
          let rest = more (set heads k new.0) (done ++ x.0 ∷ []) (followed now x.0)
          (keeps_on old regions h heads done now keeps stand kept k head least region at x.0 x.1 new.0 new.1)
          (let falls = costs_less old regions h heads done now keeps stand kept k head least region at new.0 new.1 in
          omega (arith, falls, less)) in
          let same : (done ++ x.0 ∷ []) ++ rest.0 ≡ done ++ (x.0 ∷ rest.0) = append_assoc done (x.0 ∷ []) rest.0 in
          (x.0 ∷ rest.0, rest.1, merges_same {xs = (done ++ x.0 ∷ []) ++ rest.0} {ys = done ++ (x.0 ∷ rest.0)} rest.1 same rest.2)

  -- from any place of a merge on
  pub merge_ends : (heads : Heads) (done : List Action) (now : CellStateData) →
      KeepsMerging old regions h heads done now → Left done
  merge_ends heads done now keeps =
      merge_from (sum_by cost_of heads + 1) heads done now keeps (omega arith)

  -- from the start
  pub merge_whole : Left []
  merge_whole =
      let heads = heads_upto (length regions) (omega arith) in
      merge_ends heads.0 [] old (keeps_begin old regions h heads.0 is stand kept bound heads.1)
