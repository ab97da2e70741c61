-- Messages that are sent to one region after another.
use Rattle.std.proofs.Common.{◌≡◌, ◌≢◌, ◌⊎◌, inl, inr, ℕ, ◌+◌, ◌-◌, ◌*◌, ◌/◌, ◌<◌, ◌≤◌, refl, List, [], ◌++◌, length, Some, None, sym, ap, ◌∙◌, subst, arith, Option}
use Rattle.std.specs.Prelude.{slice_set, min, IfSome}
use Rattle.std.proofs.Math.Nat.{mul-le-mul, le-div_iff_mul-le}
use Rattle.std.proofs.lemmas.Bool.{cases_lt}
use Rattle.std.proofs.lemmas.List.{get_or-set_same, get_or-set_other, length-set}
use Rattle.cell_grid.specs.Grid.{GridData, HasSizes, AreLinked, strip_start}
use Rattle.cell_grid.proofs.Links.{links_are_mutual}
use Rattle.region_view.specs.declared.action.Action.{Action}
use Rattle.region_view.specs.declared.rows.Message.{Message}
use Rattle.region_view.specs.Acting.{stamp_of}
use Rattle.region_view.specs.Placing.{Placing}
use Rattle.region_messages.specs.Trails.{IsAfterAll}
use Rattle.local_run.proofs.Sent.{message_stamp}
use Rattle.region_view.specs.Messages.{message_of}
use Rattle.local_run.specs.declared.home.Home.{Home}
use Rattle.local_run.specs.LocalRun.{Trails, trail_of, prepended}
use Rattle.local_run.specs.Keeping.{SendsTo}

-- what goes to a region after an action
abbrev pub sent_on : Home → Placing → Action → Trails → ℕ → List Message
sent_on home at x old to = trail_of old to ++ prepended (message_of home.grid to at x) []

-- ---- which regions are near
-- the first columns of two regions are at least as far apart as their numbers
starts_apart : (columns regions k n : ℕ) → 1 ≤ regions → regions ≤ columns →
    k * columns / regions + n ≤ (k + n) * columns / regions
starts_apart columns regions k n some fits =
    let q = le-div_iff_mul-le {k = regions} {x = k * columns / regions} {y = k * columns} some in
    let whole : (k * columns / regions) * regions ≤ k * columns = q.0 (omega arith) in
    let same : n ≤ n = omega arith in
    let more : n * regions ≤ n * columns = mul-le-mul same fits in
    let p = le-div_iff_mul-le {k = regions} {x = k * columns / regions + n} {y = (k + n) * columns} some in
    p.1 (omega arith)

near_after : (grid : GridData) (j k : ℕ) → HasSizes grid → AreLinked grid j k → k < j + 3
near_after grid j k sizes (other, (cell, within, from_first, from_second)) = elim (cases_lt k (j + 3)) [
  | inl lt ↦ lt
  | inr le ↦
      let apart = starts_apart grid.columns grid.regions (j + 1) (k - (j + 1)) sizes.regions sizes.fits in
      let number : (j + 1) + (k - (j + 1)) ≡ k = omega arith in
      let far : strip_start grid (j + 1) + (k - (j + 1)) ≤ strip_start grid k =
      subst (λ (n : ℕ). strip_start grid (j + 1) + (k - (j + 1)) ≤ strip_start grid n) number apart in
      let end = from_first.1 in
      let start = from_second.0 in
      absurd (omega arith)
]

-- the numbers of linked regions differ by two at most
pub linked_are_near : (grid : GridData) (j k : ℕ) → HasSizes grid → AreLinked grid j k →
    (k < j + 3) × (j < k + 3)
linked_are_near grid j k sizes linked =
    (near_after grid j k sizes linked, near_after grid k j sizes ((links_are_mutual grid j k).0 linked))

-- ---- the messages
-- the regions below a number have been sent theirs
pub record IsSentBelow (home : Home) (at : Placing) (x : Action) (n : ℕ) (old new : Trails) : Type 0 where
  pub size : length new ≡ length old
  pub below : (to : ℕ) → SendsTo home to → to < n → trail_of new to ≡ sent_on home at x old to
  pub above : (to : ℕ) → n ≤ to → trail_of new to ≡ trail_of old to

-- those before the near ones are sent nothing
pub none_sent_yet : (home : Home) (at : Placing) (x : Action) (n : ℕ) (old : Trails) →
    HasSizes home.grid → n ≡ home.number - 2 → IsSentBelow home at x n old old
none_sent_yet home at x n old sizes first = record {
  size = refl;
  below = λ to sends lt.
      let near = linked_are_near home.grid home.number to sizes sends.1 in
      let after = near.1 in
      absurd (omega arith);
  above = λ to le. refl;
}

-- all near ones are below the end
pub all_below_end : (home : Home) (to end : ℕ) → HasSizes home.grid →
    end ≡ min (home.number + 3) home.grid.regions → SendsTo home to → to < end
all_below_end home to end sizes is sends =
    let near = linked_are_near home.grid home.number to sizes sends.1 in
    let before = near.0 in
    let region = sends.0 in
    omega arith

below_or_last : (q n : ℕ) → q < n + 1 → (q < n) ⊎ (q ≡ n)
below_or_last q n lt = grind arith

-- a region that isn't linked is sent nothing
pub one_skipped : (home : Home) (at : Placing) (x : Action) (n : ℕ) (old new : Trails) → ¬ SendsTo home n →
    IsSentBelow home at x n old new → IsSentBelow home at x (n + 1) old new
one_skipped home at x n old new none is = record {
  size = is.size;
  below = λ to sends lt. elim (below_or_last to n lt) [
    | inl less ↦ is.below to sends less
    | inr same ↦ absurd (none (subst (SendsTo home) same sends))
  ];
  above = λ to le. is.above to (omega arith);
}

pub one_sent : (home : Home) (at : Placing) (x : Action) (n : ℕ) (old new : Trails) (trail : List Message) →
    n < length new → trail ≡ trail_of new n ++ prepended (message_of home.grid n at x) [] →
    IsSentBelow home at x n old new → IsSentBelow home at x (n + 1) old (slice_set new n trail)
one_sent home at x n old new trail within wrote is = record {
  size = length-set new n trail ∙ is.size;
  below = λ to sends lt. elim (below_or_last to n lt) [
    | inl less ↦
        let other : to ≢ n = omega arith in
        get_or-set_other new n to trail [] other ∙ is.below to sends less
    | inr same ↦ subst (λ (k : ℕ). trail_of (slice_set new n trail) k ≡ sent_on home at x old k) (sym same)
        (get_or-set_same new n trail [] within ∙ here)
  ];
  above = λ to le.
      let other : to ≢ n = omega arith in
      get_or-set_other new n to trail [] other ∙ is.above to (omega arith);
}
  where
    here : trail ≡ sent_on home at x old n
    here = wrote ∙ ap (λ (ms : List Message). ms ++ prepended (message_of home.grid n at x) [])
        (is.above n (omega arith))

-- the message comes after those that were sent
pub comes_after_sent : (home : Home) (at : Placing) (x : Action) (n : ℕ) (old new : Trails)
    (trail : List Message) (o : Option Message) → IsSentBelow home at x n old new →
    trail ≡ trail_of new n → o ≡ message_of home.grid n at x →
    IsAfterAll (trail_of old n) (stamp_of x) → IfSome o (λ m. IsAfterAll trail m.stamp)
comes_after_sent home at x n old new trail None is same message after = tt
comes_after_sent home at x n old new trail (Some m) is same message after =
    subst (λ (ms : List Message). IsAfterAll ms m.stamp) (sym (same ∙ is.above n (omega arith)))
    (subst (IsAfterAll (trail_of old n)) (sym (message_stamp home.grid n at x m (sym message))) after)
