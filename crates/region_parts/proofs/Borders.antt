-- The columns that no other region reaches, and what happens there.
use Rattle.std.proofs.Common.{◌≡◌, ◌≢◌, inl, inr, ℕ, ◌+◌, ◌-◌, ◌*◌, ◌/◌, ◌<◌, ◌≤◌, List, [], ◌∷◌, ◌++◌, Bool, true, false, refl, sym, ap, subst, arith, Option, Some, None}
use Rattle.std.specs.Prelude.{⊤, IfSome, if◌then◌else◌, ◌||◌, map as each}
use Rattle.std.proofs.Math.Nat.{mul-le-mul, le-div_iff_mul-le}
use Rattle.std.proofs.lemmas.Bool.{cases_lt}
use Rattle.std.proofs.lemmas.List.{append-nil}
use Rattle.event_stamps.proofs.Decision.{Decision, same_number}
use Rattle.fixed_motion.specs.declared.disk.Disk.{Disk}
use Rattle.event_stamps.specs.declared.Stamp.{Stamp}
use Rattle.event_rules.specs.declared.change.Change.{Change}
use Rattle.cell_grid.specs.Grid.{HasSizes, IsCell, IsRegion, column_of, strip_start}
use Rattle.cell_grid.proofs.Owners.{each_cell_has_one_owner, own_is_in_reach}
use Rattle.region_view.specs.declared.action.Placed.{Placed}
use Rattle.region_view.specs.declared.action.Action.{Action}
use Rattle.region_view.specs.declared.action.Action.TheVariants.{Cross, Hit}
use Rattle.region_view.specs.Placing.{Placing}
use Rattle.region_view.specs.Acting.{stamp_of, recelled, redisked}
use Rattle.region_view.specs.Setting.{RowList, rows_set}
use Rattle.region_view.proofs.After.{reaches_is}
use Rattle.region_view.specs.Messages.{message_of, message_with, told_rows, sees, seen_by, reaches}
use Rattle.local_run.specs.declared.home.Home.{Home}
use Rattle.local_run.specs.Keeping.{SendsTo}
use Rattle.region_parts.specs.declared.border.Border.{Border}
use Rattle.region_parts.specs.Border.{IsBorderOf, IsFarFromOthers, IsFarRow, IsUntold}

-- ---- columns
-- a later region starts no earlier
starts_follow : (columns regions j k : ℕ) → 1 ≤ regions → j ≤ k → j * columns / regions ≤ k * columns / regions
starts_follow columns regions j k some le =
    let same : columns ≤ columns = omega arith in
    let more : j * columns ≤ k * columns = mul-le-mul le same in
    let q = le-div_iff_mul-le {k = regions} {x = j * columns / regions} {y = j * columns} some in
    let whole : (j * columns / regions) * regions ≤ j * columns = q.0 (omega arith) in
    let p = le-div_iff_mul-le {k = regions} {x = j * columns / regions} {y = k * columns} some in
    p.1 (omega arith)

-- none starts past the last column
pub start_within : (columns regions k : ℕ) → 1 ≤ regions → k ≤ regions → k * columns / regions ≤ columns
start_within columns regions k some le =
    let same : columns ≤ columns = omega arith in
    let room : k * columns ≤ regions * columns = mul-le-mul le same in
    let q = le-div_iff_mul-le {k = regions} {x = columns + 1} {y = k * columns} some in
    elim (cases_lt columns (k * columns / regions)) [
      | inl over ↦ absurd (let far : (columns + 1) * regions ≤ k * columns = q.0 (omega arith) in omega arith)
      | inr le ↦ le
    ]

-- the first region has a column before it ends, and so have all
pub end_is_past : (columns regions k : ℕ) → 1 ≤ regions → regions ≤ columns → 1 ≤ (k + 1) * columns / regions
end_is_past columns regions k some fits =
    let one : 1 ≤ k + 1 = omega arith in
    let room : 1 * regions ≤ (k + 1) * columns = mul-le-mul one fits in
    let p = le-div_iff_mul-le {k = regions} {x = 1} {y = (k + 1) * columns} some in
    p.1 (omega arith)

-- what is between the columns that the neighbours see is far
far_between : (h : Home) (cell : ℕ) → HasSizes h.grid →
    (h.number ≢ 0 → strip_start h.grid h.number < column_of h.grid cell) →
    (h.number + 1 ≢ h.grid.regions → column_of h.grid cell + 1 < strip_start h.grid (h.number + 1)) →
    IsFarFromOthers h cell
far_between h cell sizes low high k region reach = elim (cases_lt k h.number) [
  | inl left ↦
      let next : k + 1 ≤ h.number = omega arith in
      let follow = starts_follow h.grid.columns h.grid.regions (k + 1) h.number sizes.regions next in
      let first : strip_start h.grid h.number < column_of h.grid cell = low (λ none. omega arith) in
      let seen = reach.1 in
      absurd (omega arith)
  | inr from ↦ elim (cases_lt h.number k) [
    | inl right ↦
        let next : h.number + 1 ≤ k = omega arith in
        let follow = starts_follow h.grid.columns h.grid.regions (h.number + 1) k sizes.regions next in
        let last : column_of h.grid cell + 1 < strip_start h.grid (h.number + 1) = high (λ none. omega arith) in
        let seen = reach.0 in
        absurd (omega arith)
    | inr to ↦ omega arith
  ]
]

-- what is far is the region's own, and between those columns
pub record IsBetween (h : Home) (cell : ℕ) : Type 0 where
  pub from : strip_start h.grid h.number ≤ column_of h.grid cell
  pub below : column_of h.grid cell < strip_start h.grid (h.number + 1)
  pub low : h.number ≢ 0 → strip_start h.grid h.number < column_of h.grid cell
  pub high : h.number + 1 ≢ h.grid.regions → column_of h.grid cell + 1 < strip_start h.grid (h.number + 1)

between_far : (h : Home) (cell : ℕ) → HasSizes h.grid → IsRegion h.grid h.number → IsCell h.grid cell →
    IsFarFromOthers h cell → IsBetween h cell
between_far h cell sizes region within far =
    let owner = each_cell_has_one_owner h.grid cell sizes within in
    let is : owner.0 ≡ h.number = far owner.0 owner.1 (own_is_in_reach h.grid owner.0 cell owner.2) in
    let from = subst (λ (k : ℕ). strip_start h.grid k ≤ column_of h.grid cell) is owner.2.0 in
    let below = subst (λ (k : ℕ). column_of h.grid cell < strip_start h.grid (k + 1)) is owner.2.1 in
    record {
      from = from;
      below = below;
      low = λ some. elim (cases_lt (strip_start h.grid h.number) (column_of h.grid cell)) [
        | inl lt ↦ lt
        | inr le ↦
            let before = left h.number some in
            let k = before.0 in
            let next : k + 1 ≡ h.number = before.1 in
            let beside : k < h.grid.regions = omega arith in
            let later : k ≤ h.number = omega arith in
            let follow = starts_follow h.grid.columns h.grid.regions k h.number sizes.regions later in
            let end : column_of h.grid cell ≤ strip_start h.grid (k + 1) =
            subst (λ (n : ℕ). column_of h.grid cell ≤ strip_start h.grid n) (sym next) le in
            let same : k ≡ h.number = far k beside ((omega arith), end) in
            absurd (omega arith)
      ];
      high = λ more. elim (cases_lt (column_of h.grid cell + 1) (strip_start h.grid (h.number + 1))) [
        | inl lt ↦ lt
        | inr le ↦
            let beside : h.number + 1 < h.grid.regions = omega arith in
            let later : h.number + 1 ≤ h.number + 1 + 1 = omega arith in
            let follow = starts_follow h.grid.columns h.grid.regions (h.number + 1) (h.number + 1 + 1) sizes.regions
            later in
            let same : h.number + 1 ≡ h.number = far (h.number + 1) beside (le, (omega arith)) in
            absurd (omega arith)
      ];
    }
  where
    left : (n : ℕ) → n ≢ 0 → (k : ℕ) × (k + 1 ≡ n)
    left n some = (n - 1, omega arith)

-- the columns that a region keeps
pub record HasEnds (h : Home) (border : Border) : Type 0 where
  pub none_before : h.number ≡ 0 → border.first ≡ 0
  pub before : h.number ≢ 0 → border.first ≡ strip_start h.grid h.number + 1
  pub none_after : h.number + 1 ≡ h.grid.regions → border.end ≡ strip_start h.grid (h.number + 1)
  pub after : h.number + 1 ≢ h.grid.regions → border.end + 1 ≡ strip_start h.grid (h.number + 1)

pub border_is : (h : Home) (border : Border) → HasSizes h.grid → IsRegion h.grid h.number → HasEnds h border →
    IsBorderOf h border
border_is h border sizes region ends cell within = (
  λ inside. far_between h cell sizes
      (λ some. let first = ends.before some in let from = inside.0 in omega arith)
      (λ more. let end = ends.after more in let below = inside.1 in omega arith),
  λ far. let is = between_far h cell sizes region within far in
      (from_first is (same_number h.number 0), below_end is (same_number (h.number + 1) h.grid.regions)),
)
  where
    from_first : IsBetween h cell → Decision (h.number ≡ 0) → border.first ≤ column_of h.grid cell
    from_first is (inl none) = let first = ends.none_before none in omega arith
    from_first is (inr some) = let first = ends.before some in let low = is.low some in omega arith

    below_end : IsBetween h cell → Decision (h.number + 1 ≡ h.grid.regions) → column_of h.grid cell < border.end
    below_end is (inl none) = let end = ends.none_after none in let below = is.below in omega arith
    below_end is (inr more) = let end = ends.after more in let high = is.high more in omega arith

-- ---- what is told
-- another region sees nothing of a far row
unseen : (h : Home) (to : ℕ) (row : Option Placed) → SendsTo h to → IsFarRow h row → sees h.grid to row ≡ false
unseen h to None sends far = refl
unseen h to (Some p) sends far = by_test (reaches h.grid to p.cell) refl
  where
    by_test : (b : Bool) → reaches h.grid to p.cell ≡ b → reaches h.grid to p.cell ≡ false
    by_test false e = e
    by_test true e = absurd (sends.1.0 (sym (far to sends.0 (reaches_is h.grid to p.cell e))))

-- rows that are far before and after
AreFar : Home → Placing → RowList → Type 0
AreFar h at [] = ⊤
AreFar h at (r ∷ rows) = IsFarRow h (at r.0) × IsFarRow h r.1 × AreFar h at rows

none_told : (h : Home) (to : ℕ) (at : Placing) (rows : RowList) → SendsTo h to → AreFar h at rows →
    told_rows h.grid to at rows ≡ []
unfolding AreFar
none_told h to at [] sends far = refl
none_told h to at (r ∷ rows) sends far =
    let before = unseen h to (at r.0) sends far.0 in
    let after = unseen h to r.1 sends far.1 in
    let rest = none_told h to at rows sends far.2 in
    λ i. (if before i || after i then (r.0, seen_by h.grid to r.1) ∷ [] else []) ++ rest i

untold_rows : (h : Home) (at : Placing) (x : Action) → AreFar h at (rows_set at x) → IsUntold h at x
unfolding message_of
untold_rows h at x far to sends = ap (message_with (stamp_of x)) (none_told h to at (rows_set at x) sends far)

abbrev put_row : ℕ × Placed → ℕ × Option Placed
put_row r = (r.0, Some r.1)

-- a crossing from one far cell into another
pub crossing_untold : (h : Home) (at : Placing) (s : Stamp) (cell : ℕ) → IsFarRow h (at s.first) → IsFarFromOthers h cell →
    IsUntold h at (Cross s cell)
unfolding AreFar
crossing_untold h at s cell before after = untold_rows h at (Cross s cell) (by_row (at s.first))
  where
    by_row : (o : Option Placed) → AreFar h at (each put_row (recelled s.first cell o))
    by_row None = tt
    by_row (Some p) = (before, after, tt)

-- a far disk gets another record
one_far : (h : Home) (at : Placing) (i : ℕ) (d : Option Disk) (rest : List (ℕ × Placed)) →
    IfSome d (λ _. IsFarRow h (at i)) → AreFar h at (each put_row rest) →
    AreFar h at (each put_row (redisked i d (at i) ++ rest))
unfolding AreFar
one_far h at i None rest far more = more
one_far h at i (Some a) rest far more = by_row (at i) refl
  where
    by_row : (o : Option Placed) → at i ≡ o → AreFar h at (each put_row (redisked i (Some a) o ++ rest))
    by_row None e = more
    by_row (Some p) e = (far, subst (IsFarRow h) e far, more)

-- a collision of far disks
collision_untold : (h : Home) (at : Placing) (change : Change) → IsFarRow h (at change.stamp.first) →
    IfSome change.second (λ _. IsFarRow h (at change.stamp.second)) → IsUntold h at (Hit change)
unfolding AreFar
collision_untold h at change first second = untold_rows h at (Hit change)
    (one_far h at change.stamp.first (Some change.first)
    (redisked change.stamp.second change.second (at change.stamp.second)) first
    (subst (λ (rows : List (ℕ × Placed)). AreFar h at (each put_row rows)) (append-nil _)
    (one_far h at change.stamp.second change.second [] second tt)))

-- of two
pub pair_untold : (h : Home) (at : Placing) (change : Change) (second : Disk) → change.second ≡ Some second →
    IsFarRow h (at change.stamp.first) → IsFarRow h (at change.stamp.second) → IsUntold h at (Hit change)
pair_untold h at change second is far other =
    collision_untold h at change far
    (subst (λ (o : Option Disk). IfSome o (λ _. IsFarRow h (at change.stamp.second))) (sym is) other)
