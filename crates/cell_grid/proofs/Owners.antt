-- Owners and reaches of cells.
use Rattle.std.proofs.Common.{◌≡◌, inl, inr, ℕ, ◌+◌, ◌-◌, ◌*◌, ◌/◌, ◌%◌, ◌<◌, ◌≤◌, sym, subst, arith}
use Rattle.std.proofs.Math.Nat.{mul-le-mul, le-div_iff_mul-le}
use Rattle.std.proofs.lemmas.Nat.{div-mul-add, mod-mul-add}
use Rattle.std.proofs.lemmas.Bool.{cases_lt}
use Rattle.cell_grid.specs.Grid.{column_of, row_of, strip_start}
use Rattle.cell_grid.specs.Laws.{EachCellHasOneOwner, ReachIsBesideOwn, NeighboursAreInReach, OwnIsInReach}
use Rattle.cell_grid.proofs.Strips.{owner_is, one_owner, starts_rise}

pub each_cell_has_one_owner : EachCellHasOneOwner
each_cell_has_one_owner grid cell ok within =
    let column : column_of grid cell < grid.columns = below grid.columns cell ok.columns in
    let own = owner_is grid.columns grid.regions (column_of grid cell) ok.regions column in (
      ((column_of grid cell + 1) * grid.regions - 1) / grid.columns,
      own.0,
      (own.1, own.2),
      λ j some owns.
          one_owner grid.columns grid.regions j (((column_of grid cell + 1) * grid.regions - 1) / grid.columns)
          (column_of grid cell) ok.regions owns.0 owns.1 own.1 own.2,
    )
  where
    below : (columns cell : ℕ) → 1 ≤ columns → cell % columns < columns
    below columns cell some = grind arith

-- the cell beside, in the same row
in_row : (columns rows cell column : ℕ) → 1 ≤ columns → cell < rows * columns → column < columns →
    (((cell / columns) * columns + column) < rows * columns)
    × ((((cell / columns) * columns + column) % columns) ≡ column)
    × ((((cell / columns) * columns + column) / columns) ≡ cell / columns)
in_row columns rows cell column some within lt =
    let q = le-div_iff_mul-le {k = columns} {x = cell / columns} {y = cell} some in
    let whole : (cell / columns) * columns ≤ cell = q.0 (omega arith) in
    let row : cell / columns < rows = elim (cases_lt (cell / columns) rows) [
      | inl less ↦ less
      | inr le ↦
          let same : columns ≤ columns = omega arith in
          let over : rows * columns ≤ (cell / columns) * columns = mul-le-mul le same in
          absurd (omega arith)
    ] in
    let more : cell / columns + 1 ≤ rows = omega arith in
    let same : columns ≤ columns = omega arith in
    let room : (cell / columns + 1) * columns ≤ rows * columns = mul-le-mul more same in
    (omega arith, mod-mul-add (cell / columns) columns column lt, div-mul-add (cell / columns) columns column lt)

-- a column within one of a strip is beside a column of the strip
beside_strip : (first end column : ℕ) → first < end → first ≤ column + 1 → column ≤ end →
    (own : ℕ) × (first ≤ own) × (own < end) × (own ≤ column + 1) × (column ≤ own + 1)
beside_strip first end column some low high = elim (cases_lt column first) [
  | inl before ↦ (first, omega arith, omega arith, omega arith, omega arith)
  | inr from ↦ elim (cases_lt column end) [
    | inl in_strip ↦ (column, omega arith, omega arith, omega arith, omega arith)
    | inr past ↦ (end - 1, omega arith, omega arith, omega arith, omega arith)
  ]
]

strip_within : (columns regions k : ℕ) → 1 ≤ regions → k < regions → (k + 1) * columns / regions ≤ columns
strip_within columns regions k some lt =
    let more : k + 1 ≤ regions = omega arith in
    let same : columns ≤ columns = omega arith in
    let room : (k + 1) * columns ≤ regions * columns = mul-le-mul more same in
    let q = le-div_iff_mul-le {k = regions} {x = columns + 1} {y = (k + 1) * columns} some in
    elim (cases_lt columns ((k + 1) * columns / regions)) [
      | inl over ↦ absurd (let far : (columns + 1) * regions ≤ (k + 1) * columns = q.0 (omega arith) in omega arith)
      | inr le ↦ le
    ]

pub reach_is_beside_own : ReachIsBesideOwn
reach_is_beside_own grid k cell ok region within = (
  λ h.
      let found =
      beside_strip (strip_start grid k) (strip_start grid (k + 1)) (column_of grid cell)
      (starts_rise grid.columns grid.regions k ok.regions ok.fits) h.0 h.1 in
      let end : (k + 1) * grid.columns / grid.regions ≤ grid.columns =
      strip_within grid.columns grid.regions k ok.regions region in
      let lt : found.0 < grid.columns = (let less = found.2 in omega arith) in
      let cells = in_row grid.columns grid.rows cell found.0 ok.columns within lt in (
        (cell / grid.columns) * grid.columns + found.0,
        cells.0,
        (subst (λ (n : ℕ). strip_start grid k ≤ n) (sym cells.1) found.1, subst (λ (n : ℕ). n < strip_start grid (k + 1)) (sym cells.1) found.2),
        (
          (
            subst (λ (n : ℕ). n ≤ column_of grid cell + 1) (sym cells.1) found.3,
            subst (λ (n : ℕ). column_of grid cell ≤ n + 1) (sym cells.1) found.4,
          ),
          (
            subst (λ (n : ℕ). n ≤ row_of grid cell + 1) (sym cells.2) (omega arith),
            subst (λ (n : ℕ). row_of grid cell ≤ n + 1) (sym cells.2) (omega arith),
          ),
        ),
      ),
  λ h. let low = h.2.0 in let high = h.2.1 in let near = h.3.0.0 in let far = h.3.0.1 in (omega arith, omega arith),
)

pub own_is_in_reach : OwnIsInReach
own_is_in_reach grid k cell owns = let low = owns.0 in let high = owns.1 in (omega arith, omega arith)

pub neighbours_are_in_reach : NeighboursAreInReach
neighbours_are_in_reach grid k own cell owns beside =
    let low = owns.0 in
    let high = owns.1 in
    let left = beside.0.0 in
    let right = beside.0.1 in
    (omega arith, omega arith)
