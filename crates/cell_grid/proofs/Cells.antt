-- Grids of checked rules, the cells of places, and the disks that may meet.
use Rattle.std.proofs.Common.{◌≡◌, ◌⊎◌, inl, inr, ℕ, ◌+◌, ◌-◌, ◌*◌, ◌/◌, ◌<◌, ◌≤◌, min, sym, subst, ◌∙◌, arith}
use Rattle.std.specs.Prelude.{ℤ, pos, nat_abs, ◌-ℤ◌, ◌≤ℤ◌}
use Rattle.std.proofs.lemmas.Int.{ints}
use Rattle.std.proofs.Math.Nat.{mul-le-mul, mul-le-mul_left, le-div_iff_mul-le}
use Rattle.std.proofs.lemmas.Nat.{div-mul-add, mod-mul-add}
use Rattle.std.proofs.lemmas.Bool.{cases_lt}
use Rattle.plane_vectors.specs.declared.Vector.{Vector}
use Rattle.plane_vectors.specs.Vectors.{difference}
use Rattle.fixed_motion.specs.declared.rules.Rules.{Rules}
use Rattle.fixed_motion.specs.Rules.{IsChecked}
use Rattle.fixed_motion.specs.Motion.{IsInBox, velocity_of, contact_distance}
use Rattle.fixed_motion.proofs.Sizes.{inside_in_box, contact_least, contact_most}
use Rattle.contact_predictor.proofs.FarApart.{far_apart, far_above}
use Rattle.cell_grid.specs.declared.grid.TheConstants.{MAX_CELLS_ALONG, MAX_REGIONS}
use Rattle.cell_grid.specs.Grid.{GridData, HasSizes, IsGridOf, grid_of, columns_of, rows_of, cells_along, least_side, along, cell_at, column_of, row_of, IsAdjacent, IsBeside}
use Rattle.cell_grid.specs.Laws.{GridsHaveSizes, PlacesHaveCells, FarUnlessAdjacent, TouchInAdjacent}
use Rattle.cell_grid.proofs.Along as columns

-- what is known of the grid of checked rules
pub record IsSound (rules : Rules) (grid : GridData) : Type 0 where
  pub sizes : HasSizes grid
  pub wide : 2 ≤ grid.columns → least_side rules ≤ grid.side_x
  pub high : 2 ≤ grid.rows → least_side rules ≤ grid.side_y
  pub across : grid.columns * grid.side_x ≤ nat_abs rules.width
  pub upwards : grid.rows * grid.side_y ≤ nat_abs rules.height

-- one side of the box, cut into cells
record IsCut (length least : ℕ) : Type 0 where
  pub some : 1 ≤ cells_along length least
  pub most : cells_along length least ≤ MAX_CELLS_ALONG
  pub side : 1 ≤ length / cells_along length least
  pub long : 2 ≤ cells_along length least → least ≤ length / cells_along length least
  pub fits : cells_along length least * (length / cells_along length least) ≤ length

cut : (length least : ℕ) → 1 ≤ length → 1 ≤ least → IsCut length least
cut length least some one =
    let count = cells_along length least in
    let q = le-div_iff_mul-le {k = least} {x = length / least} {y = length} one in
    let whole : (length / least) * least ≤ length = q.0 (omega arith) in
    let counted : 1 ≤ count = omega arith in
    let p = le-div_iff_mul-le {k = count} {x = 1} {y = length} counted in
    let few : count ≤ length = elim (cases_lt (length / least) 1) [
      | inl none ↦ omega arith
      | inr le ↦
          let upto : count ≤ length / least = omega arith in
          let each : (length / least) * 1 ≤ (length / least) * least = mul-le-mul_left (length / least) one in
          omega arith
    ] in
    record {
      some = counted;
      most = omega arith;
      side = p.1 (omega arith);
      long = λ two.
          let upto : count ≤ length / least = omega arith in
          let same : least ≤ least = omega arith in
          let room : count * least ≤ (length / least) * least = mul-le-mul upto same in
          let r = le-div_iff_mul-le {k = count} {x = least} {y = length} counted in
          r.1 (omega arith);
      fits =
          let t = le-div_iff_mul-le {k = count} {x = length / count} {y = length} counted in
          let all : (length / count) * count ≤ length = t.0 (omega arith) in
          omega arith;
    }

pub sound_of : (rules : Rules) (asked : ℕ) → IsChecked rules → 1 ≤ asked → asked ≤ MAX_REGIONS →
    IsSound rules (grid_of rules asked)
sound_of rules asked checked least most =
    let w = checked.width.0 in
    let h = checked.height.0 in
    let d = checked.diameter.0 in
    let v = checked.speed_limit.0 in
    let across = cut (nat_abs rules.width) (least_side rules) (omega (arith, ints)) (omega (arith, ints)) in
    let upwards = cut (nat_abs rules.height) (least_side rules) (omega (arith, ints)) (omega (arith, ints)) in
    let some : 1 ≤ columns_of rules = across.some in
    record {
      sizes = record {
        columns = across.some;
        most_columns = across.most;
        rows = upwards.some;
        most_rows = upwards.most;
        side_x = across.side;
        side_y = upwards.side;
        regions = omega arith;
        most_regions = omega arith;
        fits = omega arith;
      };
      wide = across.long;
      high = upwards.long;
      across = across.fits;
      upwards = upwards.fits;
    }

pub sound : (rules : Rules) (grid : GridData) → IsChecked rules → IsGridOf rules grid → IsSound rules grid
sound rules grid checked of = subst (IsSound rules) (sym of.2) (sound_of rules of.0 checked of.1.0 of.1.1)

pub grids_have_sizes : GridsHaveSizes
grids_have_sizes rules grid checked of = (sound rules grid checked of).sizes

abbrev pub grid_with : ℕ → ℕ → ℕ → ℕ → ℕ → GridData
grid_with columns rows side_x side_y regions =
    record { columns = columns; rows = rows; side_x = side_x; side_y = side_y; regions = regions }

-- the numbers that the code computes are those of the grid of the rules
pub grid_made : (rules : Rules) (asked width height least columns rows regions : ℕ) → width ≡ nat_abs rules.width →
    height ≡ nat_abs rules.height →
    least ≡ least_side rules → columns ≡ cells_along width least → rows ≡ cells_along height least →
    regions ≡ min asked columns →
    grid_with columns rows (width / columns) (height / rows) regions ≡ grid_of rules asked
grid_made rules asked width height least columns rows regions ew eh el ec er en =
    let across : columns ≡ columns_of rules = ec ∙ (λ i. cells_along (ew i) (el i)) in
    let upwards : rows ≡ rows_of rules = er ∙ (λ i. cells_along (eh i) (el i)) in
    (λ i. grid_with columns rows (width / columns) (height / rows) (en i))
    ∙ (λ i. grid_with (across i) (upwards i) (ew i / across i) (eh i / upwards i) (min asked (across i)))

-- ---- numbers of cells
pub column_at : (grid : GridData) (p : Vector) → HasSizes grid →
    column_of grid (cell_at grid p) ≡ along grid.side_x grid.columns p.x
column_at grid p sizes =
    mod-mul-add (along grid.side_y grid.rows p.y) grid.columns (along grid.side_x grid.columns p.x)
    (columns.below_count grid.side_x grid.columns (nat_abs p.x) sizes.columns)

pub row_at : (grid : GridData) (p : Vector) → HasSizes grid →
    row_of grid (cell_at grid p) ≡ along grid.side_y grid.rows p.y
row_at grid p sizes =
    div-mul-add (along grid.side_y grid.rows p.y) grid.columns (along grid.side_x grid.columns p.x)
    (columns.below_count grid.side_x grid.columns (nat_abs p.x) sizes.columns)

pub numbered : (row column rows columns : ℕ) → row < rows → column < columns → row * columns + column < rows * columns
numbered row column rows columns r c =
    let more : row + 1 ≤ rows = omega arith in
    let same : columns ≤ columns = omega arith in
    let room : (row + 1) * columns ≤ rows * columns = mul-le-mul more same in
    omega arith

pub places_have_cells : PlacesHaveCells
places_have_cells grid p sizes =
    let x : along grid.side_x grid.columns p.x < grid.columns =
    columns.below_count grid.side_x grid.columns (nat_abs p.x) sizes.columns in
    let y : along grid.side_y grid.rows p.y < grid.rows =
    columns.below_count grid.side_y grid.rows (nat_abs p.y) sizes.rows in
    numbered (along grid.side_y grid.rows p.y) (along grid.side_x grid.columns p.x) grid.rows grid.columns y x

-- the code's number of a column is one
pub least_below : (m count n : ℕ) → 1 ≤ count → n ≡ min m (count - 1) → n < count
least_below m count n some e = grind arith

-- ---- places in cells that aren't adjacent are far apart
beside_or_far : (m n : ℕ) → IsBeside m n ⊎ ((m + 2 ≤ n) ⊎ (n + 2 ≤ m))
beside_or_far m n = grind arith

-- coordinates in columns that aren't beside each other are further apart than the least side
apart_by_columns : (side count least : ℕ) (m n : ℤ) → 1 ≤ side → 1 ≤ count → (2 ≤ count → least ≤ side) → pos 0 ≤ℤ m →
    pos 0 ≤ℤ n →
    (along side count m + 2 ≤ along side count n) ⊎ (along side count n + 2 ≤ along side count m) → least < nat_abs (m -ℤ n)
apart_by_columns side count least m n some one wide hm hn (inl lt) =
    let below = columns.below_count side count (nat_abs n) one in
    let way = columns.far side count (nat_abs m) (nat_abs n) some one lt in
    let long : least ≤ side = wide (omega arith) in
    omega (arith, ints)
apart_by_columns side count least m n some one wide hm hn (inr lt) =
    let below = columns.below_count side count (nat_abs m) one in
    let way = columns.far side count (nat_abs n) (nat_abs m) some one lt in
    let long : least ≤ side = wide (omega arith) in
    omega (arith, ints)

-- two places in the box are in adjacent cells, or far apart on an axis
adjacent_or_apart : (rules : Rules) (grid : GridData) (p q : Vector) → IsSound rules grid → IsInBox p → IsInBox q →
    IsAdjacent grid (cell_at grid p) (cell_at grid q)
    ⊎ ((least_side rules < nat_abs (difference p q).x) ⊎ (least_side rules < nat_abs (difference p q).y))
adjacent_or_apart rules grid p q sound hp hq =
    let sizes = sound.sizes in
    elim (beside_or_far (along grid.side_x grid.columns p.x) (along grid.side_x grid.columns q.x)) [
      | inr far ↦
          inr (inl (apart_by_columns grid.side_x grid.columns (least_side rules) p.x q.x
          sizes.side_x sizes.columns sound.wide hp.x.0 hq.x.0 far))
      | inl beside ↦ elim (beside_or_far (along grid.side_y grid.rows p.y) (along grid.side_y grid.rows q.y)) [
        | inr far ↦
            inr (inr (apart_by_columns grid.side_y grid.rows (least_side rules) p.y q.y
            sizes.side_y sizes.rows sound.high hp.y.0 hq.y.0 far))
        | inl above ↦ inl (rw (column_at grid p sizes, column_at grid q sizes) beside, rw (row_at grid p sizes, row_at grid q sizes) above)
      ]
    ]

pub far_unless_adjacent : FarUnlessAdjacent
far_unless_adjacent rules grid p q checked of hp hq not = elim (adjacent_or_apart rules grid p q (sound rules grid checked of) hp hq) [
  | inl adjacent ↦ absurd (not adjacent)
  | inr far ↦ far
]

-- ---- so are disks that meet
-- the distance of contact and the way of a tick aren't more than the least side of a cell
within_least_side : (rules : Rules) (distance u v : ℤ) → pos 2 ≤ℤ distance → distance ≤ℤ rules.diameter →
    nat_abs u ≤ nat_abs rules.speed_limit → nat_abs v ≤ nat_abs rules.speed_limit → nat_abs distance + nat_abs (u -ℤ v) ≤ least_side rules
within_least_side rules distance u v some most h k = omega (arith, ints)

pub touch_in_adjacent : TouchInAdjacent
touch_in_adjacent rules grid a b p q checked of va vb hp hq contact =
    let r = difference p q in
    let u = difference (velocity_of a) (velocity_of b) in
    let d = contact_distance a b in
    let some = contact_least rules a b va.size vb.size in
    let most = contact_most rules a b va.size vb.size in
    let x = within_least_side rules d a.vx b.vx some most va.velocity.x vb.velocity.x in
    let y = within_least_side rules d a.vy b.vy some most va.velocity.y vb.velocity.y in
    let first = inside_in_box rules a p checked va.size hp in
    let second = inside_in_box rules b q checked vb.size hq in
    elim (adjacent_or_apart rules grid p q (sound rules grid checked of) first second) [
      | inl adjacent ↦ adjacent
      | inr (inl far) ↦ absurd (far_apart r u d (omega arith) contact)
      | inr (inr far) ↦ absurd (far_above r u d (omega arith) contact)
    ]
