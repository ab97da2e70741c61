-- The pairs of a disk with those in cells beside its own.
use Rattle.std.proofs.Common.{◌≡◌, ◌⊎◌, ◌↔◌, inl, inr, ℕ, ◌+◌, ◌*◌, ◌<◌, ◌≤◌, Bool, arith, sym, subst, ◌∙◌}
use Rattle.std.specs.Prelude.{Option, Some, None, IsTrue, MatchOption}
use Rattle.std.proofs.Math.Nat.{mul-le-mul_right}
use Rattle.std.proofs.lemmas.Nat.{div-mul-add, mod-mul-add}
use Rattle.fixed_motion.specs.declared.rules.Rules.{Rules}
use Rattle.event_stamps.specs.declared.Stamp.{Stamp}
use Rattle.event_stamps.specs.Least.{IsLeastOf, HasNone, IsOnly}
use Rattle.event_rules.specs.Events.{IsPairEvent, NeverHit}
use Rattle.cell_grid.specs.Grid.{GridData, IsCell, IsAdjacent, Owns, column_of, row_of}
use Rattle.cell_lists.specs.declared.near.Block.{Block}
use Rattle.cell_lists.specs.Listing.{IsListed}
use Rattle.cell_lists.specs.Nearby.{IsWithinBlock}
use Rattle.region_view.specs.declared.action.Placed.{Placed}
use Rattle.region_view.specs.Events.{IsNear}
use Rattle.region_view.specs.Views.{ViewData, rows_in}
use Rattle.region_view.proofs.Naming.{same_row, near_pair}
use Rattle.region_queue.specs.declared.finder.Finder.{Finder}
use Rattle.region_queue.specs.Finding.{IsNativeOf, IsNativePair, IsNearby, IsBlockBeside, AreListed}
use Rattle.region_queue.proofs.Candidates.{native_is, native_order, pair_low, pair_high, adjacent_back, listed_at}

-- ---- cells
-- a cell of the block, by its row and column
pub cell_within : (grid : GridData) (block : Block) (at row column : ℕ) → IsBlockBeside grid at block → block.low ≤ row →
    row < block.high → block.left ≤ column → column < block.right →
    IsCell grid (row * grid.columns + column) × IsAdjacent grid at (row * grid.columns + column)
cell_within grid block at row column is low high left right = (cell, is.adjacent (row * grid.columns + column) cell within)
  where
    inside : column < grid.columns
    inside = let most = is.sides.most_columns in omega arith

    cell : IsCell grid (row * grid.columns + column)
    cell =
        let most : block.high ≤ grid.rows = is.sides.most_rows in
        let next : row + 1 ≤ grid.rows = omega arith in
        let rows : (row + 1) * grid.columns ≤ grid.rows * grid.columns = mul-le-mul_right grid.columns next in
        let within = inside in
        grind arith

    in_column : column_of grid (row * grid.columns + column) ≡ column
    in_column = mod-mul-add row grid.columns column inside

    in_row : row_of grid (row * grid.columns + column) ≡ row
    in_row = div-mul-add row grid.columns column inside

    within : IsWithinBlock grid block (row * grid.columns + column)
    within = rw (in_column, in_row) ((left, right), (low, high))

-- a disk that is listed in a cell is in it
pub nearby_in_cell : (finder : Finder) (view : ViewData) (at cell other : ℕ) (whole : Bool) → AreListed view finder.lists.cells →
    IsListed finder.lists cell other → IsAdjacent finder.grid at cell → (IsTrue whole ↔ Owns finder.grid finder.region cell) →
    IsNearby finder view at whole other
nearby_in_cell finder view at cell other whole listed here beside owned q row =
    subst (λ (n : ℕ). IsAdjacent finder.grid at n × (IsTrue whole → Owns finder.grid finder.region n)) same (beside, owned.0)
  where
    same : cell ≡ q.cell
    same = let e : Some cell ≡ Some q.cell = sym here ∙ listed_at view finder.lists other q listed row in cc

-- what is known of the other disk while the block around a cell is walked: it is in an adjacent cell, and whether the
-- region owns that cell
abbrev pub IsPlacedBeside : Finder → ViewData → ℕ → ℕ → Bool → Type 0
IsPlacedBeside finder view cell other home = (q : Placed) → rows_in view other ≡ Some q →
    IsAdjacent finder.grid cell q.cell × (IsTrue home ↔ Owns finder.grid finder.region q.cell)

-- whether the region owns the cell is known if it owns all, and else it was asked for
pub placed_beside : (finder : Finder) (view : ViewData) (at other : ℕ) (q : Placed) (whole home : Bool) → rows_in view other ≡ Some q →
    (IsTrue whole × IsTrue home) ⊎ (IsTrue home ↔ Owns finder.grid finder.region q.cell) → IsNearby finder view at whole other →
    IsPlacedBeside finder view at other home
placed_beside finder view at other q whole home row known near p there =
    subst (λ (x : Placed). IsAdjacent finder.grid at x.cell × (IsTrue home ↔ Owns finder.grid finder.region x.cell)) same
    ((near q row).0, elim known [ inl all ↦ (λ _. (near q row).1 all.0, λ _. all.1) | inr asked ↦ asked ])
  where
    same : q ≡ p
    same = let e : Some q ≡ Some p = sym row ∙ there in cc

-- ---- pairs
-- disks in adjacent cells
near_only : (rules : Rules) (grid : GridData) (i j : ℕ) (p q : Placed) (o : Option Stamp) → IsAdjacent grid p.cell q.cell →
    MatchOption o ((s : Stamp) → IsPairEvent rules i p.disk j q.disk s → ⊥) (IsOnly (IsPairEvent rules i p.disk j q.disk)) →
    MatchOption o (HasNone (IsNear rules grid i p j q)) (IsOnly (IsNear rules grid i p j q))
near_only rules grid i j p q None beside h = λ s n. h s n.1
near_only rules grid i j p q (Some s) beside h = ((beside, h.0), λ t n. h.1 t n.1)

-- if the disk is the lower one
pub pair_as_lower : (finder : Finder) (view : ViewData) (disk other : ℕ) (p q : Placed) (home : Bool) (o : Option Stamp) → disk < other →
    rows_in view disk ≡ Some p → rows_in view other ≡ Some q → Owns finder.grid finder.region p.cell →
    IsPlacedBeside finder view p.cell other home →
    MatchOption o ((s : Stamp) → IsPairEvent finder.rules disk p.disk other q.disk s → ⊥)
    (IsOnly (IsPairEvent finder.rules disk p.disk other q.disk)) → IsLeastOf (IsNativePair finder view disk other) o
pair_as_lower finder view disk other p q home o lt here there owns beside h =
    pair_low finder view disk other o lt (native_is finder view disk other p q o lt here there owns
    (near_only finder.rules finder.grid disk other p q o (beside q there).0 h))

-- if the other disk is
pub pair_as_higher : (finder : Finder) (view : ViewData) (disk other : ℕ) (p q : Placed) (home : Bool) (o : Option Stamp) → other < disk →
    rows_in view disk ≡ Some p → rows_in view other ≡ Some q → IsTrue home →
    IsPlacedBeside finder view p.cell other home →
    MatchOption o ((s : Stamp) → IsPairEvent finder.rules other q.disk disk p.disk s → ⊥)
    (IsOnly (IsPairEvent finder.rules other q.disk disk p.disk)) → IsLeastOf (IsNativePair finder view disk other) o
pair_as_higher finder view disk other p q home o lt here there is_home beside h =
    pair_high finder view disk other o lt (native_is finder view other disk q p o lt there here ((beside q there).1.0 is_home)
    (near_only finder.rules finder.grid other disk q p o (adjacent_back finder.grid p.cell q.cell (beside q there).0) h))

-- if the region doesn't own the cell of the lower one
owned_first : (finder : Finder) (view : ViewData) (low high : ℕ) (p : Placed) (s : Stamp) → rows_in view low ≡ Some p →
    IsNativeOf finder view low high s → Owns finder.grid finder.region p.cell
owned_first finder view low high p s at n =
    subst (λ (q : Placed). Owns finder.grid finder.region q.cell) (same_row view s.first low n.0.1.0 p n.0.1.1 at n.1.1.0) n.0.1.2

pub pair_unowned : (finder : Finder) (view : ViewData) (disk other : ℕ) (p q : Placed) (own home : Bool) → rows_in view disk ≡ Some p →
    rows_in view other ≡ Some q → (IsTrue own ↔ Owns finder.grid finder.region p.cell) → IsPlacedBeside finder view p.cell other home →
    ¬ (((disk < other) × IsTrue own) ⊎ ((other < disk) × IsTrue home)) → HasNone (IsNativePair finder view disk other)
pair_unowned finder view disk other p q own home here there owns beside neither s (inl low) =
    neither (inl (native_order finder view disk other s low, owns.1 (owned_first finder view disk other p s here low)))
pair_unowned finder view disk other p q own home here there owns beside neither s (inr high) =
    neither (inr (native_order finder view other disk s high, (beside q there).1.1 (owned_first finder view other disk q s there high)))

-- disks that never hit each other, in either order
native_never : (finder : Finder) (view : ViewData) (low high : ℕ) (p q : Placed) → rows_in view low ≡ Some p → rows_in view high ≡ Some q →
    NeverHit finder.rules p.disk q.disk → HasNone (IsNativeOf finder view low high)
native_never finder view low high p q at_low at_high never s n =
    let near = near_pair finder.rules finder.grid finder.region view s n.0 n.1.0 in
    let a = same_row view s.first low near.1.0 p near.1.1 at_low n.1.1.0 in
    let b = same_row view s.second high near.1.2.0 q near.1.2.1 at_high n.1.1.1 in
    never s.first s.second s (subst (λ (x : Placed). IsPairEvent finder.rules s.first p.disk s.second x.disk s) b
    (subst (λ (x : Placed). IsPairEvent finder.rules s.first x.disk s.second near.1.2.0.disk s) a near.1.2.3))

pub pair_never : (finder : Finder) (view : ViewData) (disk other : ℕ) (p q : Placed) → rows_in view disk ≡ Some p → rows_in view other ≡ Some q →
    NeverHit finder.rules p.disk q.disk → NeverHit finder.rules q.disk p.disk → HasNone (IsNativePair finder view disk other)
pair_never finder view disk other p q here there never turned s (inl low) = native_never finder view disk other p q here there never s low
pair_never finder view disk other p q here there never turned s (inr high) = native_never finder view other disk q p there here turned s high
