-- The part of a block of cells outside a second block, as four blocks.
use Rattle.std.proofs.Common.{◌≡◌, ◌⊎◌, inl, inr, ℕ, ◌<◌, ◌≤◌, max, min, arith, refl, sym, subst, ◌∙◌}
use Rattle.std.proofs.lemmas.Bool.{cases_lt}
use Rattle.std.specs.Prelude.{Option, Some, None, option_map}
use Rattle.event_stamps.specs.declared.Stamp.{Stamp}
use Rattle.event_stamps.specs.Least.{IsLeastOf, earlier_of}
use Rattle.cell_grid.specs.Grid.{GridData, IsAdjacent, column_of, row_of}
use Rattle.cell_lists.specs.declared.near.Block.{Block}
use Rattle.cell_lists.specs.Listing.{ListsData}
use Rattle.cell_lists.specs.Nearby.{IsBlock, IsWithinBlock, IsListedWithin}
use Rattle.region_view.specs.declared.action.Placed.{Placed}
use Rattle.region_view.specs.Views.{ViewData, rows_in}
use Rattle.region_view.proofs.Naming.{near_pair}
use Rattle.region_queue.specs.declared.finder.Finder.{Finder}
use Rattle.region_queue.specs.declared.parts.Parts.{Parts}
use Rattle.region_queue.specs.Outside.{IsInBlock, IsPart, AreParts, IsListedOutside, IsListedInParts}
use Rattle.region_queue.specs.Finding.{IsReady, IsNativeWith, IsPairedBeyond, IsLowKey, IsLowBeyond, IsBlockBeside, IsListedBeyond, AreListed}
use Rattle.region_queue.proofs.Candidates.{IsAround, with_more, pair_of, pair_beside, listed_at}

-- ---- the parts of a block, cut at the sides of a second one
-- the place of a side, moved to the block's own side if it is beyond that
cut_inside : (k low high n : ℕ) → low ≤ high → n ≡ max low (min k high) → (low ≤ n) × (n ≤ high)
cut_inside k low high n order is = (omega arith, omega arith)

cut_order : (j k low high m n : ℕ) → j ≤ k → m ≡ max low (min j high) → n ≡ max low (min k high) → m ≤ n
cut_order j k low high m n order is is2 = omega arith

below_cut : (k low high n i : ℕ) → n ≡ max low (min k high) → low ≤ i → i < n → i < k
below_cut k low high n i is from below = omega arith

from_cut : (k low high n i : ℕ) → n ≡ max low (min k high) → i < high → n ≤ i → k ≤ i
from_cut k low high n i is below from = omega arith

same : (n : ℕ) → n ≤ n
same n = omega arith

apart : (n k : ℕ) → n < k → k ≤ n → ⊥
apart n k lt le = absurd (omega arith)

abbrev pub parts_at : Block → ℕ → ℕ → ℕ → ℕ → Parts
parts_at block left right low high = record {
  left = record { left = block.left; right = left; low = block.low; high = block.high };
  right = record { left = right; right = block.right; low = block.low; high = block.high };
  low = record { left = left; right = right; low = block.low; high = low };
  high = record { left = left; right = right; low = high; high = block.high };
}

pub parts_cut : (block known : Block) (left right low high : ℕ) → block.left ≤ block.right → block.low ≤ block.high →
    known.left ≤ known.right → known.low ≤ known.high →
    left ≡ max block.left (min known.left block.right) → right ≡ max block.left (min known.right block.right) →
    low ≡ max block.low (min known.low block.high) → high ≡ max block.low (min known.high block.high) →
    AreParts block known (parts_at block left right low high)
parts_cut block known left right low high columns rows known_columns known_rows left_is right_is low_is high_is =
    let at_left = cut_inside known.left block.left block.right left columns left_is in
    let at_right = cut_inside known.right block.left block.right right columns right_is in
    let at_low = cut_inside known.low block.low block.high low rows low_is in
    let at_high = cut_inside known.high block.low block.high high rows high_is in
    let between = cut_order known.left known.right block.left block.right left right known_columns left_is right_is in
    record {
      left = record {
        columns = at_left.0;
        rows = rows;
        left = same block.left;
        right = at_left.1;
        low = same block.low;
        high = same block.high;
        outside = λ column row of is. apart column known.left
            (below_cut known.left block.left block.right left column left_is of.0.0 of.0.1) is.0.0;
      };
      right = record {
        columns = at_right.1;
        rows = rows;
        left = at_right.0;
        right = same block.right;
        low = same block.low;
        high = same block.high;
        outside = λ column row of is. apart column known.right is.0.1
            (from_cut known.right block.left block.right right column right_is of.0.1 of.0.0);
      };
      low = record {
        columns = between;
        rows = at_low.0;
        left = at_left.0;
        right = at_right.1;
        low = same block.low;
        high = at_low.1;
        outside = λ column row of is. apart row known.low
            (below_cut known.low block.low block.high low row low_is of.1.0 of.1.1) is.1.0;
      };
      high = record {
        columns = between;
        rows = at_high.1;
        left = at_left.0;
        right = at_right.1;
        low = at_high.0;
        high = same block.high;
        outside = λ column row of is. apart row known.high is.1.1
            (from_cut known.high block.low block.high high row high_is of.1.1 of.1.0);
      };
      whole = λ column row of out.
          each column row of out (cases_lt column left) (cases_lt column right) (cases_lt row low) (cases_lt row high);
    }
  where
    each : (column row : ℕ) → IsInBlock block column row → ¬ IsInBlock known column row → (column < left) ⊎ (left ≤ column) →
        (column < right) ⊎ (right ≤ column) → (row < low) ⊎ (low ≤ row) → (row < high) ⊎ (high ≤ row) →
        ((IsInBlock (parts_at block left right low high).left column row ⊎ IsInBlock (parts_at block left right low high).right column row)
        ⊎ IsInBlock (parts_at block left right low high).low column row) ⊎ IsInBlock (parts_at block left right low high).high column row
    each column row of out (inl before) side bottom top = inl (inl (inl ((of.0.0, before), of.1)))
    each column row of out (inr from) (inr past) bottom top = inl (inl (inr ((past, of.0.1), of.1)))
    each column row of out (inr from) (inl below) (inl under) top = inl (inr ((from, below), (of.1.0, under)))
    each column row of out (inr from) (inl below) (inr above) (inr over) = inr ((from, below), (over, of.1.1))
    each column row of out (inr from) (inl below) (inr above) (inl under) = absurd (out (
      (
        from_cut known.left block.left block.right left column left_is of.0.1 from,
        below_cut known.right block.left block.right right column right_is of.0.0 below,
      ),
      (
        from_cut known.low block.low block.high low row low_is of.1.1 above,
        below_cut known.high block.low block.high high row high_is of.1.0 under,
      ),
    ))

-- ---- one part
in_block : (block known part : Block) (column row : ℕ) → IsPart block known part → IsInBlock part column row → IsInBlock block column row
in_block block known part column row is x =
    let left = is.left in
    let right = is.right in
    let low = is.low in
    let high = is.high in
    let a = x.0.0 in
    let b = x.0.1 in
    let c = x.1.0 in
    let d = x.1.1 in
    ((omega arith, omega arith), (omega arith, omega arith))

-- the block around a cell
pub block_beside : (grid : GridData) (cell : ℕ) (block : Block) → IsBlock grid block → IsAround grid cell block → IsBlockBeside grid cell block
block_beside grid cell block is around = record { sides = is; adjacent = λ other of within. (around other of).1 within }

pub part_beside : (grid : GridData) (cell : ℕ) (block known part : Block) → IsBlockBeside grid cell block → IsPart block known part →
    IsBlockBeside grid cell part
part_beside grid cell block known part is of =
    let right = of.right in
    let high = of.high in
    let most_columns = is.sides.most_columns in
    let most_rows = is.sides.most_rows in
    record {
      sides = record { columns = of.columns; most_columns = omega arith; rows = of.rows; most_rows = omega arith };
      adjacent = λ other cell x.
          is.adjacent other cell (in_block block known part (column_of grid other) (row_of grid other) of x);
    }

part_outside : (lists : ListsData) (block known part : Block) (i : ℕ) → IsPart block known part → IsListedWithin lists part i →
    IsListedOutside lists block known i
part_outside lists block known part i of x =
    let column = column_of lists.grid x.0 in
    let row = row_of lists.grid x.0 in
    (x.0, x.1, in_block block known part column row of x.2, of.outside column row x.2)

-- ---- all parts
pub whole : (lists : ListsData) (block known : Block) (parts : Parts) (i : ℕ) → AreParts block known parts →
    IsListedOutside lists block known i → IsListedInParts lists parts i
whole lists block known parts i are x = elim (are.whole (column_of lists.grid x.0) (row_of lists.grid x.0) x.2 x.3) [
  | inl (inl (inl left)) ↦ inl (inl (inl (x.0, x.1, left)))
  | inl (inl (inr right)) ↦ inl (inl (inr (x.0, x.1, right)))
  | inl (inr low) ↦ inl (inr (x.0, x.1, low))
  | inr high ↦ inr (x.0, x.1, high)
]

pub parts_outside : (lists : ListsData) (block known : Block) (parts : Parts) (i : ℕ) → AreParts block known parts →
    IsListedInParts lists parts i → IsListedOutside lists block known i
parts_outside lists block known parts i are x = elim x [
  | inl (inl (inl left)) ↦ part_outside lists block known parts.left i are.left left
  | inl (inl (inr right)) ↦ part_outside lists block known parts.right i are.right right
  | inl (inr low) ↦ part_outside lists block known parts.low i are.low low
  | inr high ↦ part_outside lists block known parts.high i are.high high
]

either : (finder : Finder) (view : ViewData) (disk : ℕ) (P Q : ℕ → Type 0) (a b : Option Stamp) → IsLeastOf (IsNativeWith finder view disk P) a →
    IsLeastOf (IsNativeWith finder view disk Q) b → IsLeastOf (IsNativeWith finder view disk (λ i. P i ⊎ Q i)) (earlier_of a b)
either finder view disk P Q a b ha hb =
    with_more finder view disk P Q (λ i. P i ⊎ Q i) a b (λ i x. inl x) (λ i x. inr x) (λ i x. x) ha hb

pub best_of_parts : (finder : Finder) (view : ViewData) (disk : ℕ) (block known : Block) (parts : Parts) (a b c d : Option Stamp) →
    AreParts block known parts → IsLeastOf (IsNativeWith finder view disk (IsListedWithin finder.lists parts.left)) a →
    IsLeastOf (IsNativeWith finder view disk (IsListedWithin finder.lists parts.right)) b →
    IsLeastOf (IsNativeWith finder view disk (IsListedWithin finder.lists parts.low)) c →
    IsLeastOf (IsNativeWith finder view disk (IsListedWithin finder.lists parts.high)) d →
    IsLeastOf (IsNativeWith finder view disk (IsListedOutside finder.lists block known)) (earlier_of (earlier_of (earlier_of a b) c) d)
best_of_parts finder view disk block known parts a b c d are ha hb hc hd =
    with_more finder view disk (λ i. (Left i ⊎ Right i) ⊎ Low i) High (IsListedOutside finder.lists block known) (earlier_of (earlier_of a b) c) d
    (λ i x. parts_outside finder.lists block known parts i are (inl x)) (λ i x. parts_outside finder.lists block known parts i are (inr x))
    (λ i x. whole finder.lists block known parts i are x)
    (either finder view disk (λ i. Left i ⊎ Right i) Low (earlier_of a b) c (either finder view disk Left Right a b ha hb) hc) hd
  where
    Left : ℕ → Type 0
    Left i = IsListedWithin finder.lists parts.left i

    Right : ℕ → Type 0
    Right i = IsListedWithin finder.lists parts.right i

    Low : ℕ → Type 0
    Low i = IsListedWithin finder.lists parts.low i

    High : ℕ → Type 0
    High i = IsListedWithin finder.lists parts.high i

-- ---- beyond the cells adjacent to one
-- a row that has a cell
pub placed_in : (o : Option Placed) (cell : ℕ) → option_map (λ (p : Placed). p.cell) o ≡ Some cell → (q : Placed) × (o ≡ Some q) × (q.cell ≡ cell)
placed_in None cell e = absurd (let no = e in cc)
placed_in (Some q) cell e = (q, refl, (let same : Some q.cell ≡ Some cell = e in cc))

-- of the blocks around two cells, the part of the first one outside the second one has the disks that are listed beyond
pub listed_outside : (finder : Finder) (cell old : ℕ) (block known : Block) (i : ℕ) → finder.lists.grid ≡ finder.grid →
    IsAround finder.grid cell block → IsAround finder.grid old known → IsListedBeyond finder cell old i →
    IsListedOutside finder.lists block known i
listed_outside finder cell old block known i grid_is around around_old h =
    let is = around h.0 h.2 in
    let was = around_old h.0 h.2 in
    let out = subst (λ (g : GridData). IsWithinBlock g block h.0 × ¬ IsWithinBlock g known h.0) (sym grid_is)
    (is.0 h.3, λ within. h.4 (was.1 within)) in
    (h.0, h.1, out.0, out.1)

-- a key that isn't after the pairs with all that are listed beyond isn't after the pairs with those that the view has
-- there
pub low_beyond : (finder : Finder) (view : ViewData) (disk old : ℕ) (p : Placed) (With : ℕ → Type 0) (o : Option Stamp) →
    IsReady finder view → rows_in view disk ≡ Some p → AreListed view finder.lists.cells →
    ((i : ℕ) → IsListedBeyond finder p.cell old i → With i) → IsLowKey (IsNativeWith finder view disk With) disk o →
    IsLowBeyond finder view disk old o
low_beyond finder view disk old p With o ready row listed has h = record { low = λ s x. h.low s (from s x); pair = h.pair }
  where
    from : (s : Stamp) → IsPairedBeyond finder view disk old s → IsNativeWith finder view disk With s
    from s x =
        let other = x.2.0 in
        let far = x.2.1 in
        let pair = x.2.2 in
        let beside = pair_beside finder.rules finder.grid view disk other p s row
        (near_pair finder.rules finder.grid finder.region view s x.0 x.1) pair in
        let q = beside.0 in
        let at = listed_at view finder.lists other q listed beside.1 in
        let same : far.0 ≡ q.cell = (let e : Some far.0 ≡ Some q.cell = sym far.1 ∙ sym (listed other) ∙ at in cc) in
        let out = subst (λ (n : ℕ). ¬ IsAdjacent finder.grid old n) same far.2 in
        (other, has other (q.cell, at, ready.valid.cell other q beside.1, beside.2, out), pair_of finder view disk other s x.0 x.1 pair)
