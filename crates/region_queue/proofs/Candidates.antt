-- The native candidates that name a disk: by itself, and with those near it.
use Rattle.std.proofs.Common.{◌≡◌, ◌⊎◌, ◌↔◌, inl, inr, ℕ, ◌+◌, ◌*◌, ◌<◌, ◌≤◌, arith, refl, sym, subst, ap, ◌∙◌}
use Rattle.std.specs.Prelude.{Option, Some, None, MatchOption, option_map}
use Rattle.std.proofs.lemmas.Bool.{cases_lt}
use Rattle.fixed_motion.specs.declared.rules.Rules.{Rules}
use Rattle.event_stamps.specs.declared.Stamp.{Stamp}
use Rattle.event_stamps.specs.declared.Kind.{Kind}
use Rattle.event_stamps.specs.declared.Kind.TheVariants.{Cross, Wall, Pair}
use Rattle.event_stamps.specs.Least.{IsLeastOf, HasNone, IsOnly, earlier_of}
use Rattle.event_stamps.proofs.Least.{only_least, least_of_either, least_same}
use Rattle.event_rules.specs.Events.{IsWallEvent, IsPairEvent}
use Rattle.cell_grid.specs.Grid.{GridData, IsCell, IsAdjacent, Owns}
use Rattle.cell_grid.specs.Crossing.{IsCrossEvent}
use Rattle.cell_lists.specs.declared.near.Block.{Block}
use Rattle.cell_lists.specs.Listing.{ListsData, IsListed, IsFirstIn}
use Rattle.cell_lists.specs.Nearby.{IsWithinBlock, IsListedWithin, columns_to}
use Rattle.cell_lists.proofs.Blocks.{rows_to, split_column, wider_column, in_last_column, split_row, join_row}
use Rattle.region_view.specs.declared.action.Placed.{Placed}
use Rattle.region_view.specs.Events.{IsAlone, IsNear}
use Rattle.region_view.specs.Placing.{IsCellCandidate, IsNearPair}
use Rattle.region_view.specs.Views.{ViewData, rows_in}
use Rattle.region_queue.specs.declared.finder.Finder.{Finder}
use Rattle.region_view.specs.Naming.{Names, IsPairOf}
use Rattle.region_view.proofs.Naming.{same_row, near_pair, pair_kind, by_itself}
use Rattle.region_queue.specs.Finding.{IsReady, IsFound, IsAloneAt, IsPairPlaced, IsNativeOf, IsNativePair, IsNativeWith, IsSingle, IsPaired, IsBest, IsBestSingle, IsBestPair, AreListed}

-- ---- a disk by itself
pub alone_found : (finder : Finder) (view : ViewData) (disk : ℕ) (p : Placed) (s : Stamp) → rows_in view disk ≡ Some p →
    IsAloneAt finder disk p s → IsSingle finder view disk s
alone_found finder view disk p s row h = from h.0
  where
    at : s.first ≡ disk → rows_in view s.first ≡ Some p
    at e = ap (rows_in view) e ∙ row

    from : IsAlone finder.rules finder.grid disk p s → IsSingle finder view disk s
    from (inl cross) =
        let e : s.first ≡ disk = ap (λ (v : Stamp). v.first) cross.2 in
        let kind : s.kind ≡ Cross = ap (λ (v : Stamp). v.kind) cross.2 in (
          (inl (p, at e, subst (λ (n : ℕ). IsCrossEvent finder.rules finder.grid n p.disk p.cell s) (sym e) cross), (p, at e, h.1)),
          e,
          λ pair. let no : Cross ≡ Pair = sym kind ∙ pair in cc,
        )
    from (inr wall) =
        let e : s.first ≡ disk = ap (λ (v : Stamp). v.first) wall.2 in
        let kind : s.kind ≡ Wall = ap (λ (v : Stamp). v.kind) wall.2 in (
          (inr (inl (p, at e, subst (λ (n : ℕ). IsWallEvent finder.rules n p.disk s.second s) (sym e) wall)), (p, at e, h.1)),
          e,
          λ pair. let no : Wall ≡ Pair = sym kind ∙ pair in cc,
        )

pub alone_or_pair : (finder : Finder) (view : ViewData) (disk : ℕ) (p : Placed) (s : Stamp) → rows_in view disk ≡ Some p →
    IsFound finder view s → Names s disk → IsAloneAt finder disk p s ⊎ IsNearPair finder.rules finder.grid (rows_in view) s
alone_or_pair finder view disk p s row found names = from found.0
  where
    owned : s.first ≡ disk → Owns finder.grid finder.region p.cell
    owned e = subst (λ (q : Placed). Owns finder.grid finder.region q.cell) (same_row view s.first disk found.1.0 p found.1.1 row e) found.1.2

    from : IsCellCandidate finder.rules finder.grid (rows_in view) s →
        IsAloneAt finder disk p s ⊎ IsNearPair finder.rules finder.grid (rows_in view) s
    from (inl cross) =
        let kind : s.kind ≡ Cross = ap (λ (v : Stamp). v.kind) cross.2.2 in
        let e = by_itself s disk (λ pair. let no : Cross ≡ Pair = sym kind ∙ pair in cc) names in
        let same = same_row view s.first disk cross.0 p cross.1 row e in
        inl (
          inl (subst (λ (q : Placed). IsCrossEvent finder.rules finder.grid disk q.disk q.cell s) same
              (subst (λ (n : ℕ). IsCrossEvent finder.rules finder.grid n cross.0.disk cross.0.cell s) e cross.2)),
          owned e,
        )
    from (inr (inl wall)) =
        let kind : s.kind ≡ Wall = ap (λ (v : Stamp). v.kind) wall.2.2 in
        let e = by_itself s disk (λ pair. let no : Wall ≡ Pair = sym kind ∙ pair in cc) names in
        let same = same_row view s.first disk wall.0 p wall.1 row e in
        inl (
          inr (subst (λ (q : Placed). IsWallEvent finder.rules disk q.disk s.second s) same
              (subst (λ (n : ℕ). IsWallEvent finder.rules n wall.0.disk s.second s) e wall.2)),
          owned e,
        )
    from (inr (inr near)) = inr near

pub alone_owned : (finder : Finder) (disk : ℕ) (p : Placed) (o : Option Stamp) → Owns finder.grid finder.region p.cell →
    IsLeastOf (IsAlone finder.rules finder.grid disk p) o → IsLeastOf (IsAloneAt finder disk p) o
alone_owned finder disk p o owns h =
    least_same (IsAlone finder.rules finder.grid disk p) (IsAloneAt finder disk p) o (λ t x. (x, owns)) (λ t x. x.0) h

-- ---- two disks
pub native_order : (finder : Finder) (view : ViewData) (i j : ℕ) (s : Stamp) → IsNativeOf finder view i j s → i < j
native_order finder view i j s h =
    let order : s.first < s.second = (near_pair finder.rules finder.grid finder.region view s h.0 h.1.0).0 in
    let first : s.first ≡ i = h.1.1.0 in
    let second : s.second ≡ j = h.1.1.1 in
    omega arith

pub native_only : (finder : Finder) (view : ViewData) (low high : ℕ) (p q : Placed) (o : Option Stamp) → low < high →
    rows_in view low ≡ Some p → rows_in view high ≡ Some q → Owns finder.grid finder.region p.cell →
    MatchOption o (HasNone (IsNear finder.rules finder.grid low p high q)) (IsOnly (IsNear finder.rules finder.grid low p high q)) →
    MatchOption o (HasNone (IsNativeOf finder view low high)) (IsOnly (IsNativeOf finder view low high))
native_only finder view low high p q o lt at_low at_high owns h = same o h
  where
    to : (s : Stamp) → IsNear finder.rules finder.grid low p high q s → IsNativeOf finder view low high s
    to s n =
        let kind : s.kind ≡ Pair = ap (λ (v : Stamp). v.kind) n.1.2 in
        let first : s.first ≡ low = ap (λ (v : Stamp). v.first) n.1.2 in
        let second : s.second ≡ high = ap (λ (v : Stamp). v.second) n.1.2 in
        let here = ap (rows_in view) first ∙ at_low in
        let there = ap (rows_in view) second ∙ at_high in
        let order : s.first < s.second = omega arith in
        let event = subst (λ (m : ℕ). IsPairEvent finder.rules s.first p.disk m q.disk s) (sym second)
        (subst (λ (m : ℕ). IsPairEvent finder.rules m p.disk high q.disk s) (sym first) n.1) in
        ((inr (inr (order, (p, here, (q, there, n.0, event)))), (p, here, owns)), (kind, (first, second)))

    from : (s : Stamp) → IsNativeOf finder view low high s → IsNear finder.rules finder.grid low p high q s
    from s n =
        let near = near_pair finder.rules finder.grid finder.region view s n.0 n.1.0 in
        let first : s.first ≡ low = n.1.1.0 in
        let second : s.second ≡ high = n.1.1.1 in
        let a = same_row view s.first low near.1.0 p near.1.1 at_low first in
        let b = same_row view s.second high near.1.2.0 q near.1.2.1 at_high second in
        subst (λ (x : Placed). IsNear finder.rules finder.grid low p high x s) b
        (subst (λ (x : Placed). IsNear finder.rules finder.grid low x high near.1.2.0 s) a (
          near.1.2.2,
          subst (λ (m : ℕ). IsPairEvent finder.rules low near.1.0.disk m near.1.2.0.disk s) second
              (subst (λ (m : ℕ). IsPairEvent finder.rules m near.1.0.disk s.second near.1.2.0.disk s) first near.1.2.3),
        ))

    same : (o : Option Stamp) →
        MatchOption o (HasNone (IsNear finder.rules finder.grid low p high q)) (IsOnly (IsNear finder.rules finder.grid low p high q)) →
        MatchOption o (HasNone (IsNativeOf finder view low high)) (IsOnly (IsNativeOf finder view low high))
    same None none = λ s n. none s (from s n)
    same (Some t) only = (to t only.0, λ s n. only.1 s (from s n))

pub native_is : (finder : Finder) (view : ViewData) (low high : ℕ) (p q : Placed) (o : Option Stamp) → low < high →
    rows_in view low ≡ Some p → rows_in view high ≡ Some q → Owns finder.grid finder.region p.cell →
    MatchOption o (HasNone (IsNear finder.rules finder.grid low p high q)) (IsOnly (IsNear finder.rules finder.grid low p high q)) →
    IsLeastOf (IsNativeOf finder view low high) o
native_is finder view low high p q o lt at_low at_high owns h =
    only_least (IsNativeOf finder view low high) o (native_only finder view low high p q o lt at_low at_high owns h)

-- if both disks of a stamp of a pair have rows, and it is that of their event, it is that of a native candidate
pub event_found : (finder : Finder) (view : ViewData) (s : Stamp) (p q : Placed) → s.kind ≡ Pair → rows_in view s.first ≡ Some p →
    rows_in view s.second ≡ Some q → (IsPairPlaced finder s p q ↔ IsFound finder view s)
event_found finder view s p q pair at_first at_second = (
  λ h. (inr (inr (h.0, (p, at_first, (q, at_second, h.2.0, h.2.1)))), (p, at_first, h.1)),
  λ found.
      let near = near_pair finder.rules finder.grid finder.region view s found pair in
      let first = same_row view s.first s.first near.1.0 p near.1.1 at_first refl in
      let second = same_row view s.second s.second near.1.2.0 q near.1.2.1 at_second refl in
      let home = same_row view s.first s.first found.1.0 p found.1.1 at_first refl in (
        near.0,
        subst (λ (x : Placed). Owns finder.grid finder.region x.cell) home found.1.2,
        subst (λ (x : Placed). IsNear finder.rules finder.grid s.first p s.second x s) second
            (subst (λ (x : Placed). IsNear finder.rules finder.grid s.first x s.second near.1.2.0 s) first (near.1.2.2, near.1.2.3)),
      ),
)

pub none_without_first : (finder : Finder) (view : ViewData) (s : Stamp) → rows_in view s.first ≡ None → ¬ IsFound finder view s
none_without_first finder view s none found = let no : None ≡ Some found.1.0 = sym none ∙ found.1.1 in cc

pub none_without_second : (finder : Finder) (view : ViewData) (s : Stamp) → s.kind ≡ Pair → rows_in view s.second ≡ None →
    ¬ IsFound finder view s
none_without_second finder view s pair none found =
    let near = near_pair finder.rules finder.grid finder.region view s found pair in
    let no : None ≡ Some near.1.2.0 = sym none ∙ near.1.2.1 in cc

-- no pair of a disk with one that isn't there
pub pair_without : (finder : Finder) (view : ViewData) (disk other : ℕ) → rows_in view other ≡ None → HasNone (IsNativePair finder view disk other)
pair_without finder view disk other none s (inl low) =
    none_without_second finder view s low.1.0 (ap (rows_in view) low.1.1.1 ∙ none) low.0
pair_without finder view disk other none s (inr high) =
    none_without_first finder view s (ap (rows_in view) high.1.1.0 ∙ none) high.0

-- nor of one that isn't there itself
pub pair_without_itself : (finder : Finder) (view : ViewData) (disk other : ℕ) → rows_in view disk ≡ None →
    HasNone (IsNativePair finder view disk other)
pair_without_itself finder view disk other none s x =
    pair_without finder view other disk none s (elim x [ inl low ↦ inr low | inr high ↦ inl high ])

pub pair_low : (finder : Finder) (view : ViewData) (i j : ℕ) (o : Option Stamp) → i < j → IsLeastOf (IsNativeOf finder view i j) o →
    IsLeastOf (IsNativePair finder view i j) o
pair_low finder view i j o lt h = least_same (IsNativeOf finder view i j) (IsNativePair finder view i j) o (λ t x. inl x)
    (λ t x. elim x [ inl y ↦ y | inr y ↦ (let back = native_order finder view j i t y in absurd (omega arith)) ]) h

pub pair_high : (finder : Finder) (view : ViewData) (i j : ℕ) (o : Option Stamp) → j < i → IsLeastOf (IsNativeOf finder view j i) o →
    IsLeastOf (IsNativePair finder view i j) o
pair_high finder view i j o lt h = least_same (IsNativeOf finder view j i) (IsNativePair finder view i j) o (λ t x. inr x)
    (λ t x. elim x [ inl y ↦ (let back = native_order finder view i j t y in absurd (omega arith)) | inr y ↦ y ]) h

pub pair_found : (finder : Finder) (view : ViewData) (i j : ℕ) (s : Stamp) → IsNativePair finder view i j s →
    IsFound finder view s × (s.kind ≡ Pair) × IsPairOf s i j
pair_found finder view i j s (inl h) = (h.0, h.1.0, inl h.1.1)
pair_found finder view i j s (inr h) = (h.0, h.1.0, inr h.1.1)

pub pair_of : (finder : Finder) (view : ViewData) (i j : ℕ) (s : Stamp) → IsFound finder view s → s.kind ≡ Pair → IsPairOf s i j →
    IsNativePair finder view i j s
pair_of finder view i j s found kind (inl e) = inl (found, (kind, e))
pair_of finder view i j s found kind (inr e) = inr (found, (kind, e))

-- a pair that names a disk has another one
pub other_of : (s : Stamp) (disk : ℕ) → Names s disk → (other : ℕ) × IsPairOf s disk other
other_of s disk (inl first) = (s.second, inl (first, refl))
other_of s disk (inr second) = (s.first, inr (refl, second.1))

pub names_pair : (s : Stamp) (i j : ℕ) → s.kind ≡ Pair → IsPairOf s i j → Names s i
names_pair s i j kind (inl e) = inl e.0
names_pair s i j kind (inr e) = inr (kind, e.1)

turned : (s : Stamp) (i j : ℕ) → IsPairOf s i j → IsPairOf s j i
turned s i j (inl e) = inr e
turned s i j (inr e) = inl e

-- ---- a disk that isn't there
pub no_single : (finder : Finder) (view : ViewData) (disk : ℕ) → rows_in view disk ≡ None → IsBestSingle finder view disk None
no_single finder view disk none s h = none_without_first finder view s (ap (rows_in view) h.1 ∙ none) h.0

no_pair : (finder : Finder) (view : ViewData) (disk other : ℕ) (s : Stamp) → rows_in view disk ≡ None → IsFound finder view s →
    s.kind ≡ Pair → ¬ IsPairOf s disk other
no_pair finder view disk other s none found kind is =
    pair_without finder view other disk none s (pair_of finder view other disk s found kind (turned s disk other is))

pub no_pairs : (finder : Finder) (view : ViewData) (disk : ℕ) → rows_in view disk ≡ None → IsBestPair finder view disk None
no_pairs finder view disk none s h = let with = other_of s disk h.2 in no_pair finder view disk with.0 s none h.0 h.1 with.1

-- ---- walks
pub with_none : (finder : Finder) (view : ViewData) (disk : ℕ) (With : ℕ → Type 0) → ((i : ℕ) → ¬ With i) →
    IsLeastOf (IsNativeWith finder view disk With) None
with_none finder view disk With none = λ s h. none h.0 h.1

pub with_same : (finder : Finder) (view : ViewData) (disk : ℕ) (P Q : ℕ → Type 0) (o : Option Stamp) → ((i : ℕ) → P i → Q i) →
    ((i : ℕ) → Q i → P i) → IsLeastOf (IsNativeWith finder view disk P) o → IsLeastOf (IsNativeWith finder view disk Q) o
with_same finder view disk P Q o to from h =
    least_same (IsNativeWith finder view disk P) (IsNativeWith finder view disk Q) o (λ s x. (x.0, to x.0 x.1, x.2)) (λ s x. (x.0, from x.0 x.1, x.2)) h

pub with_more : (finder : Finder) (view : ViewData) (disk : ℕ) (P Q R : ℕ → Type 0) (a b : Option Stamp) → ((i : ℕ) → P i → R i) →
    ((i : ℕ) → Q i → R i) → ((i : ℕ) → R i → P i ⊎ Q i) → IsLeastOf (IsNativeWith finder view disk P) a →
    IsLeastOf (IsNativeWith finder view disk Q) b → IsLeastOf (IsNativeWith finder view disk R) (earlier_of a b)
with_more finder view disk P Q R a b p q split ha hb =
    least_of_either (IsNativeWith finder view disk P) (IsNativeWith finder view disk Q) (IsNativeWith finder view disk R) a b
    (λ s x. (x.0, p x.0 x.1, x.2)) (λ s x. (x.0, q x.0 x.1, x.2))
    (λ s x. elim (split x.0 x.1) [ inl y ↦ inl (x.0, y, x.2) | inr y ↦ inr (x.0, y, x.2) ]) ha hb

-- the disks of a cell below a number
abbrev pub ListedBelow : ListsData → ℕ → ℕ → ℕ → Type 0
ListedBelow lists cell from i = IsListed lists cell i × (i < from)

pub walk_begins : (finder : Finder) (view : ViewData) (disk cell : ℕ) → IsLeastOf (IsNativeWith finder view disk (ListedBelow finder.lists cell 0)) None
walk_begins finder view disk cell = with_none finder view disk (ListedBelow finder.lists cell 0) (λ i h. let lt = h.1 in absurd (omega arith))

-- up to the first disk from a number on, a disk is below the number or that one
pub below_or_last : (lists : ListsData) (cell from other i : ℕ) → IsFirstIn lists cell from (Some other) → ListedBelow lists cell (other + 1) i →
    ListedBelow lists cell from i ⊎ (i ≡ other)
below_or_last lists cell from other i first h = elim (cases_lt i from) [
  | inl below ↦ inl (h.0, below)
  | inr past ↦ inr (last i h.1 (λ lt. first.2 i past lt h.0))
]
  where
    last : (i : ℕ) → i < other + 1 → ¬ (i < other) → i ≡ other
    last i lt not = grind arith

pub walk_more : (finder : Finder) (view : ViewData) (disk cell from other : ℕ) (a b : Option Stamp) →
    IsFirstIn finder.lists cell from (Some other) → IsLeastOf (IsNativeWith finder view disk (ListedBelow finder.lists cell from)) a →
    IsLeastOf (IsNativePair finder view disk other) b →
    IsLeastOf (IsNativeWith finder view disk (ListedBelow finder.lists cell (other + 1))) (earlier_of a b)
walk_more finder view disk cell from other a b first ha hb =
    with_more finder view disk (ListedBelow finder.lists cell from) (λ i. (i ≡ other) × IsListed finder.lists cell i)
    (ListedBelow finder.lists cell (other + 1)) a b
    (λ i h. let lt = h.1 in let low : from ≤ other = first.0 in (h.0, omega arith))
    (λ i h. let e : i ≡ other = h.0 in (h.1, omega arith))
    (λ i h. elim (below_or_last finder.lists cell from other i first h) [ inl below ↦ inl below | inr same ↦ inr (same, h.0) ])
    ha
    (least_same (IsNativePair finder view disk other) (IsNativeWith finder view disk (λ i. (i ≡ other) × IsListed finder.lists cell i)) b
    (λ s x. (other, (refl, first.1), x))
    (λ s x. subst (λ (i : ℕ). IsNativePair finder view disk i s) x.1.0 x.2) hb)

pub walk_ends : (finder : Finder) (view : ViewData) (disk cell from : ℕ) (a : Option Stamp) → IsFirstIn finder.lists cell from None →
    IsLeastOf (IsNativeWith finder view disk (ListedBelow finder.lists cell from)) a →
    IsLeastOf (IsNativeWith finder view disk (IsListed finder.lists cell)) a
walk_ends finder view disk cell from a none h =
    with_same finder view disk (ListedBelow finder.lists cell from) (IsListed finder.lists cell) a (λ i x. x.0)
    (λ i x. elim (cases_lt i from) [ inl lt ↦ (x, lt) | inr past ↦ absurd (none i past x) ]) h

-- ---- blocks
pub column_more : (finder : Finder) (view : ViewData) (disk : ℕ) (block : Block) (row column : ℕ) (a b : Option Stamp) →
    block.left ≤ column → column < finder.lists.grid.columns →
    IsLeastOf (IsNativeWith finder view disk (IsListedWithin finder.lists (columns_to block row column))) a →
    IsLeastOf (IsNativeWith finder view disk (IsListed finder.lists (row * finder.lists.grid.columns + column))) b →
    IsLeastOf (IsNativeWith finder view disk (IsListedWithin finder.lists (columns_to block row (column + 1)))) (earlier_of a b)
column_more finder view disk block row column a b left inside ha hb =
    with_more finder view disk (IsListedWithin finder.lists (columns_to block row column))
    (IsListed finder.lists (row * finder.lists.grid.columns + column)) (IsListedWithin finder.lists (columns_to block row (column + 1))) a b
    (wider_column finder.lists block row column) (λ i x. in_last_column finder.lists block row column i left inside x)
    (split_column finder.lists block row column) ha hb

pub row_more : (finder : Finder) (view : ViewData) (disk : ℕ) (block : Block) (row : ℕ) (a b : Option Stamp) → block.low ≤ row →
    IsLeastOf (IsNativeWith finder view disk (IsListedWithin finder.lists (rows_to block row))) a →
    IsLeastOf (IsNativeWith finder view disk (IsListedWithin finder.lists (columns_to block row block.right))) b →
    IsLeastOf (IsNativeWith finder view disk (IsListedWithin finder.lists (rows_to block (row + 1)))) (earlier_of a b)
row_more finder view disk block row a b low ha hb =
    with_more finder view disk (IsListedWithin finder.lists (rows_to block row)) (IsListedWithin finder.lists (columns_to block row block.right))
    (IsListedWithin finder.lists (rows_to block (row + 1))) a b
    (λ i x. join_row finder.lists block row i low (inl x)) (λ i x. join_row finder.lists block row i low (inr x))
    (split_row finder.lists block row) ha hb

-- ---- all that name the disk
pub adjacent_back : (grid : GridData) (a b : ℕ) → IsAdjacent grid a b → IsAdjacent grid b a
adjacent_back grid a b h = ((h.0.1, h.0.0), (h.1.1, h.1.0))

-- if a view has the disk, it is listed
pub listed_at : (view : ViewData) (lists : ListsData) (disk : ℕ) (p : Placed) → AreListed view lists.cells → rows_in view disk ≡ Some p →
    IsListed lists p.cell disk
listed_at view lists disk p listed row = listed disk ∙ ap (option_map (λ (q : Placed). q.cell)) row

-- the cells of the block are those adjacent to a cell
abbrev pub IsAround : GridData → ℕ → Block → Type 0
IsAround grid at block = (cell : ℕ) → IsCell grid cell → (IsAdjacent grid at cell ↔ IsWithinBlock grid block cell)

-- two disks of a pair are in adjacent cells, whichever is first
pub pair_beside : (rules : Rules) (grid : GridData) (view : ViewData) (disk other : ℕ) (p : Placed) (s : Stamp) → rows_in view disk ≡ Some p →
    IsNearPair rules grid (rows_in view) s → IsPairOf s disk other →
    (q : Placed) × (rows_in view other ≡ Some q) × IsAdjacent grid p.cell q.cell
pair_beside rules grid view disk other p s row near (inl e) = (
  near.1.2.0,
  sym (ap (rows_in view) e.1) ∙ near.1.2.1,
  subst (λ (x : Placed). IsAdjacent grid x.cell near.1.2.0.cell) (same_row view s.first disk near.1.0 p near.1.1 row e.0) near.1.2.2,
)
pair_beside rules grid view disk other p s row near (inr e) = (
  near.1.0,
  sym (ap (rows_in view) e.0) ∙ near.1.1,
  adjacent_back grid near.1.0.cell p.cell
      (subst (λ (x : Placed). IsAdjacent grid near.1.0.cell x.cell) (same_row view s.second disk near.1.2.0 p near.1.2.1 row e.1) near.1.2.2),
)

-- the other disk of a pair is listed in a cell of the block around the disk's own
pub listed_beside : (finder : Finder) (view : ViewData) (disk other : ℕ) (p : Placed) (block : Block) (s : Stamp) → IsReady finder view →
    rows_in view disk ≡ Some p → IsAround finder.grid p.cell block → AreListed view finder.lists.cells → IsFound finder view s →
    s.kind ≡ Pair → IsPairOf s disk other →
    (q : Placed) × (rows_in view other ≡ Some q) × IsListed finder.lists q.cell other × IsWithinBlock finder.lists.grid block q.cell
listed_beside finder view disk other p block s ready row around listed found kind pair = (
  beside.0,
  beside.1,
  listed_at view finder.lists other beside.0 listed beside.1,
  subst (λ (g : GridData). IsWithinBlock g block beside.0.cell) (sym ready.lists)
      ((around beside.0.cell (ready.valid.cell other beside.0 beside.1)).0 beside.2),
)
  where
    beside : (q : Placed) × (rows_in view other ≡ Some q) × IsAdjacent finder.grid p.cell q.cell
    beside = pair_beside finder.rules finder.grid view disk other p s row
        (near_pair finder.rules finder.grid finder.region view s found kind) pair

-- ---- the best ones
pub best_single : (finder : Finder) (view : ViewData) (disk : ℕ) (p : Placed) (o : Option Stamp) → rows_in view disk ≡ Some p →
    IsLeastOf (IsAloneAt finder disk p) o → IsBestSingle finder view disk o
best_single finder view disk p o row h =
    least_same (IsAloneAt finder disk p) (IsSingle finder view disk) o
    (λ s x. alone_found finder view disk p s row x)
    (λ s x. elim (alone_or_pair finder view disk p s row x.0 (inl x.1)) [
      | inl alone ↦ alone
      | inr near ↦ absurd (x.2 (pair_kind finder.rules finder.grid view s near))
    ])
    h

pub best_pairs : (finder : Finder) (view : ViewData) (disk : ℕ) (p : Placed) (block : Block) (o : Option Stamp) → IsReady finder view →
    rows_in view disk ≡ Some p → IsAround finder.grid p.cell block → AreListed view finder.lists.cells →
    IsLeastOf (IsNativeWith finder view disk (IsListedWithin finder.lists block)) o →
    IsBestPair finder view disk o
best_pairs finder view disk p block o ready row around listed h =
    least_same (IsNativeWith finder view disk (IsListedWithin finder.lists block)) (IsPaired finder view disk) o
    to from h
  where
    to : (s : Stamp) → IsNativeWith finder view disk (IsListedWithin finder.lists block) s → IsPaired finder view disk s
    to s x = let pair = pair_found finder view disk x.0 s x.2 in (pair.0, pair.1, names_pair s disk x.0 pair.1 pair.2)

    from : (s : Stamp) → IsPaired finder view disk s → IsNativeWith finder view disk (IsListedWithin finder.lists block) s
    from s x =
        let other = other_of s disk x.2 in
        let at = listed_beside finder view disk other.0 p block s ready row around listed x.0 x.1 other.1 in
        (other.0, (at.0.cell, at.2, at.3), pair_of finder view disk other.0 s x.0 x.1 other.1)

-- a candidate that names a disk is one of the disk by itself, or a pair
pub best_of_both : (finder : Finder) (view : ViewData) (disk : ℕ) (a b : Option Stamp) → IsBestSingle finder view disk a →
    IsBestPair finder view disk b → IsBest finder view disk (earlier_of a b)
best_of_both finder view disk a b ha hb =
    least_of_either (IsSingle finder view disk) (IsPaired finder view disk) (λ s. IsFound finder view s × Names s disk) a b
    (λ s x. (x.0, inl x.1)) (λ s x. (x.0, x.2)) (λ s x. by_kind s s.kind refl x.0 x.1) ha hb
  where
    alone : (s : Stamp) → ¬ (s.kind ≡ Pair) → IsFound finder view s → Names s disk → IsSingle finder view disk s ⊎ IsPaired finder view disk s
    alone s not found names = inl (found, by_itself s disk not names, not)

    by_kind : (s : Stamp) (k : Kind) → s.kind ≡ k → IsFound finder view s → Names s disk →
        IsSingle finder view disk s ⊎ IsPaired finder view disk s
    by_kind s Cross e found names = alone s (λ pair. let no : Cross ≡ Pair = sym e ∙ pair in cc) found names
    by_kind s Wall e found names = alone s (λ pair. let no : Wall ≡ Pair = sym e ∙ pair in cc) found names
    by_kind s Pair e found names = inr (found, e, names)
