-- The pairs of a disk with some disks that were gathered beside its cell.
use Rattle.std.proofs.Common.{◌≡◌, ◌⊎◌, ◌↔◌, inl, inr, ℕ, ◌≤◌, Bool, List, [], ◌∷◌, ◌++◌, arith, refl, sym, subst, ◌∙◌}
use Rattle.std.specs.Prelude.{Option, Some, IsTrue}
use Rattle.std.specs.List.{Contains}
use Rattle.std.proofs.lemmas.List.Elements.{Contains-push, Contains-push_cases, Contains-append_left}
use Rattle.event_stamps.specs.declared.Stamp.{Stamp}
use Rattle.event_stamps.specs.Least.{IsLeastOf, earlier_of}
use Rattle.event_stamps.proofs.Least.{least_same}
use Rattle.cell_grid.specs.Grid.{GridData, Owns}
use Rattle.cell_lists.specs.declared.near.Block.{Block}
use Rattle.cell_lists.specs.Nearby.{IsWithinBlock, IsListedWithin}
use Rattle.region_view.specs.Views.{ViewData}
use Rattle.region_view.proofs.Naming.{none_among}
use Rattle.region_queue.specs.declared.finder.Finder.{Finder}
use Rattle.region_queue.specs.Finding.{IsReady, IsNativePair, IsNativeWith, IsNearby, AreAllWithin, IsBlockBeside, AreListed}
use Rattle.region_queue.proofs.Candidates.{listed_at, with_more, with_same}

-- ---- one after the other
pub one_more : (finder : Finder) (view : ViewData) (disk other : ℕ) (done : List ℕ) (a b : Option Stamp) →
    IsLeastOf (IsNativeWith finder view disk (λ i. Contains done i)) a → IsLeastOf (IsNativePair finder view disk other) b →
    IsLeastOf (IsNativeWith finder view disk (λ i. Contains (done ++ other ∷ []) i)) (earlier_of a b)
one_more finder view disk other done a b ha hb =
    with_more finder view disk (λ i. Contains done i) (λ i. other ≡ i) (λ i. Contains (done ++ other ∷ []) i) a b
    (λ i h. Contains-append_left done (other ∷ []) i h)
    (λ i same. subst (λ (n : ℕ). Contains (done ++ other ∷ []) n) same (Contains-push done other))
    (λ i h. Contains-push_cases done other i h) ha
    (least_same (IsNativePair finder view disk other) (IsNativeWith finder view disk (λ i. other ≡ i)) b
    (λ s x. (other, refl, x)) (λ s x. subst (λ (i : ℕ). IsNativePair finder view disk i s) (sym x.1) x.2) hb)

-- ---- their places
-- a disk that is listed in a block beside a cell is in a cell adjacent to it, and in a column of the block
pub nearby_listed : (finder : Finder) (view : ViewData) (at other : ℕ) (block : Block) (whole : Bool) → IsReady finder view →
    AreListed view finder.lists.cells → IsBlockBeside finder.grid at block →
    (IsTrue whole ↔ ((finder.strip.first ≤ block.left) × (block.right ≤ finder.strip.end))) → IsListedWithin finder.lists block other →
    IsNearby finder view at whole other
nearby_listed finder view at other block whole ready listed beside owned x q row = (beside.adjacent q.cell (ready.valid.cell other q row) within, owns)
  where
    same : x.0 ≡ q.cell
    same = let e : Some x.0 ≡ Some q.cell = sym x.1 ∙ listed_at view finder.lists other q listed row in cc

    within : IsWithinBlock finder.grid block q.cell
    within = subst (λ (g : GridData). IsWithinBlock g block q.cell) ready.lists (subst (IsWithinBlock finder.lists.grid block) same x.2)

    owns : IsTrue whole → Owns finder.grid finder.region q.cell
    owns all =
        let columns = owned.0 all in
        let first = ready.strip.first in
        let end = ready.strip.end in
        let left = within.0.0 in
        let right = within.0.1 in
        (omega arith, omega arith)

-- ---- all
-- if none were gathered before, the disks gathered are those that are listed
gathered_first : (ids : List ℕ) (old : List ℕ) (With : ℕ → Type 0) → old ≡ [] →
    ((i : ℕ) → Contains ids i ↔ (Contains old i ⊎ With i)) → (i : ℕ) → Contains ids i ↔ With i
gathered_first ids old With none are i = (
  λ x. elim ((are i).0 x) [
    | inl before ↦ absurd (none_among i (subst (λ (xs : List ℕ). Contains xs i) none before))
    | inr with ↦ with
  ],
  λ with. (are i).1 (inr with),
)

-- the pairs with those that are gathered, all of which are listed in a block
pub best_gathered : (finder : Finder) (view : ViewData) (disk : ℕ) (block : Block) (With : ℕ → Type 0) (old near : List ℕ)
    (o : Option Stamp) → ((i : ℕ) → With i → IsListedWithin finder.lists block i) → old ≡ [] →
    ((i : ℕ) → Contains near i ↔ (Contains old i ⊎ With i)) →
    (AreAllWithin finder.lists block near → IsLeastOf (IsNativeWith finder view disk (λ i. Contains near i)) o) →
    IsLeastOf (IsNativeWith finder view disk With) o
best_gathered finder view disk block With old near o within none gathered h =
    with_same finder view disk (λ i. Contains near i) With o (λ i x. (are i).0 x) (λ i x. (are i).1 x) (h (λ i x. within i ((are i).0 x)))
  where
    are : (i : ℕ) → Contains near i ↔ With i
    are = gathered_first near old With none gathered
