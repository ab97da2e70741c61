-- The pairs of two disks with those that were gathered near either.
use Rattle.std.proofs.Common.{◌≡◌, inr, inl, ℕ, List, sym, subst}
use Rattle.std.specs.Prelude.{Option, Some}
use Rattle.std.specs.List.{Contains}
use Rattle.event_stamps.specs.declared.Stamp.{Stamp}
use Rattle.event_stamps.specs.Least.{HasNone}
use Rattle.cell_grid.specs.Grid.{GridData}
use Rattle.cell_lists.specs.declared.near.Block.{Block}
use Rattle.cell_lists.specs.Nearby.{IsWithinBlock, AreGathered}
use Rattle.region_view.specs.declared.action.Placed.{Placed}
use Rattle.region_view.specs.Views.{ViewData, rows_in}
use Rattle.region_view.proofs.Naming.{near_pair}
use Rattle.region_queue.specs.declared.finder.Finder.{Finder}
use Rattle.region_queue.specs.Finding.{IsReady, IsNativePair, IsNativeWith, IsPaired, IsLowKey, IsLowPair, AreKept, AreListed, HasNearby, IsWider}
use Rattle.region_queue.proofs.Candidates.{IsAround, listed_at, pair_of, pair_beside, other_of}

-- a disk that is listed around a cell is gathered with a wider block
pub near_gathered : (finder : Finder) (view : ViewData) (at : ℕ) (block wider : Block) (old near : List ℕ) → IsReady finder view →
    AreListed view finder.lists.cells → IsAround finder.grid at block → IsWider block wider →
    AreGathered finder.lists wider old near → HasNearby finder view at near
near_gathered finder view at block wider old near ready listed around has gathered i q row beside =
    (gathered i).1 (inr (
      q.cell,
      listed_at view finder.lists i q listed row,
      subst (λ (g : GridData). IsWithinBlock g wider q.cell) (sym ready.lists)
          (has finder.grid q.cell ((around q.cell (ready.valid.cell i q row)).0 beside)),
    ))

-- a key that isn't after the events with those kept of all that are near isn't after any pair
pub low_kept : (finder : Finder) (view : ViewData) (disk : ℕ) (p : Placed) (near kept : List ℕ) (o : Option Stamp) →
    rows_in view disk ≡ Some p → HasNearby finder view p.cell near → AreKept (λ i. HasNone (IsNativePair finder view disk i)) near kept →
    IsLowKey (IsNativeWith finder view disk (λ i. Contains kept i)) disk o → IsLowPair finder view disk o
low_kept finder view disk p near kept o row has are h = record { low = λ s x. h.low s (from s x); pair = h.pair }
  where
    from : (s : Stamp) → IsPaired finder view disk s → IsNativeWith finder view disk (λ i. Contains kept i) s
    from s x =
        let other = other_of s disk x.2 in
        let beside = pair_beside finder.rules finder.grid view disk other.0 p s row
        (near_pair finder.rules finder.grid finder.region view s x.0 x.1) other.1 in
        let native = pair_of finder view disk other.0 s x.0 x.1 other.1 in
        elim (are.out other.0 (has other.0 beside.0 beside.1 beside.2)) [
          | inl y ↦ (other.0, y, native)
          | inr none ↦ absurd (none s native)
        ]
