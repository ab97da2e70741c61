-- The next event of a settled state.
use Rattle.std.proofs.Common.{◌≡◌, inl, inr, ℕ, ◌+◌, ◌<◌, ◌≤◌, List, sym, ap, ◌∙◌, subst, refl}
use Rattle.std.proofs.Common.{arith, Some, slice_get}
use Rattle.fixed_motion.specs.declared.rules.Rules.{Rules}
use Rattle.fixed_motion.specs.declared.disk.Disk.{Disk}
use Rattle.fixed_motion.specs.Rules.{IsChecked}
use Rattle.fixed_motion.specs.Motion.{IsInside, place_of}
use Rattle.event_stamps.specs.declared.Stamp.{Stamp}
use Rattle.event_stamps.specs.declared.Kind.TheVariants.{Cross as Crossing}
use Rattle.event_stamps.proofs.StampOrder.{before_trans, cross_before, not_before_itself}
use Rattle.event_stamps.proofs.StampOrder.{tick_not_after}
use Rattle.fixed_motion.specs.Motion.{mark_at}
use Rattle.event_stamps.specs.Least.{HasNone}
use Rattle.event_rules.specs.Run.{IsCandidate, IsNext, IsValidState}
use Rattle.event_rules.proofs.Rise.{candidate_before_end}
use Rattle.cell_grid.specs.Grid.{GridData, IsGridOf, cell_at, IsAdjacent}
use Rattle.cell_grid.specs.Crossing.{IsInCell, cross_stamp}
use Rattle.cell_grid.proofs.Leaving.{crosses_later, moves_to_adjacent}
use Rattle.region_view.specs.declared.action.Placed.{Placed}
use Rattle.region_view.specs.Placing.{IsCrossCandidate}
use Rattle.cell_sequence.specs.Run.{disks_of, IsStateCandidate, IsCellNext}
use Rattle.cell_sequence.proofs.Acts.{disk_at}
use Rattle.cell_sequence.proofs.Settled.{IsSettled, Tracks, AllTrack, AllIn, NoneBelow, up_to}
use Rattle.cell_sequence.proofs.Settled.{crosses_now, event_is_candidate, candidate_is_event}
use Rattle.cell_sequence.proofs.Settled.{none_below, in_decides}

-- ---- candidates
-- the row of a candidate's first disk
pub row_of_candidate : (rules : Rules) (grid : GridData) (placed : List Placed) (s : Stamp) →
    IsStateCandidate rules grid placed s → (p : Placed) × (slice_get placed s.first ≡ Some p)
row_of_candidate rules grid placed s h = elim h [
  | inl cross ↦ (cross.0, cross.1)
  | inr event ↦ elim event [ inl wall ↦ (wall.0, wall.1) | inr pair ↦ (pair.1.0, pair.1.1) ]
]

-- ---- the tick of the next event
pub none_before_next : (rules : Rules) (grid : GridData) (placed : List Placed) (s : Stamp) →
    IsCellNext rules grid placed s → NoneBelow rules grid placed s.tick
none_before_next rules grid placed s next t h = tick_not_after s t (next.1 t h)

pub cell_candidate_before_end : (rules : Rules) (grid : GridData) (placed : List Placed)
    (t : Stamp) → IsStateCandidate rules grid placed t → t.tick < rules.end
cell_candidate_before_end rules grid placed t h = elim h [
  | inl cross ↦ cross.2.1
  | inr event ↦ elim event [ inl wall ↦ wall.2.1 | inr pair ↦ pair.1.2.3.1 ]
]

pub tracks_at_next : (rules : Rules) (grid : GridData) (placed : List Placed) (s t : Stamp) →
    IsChecked rules → IsGridOf rules grid → IsSettled rules grid placed s →
    IsCellNext rules grid placed t → AllTrack rules grid placed t.tick
tracks_at_next rules grid placed s t checked of settled next =
    let end = cell_candidate_before_end rules grid placed t next.0 in
    let from : s.tick ≤ t.tick =
    tick_not_after s t (λ before. not_before_itself t
    (before_trans t s t before (settled.after t next.0))) in
    up_to rules grid placed s.tick t.tick checked of settled.valid from (omega arith) settled.tracks
    (none_before_next rules grid placed t next)

-- ---- crossings
later_mark : (a : Disk) (tick : ℕ) → a.base < tick → mark_at a tick ≡ 0
later_mark a tick lt = grind arith

-- a disk that follows its places crosses after its base tick, from a cell adjacent to the new one
pub record CrossesOnce (rules : Rules) (grid : GridData) (placed : List Placed)
    (t : Stamp) : Type 0 where
  pub row : Placed
  pub at : slice_get placed t.first ≡ Some row
  pub round : t.round ≡ 0
  pub inside : IsInside rules row.disk (place_of row.disk t.tick)
  pub adjacent : IsAdjacent grid row.cell (cell_at grid (place_of row.disk t.tick))

pub crosses_once : (rules : Rules) (grid : GridData) (placed : List Placed) (t : Stamp) →
    IsChecked rules → IsGridOf rules grid → AllTrack rules grid placed t.tick →
    IsValidState rules (disks_of placed) → IsCrossCandidate rules grid (slice_get placed) t →
    CrossesOnce rules grid placed t
crosses_once rules grid placed t checked of tracks valid cross =
    let p = cross.0 in
    let track = tracks t.first p cross.1 in
    elim track.near [
      | inl here ↦ absurd (let lt : t.tick < t.tick =
          crosses_later rules grid p.disk p.cell t.tick t.tick here cross.2.0 in omega arith)
      | inr was ↦ record {
        row = p;
        at = cross.1;
        round = ap (λ (v : Stamp). v.round) cross.2.2
            ∙ later_mark p.disk t.tick (let e = was.1 in let le = was.2 in omega arith);
        inside = track.inside;
        adjacent = subst (λ (n : ℕ). IsAdjacent grid p.cell (cell_at grid (place_of p.disk n)))
            (sym was.1)
            (subst (λ (c : ℕ). IsAdjacent grid c
            (cell_at grid (place_of p.disk (was.0 + 1)))) was.3.1
            (moves_to_adjacent rules grid p.disk was.0 checked of
            (valid.valid t.first p.disk (disk_at placed t.first p cross.1)) was.2 was.3.0
            (subst (λ (n : ℕ). IsInside rules p.disk (place_of p.disk n)) was.1 track.inside)));
      }
    ]

-- ---- collisions
-- at a collision of the cell run all disks are in their cells
pub all_in_at_collision : (rules : Rules) (grid : GridData) (placed : List Placed) (s t : Stamp) →
    IsChecked rules → IsGridOf rules grid → IsSettled rules grid placed s →
    IsCellNext rules grid placed t → ¬ (t.kind ≡ Crossing) → AllIn rules grid placed t.tick
all_in_at_collision rules grid placed s t checked of settled next collision i p at =
    let tracks = tracks_at_next rules grid placed s t checked of settled next in
    let end = cell_candidate_before_end rules grid placed t next.0 in
    elim (in_decides rules grid p.disk p.cell (place_of p.disk t.tick)) [
      | inl here ↦ here
      | inr gone ↦ absurd (next.1 (cross_stamp i p.disk t.tick)
          (crosses_now rules grid placed i p t.tick checked of
          (settled.valid.valid i p.disk (disk_at placed i p at)) end at (tracks i p at) gone)
          (cross_before (cross_stamp i p.disk t.tick) t refl
          (mark i p at gone (tracks i p at)) refl collision))
    ]
  where
    mark : (i : ℕ) (p : Placed) → slice_get placed i ≡ Some p →
        ¬ IsInCell rules grid p.disk p.cell (place_of p.disk t.tick) → Tracks rules grid p t.tick →
        mark_at p.disk t.tick ≡ 0
    mark i p at gone track = elim track.near [
      | inl here ↦ absurd (gone here)
      | inr was ↦ later_mark p.disk t.tick (let e = was.1 in let le = was.2 in omega arith)
    ]

-- the next collision of the cell run is the next event of the sequential run
pub next_is_next : (rules : Rules) (grid : GridData) (placed : List Placed) (s t : Stamp) →
    IsChecked rules → IsGridOf rules grid → IsSettled rules grid placed s →
    IsCellNext rules grid placed t → ¬ (t.kind ≡ Crossing) → IsNext rules (disks_of placed) t
next_is_next rules grid placed s t checked of settled next collision = (
  candidate_is_event rules grid placed t collision next.0,
  λ u h before.
      let here = all_in_at_collision rules grid placed s t checked of settled next collision in
      let from : t.tick ≤ u.tick =
      none_below rules grid placed s u t.tick checked of settled
      (none_before_next rules grid placed t next) h in
      let to : u.tick ≤ t.tick =
      tick_not_after u t (λ later. not_before_itself u (before_trans u t u before later)) in
      let same : t.tick ≡ u.tick = omega arith in
      next.1 u (event_is_candidate rules grid placed u checked of settled.valid
      (subst (AllIn rules grid placed) same here) h) before,
)

-- if the cell run has no event left, the sequential run has none
pub none_left : (rules : Rules) (grid : GridData) (placed : List Placed) (s : Stamp) →
    IsChecked rules → IsGridOf rules grid → IsSettled rules grid placed s →
    HasNone (IsStateCandidate rules grid placed) → HasNone (IsCandidate rules (disks_of placed))
none_left rules grid placed s checked of settled none t h =
    let past : rules.end ≤ t.tick =
    none_below rules grid placed s t rules.end checked of settled
    (λ u k. absurd (none u k)) h in
    let end = candidate_before_end rules (disks_of placed) t h in
    omega arith
