-- Recorded cells follow the places: what holds of the states of a cell run between its events.
use Rattle.std.proofs.Common.{◌≡◌, ◌⊎◌, inl, inr, ℕ, zero, suc, ◌+◌, ◌-◌, ◌<◌, ◌≤◌, List, sym, ap}
use Rattle.std.proofs.Common.{subst, refl, arith, Some, slice_get}
use Rattle.std.proofs.lemmas.Bool.{cases_lt}
use Rattle.plane_vectors.specs.declared.Vector.{Vector}
use Rattle.fixed_motion.specs.declared.rules.Rules.{Rules}
use Rattle.fixed_motion.specs.declared.disk.Disk.{Disk}
use Rattle.fixed_motion.specs.Rules.{IsChecked}
use Rattle.fixed_motion.specs.Motion.{IsInside, IsValidDisk, place_of}
use Rattle.event_stamps.specs.declared.Stamp.{Stamp}
use Rattle.event_stamps.specs.declared.Kind.TheVariants.{Cross as Crossing}
use Rattle.event_stamps.specs.Order.{Before}
use Rattle.event_stamps.proofs.StampOrder.{before_trans, not_before_itself, tick_not_after}
use Rattle.event_rules.specs.Events.{IsWallEvent, IsPairEvent, wall_stamp}
use Rattle.event_rules.specs.Run.{IsCandidate, IsValidState}
use Rattle.event_rules.proofs.Apart.{inside_next}
use Rattle.event_stamps.proofs.Decision.{Decision, both, same_number}
use Rattle.event_rules.proofs.Decided.{inside}
use Rattle.event_rules.proofs.Rise.{candidate_before_end}
use Rattle.cell_grid.specs.Grid.{GridData, IsGridOf, cell_at, IsAdjacent}
use Rattle.cell_grid.specs.Crossing.{IsInCell, IsCrossTick, cross_stamp}
use Rattle.cell_grid.proofs.Cells.{touch_in_adjacent}
use Rattle.cell_grid.proofs.Leaving.{leaves_after_last}
use Rattle.region_view.specs.declared.action.Placed.{Placed}
use Rattle.cell_sequence.specs.Run.{disks_of, IsStateCandidate}
use Rattle.cell_sequence.proofs.Acts.{disk_at, placed_at_disk}

-- the disk was in its recorded cell one tick before
abbrev pub WasIn : Rules → GridData → Placed → ℕ → Type 0
WasIn rules grid p tick = (t : ℕ) × (tick ≡ t + 1) × (p.disk.base ≤ t)
    × IsInCell rules grid p.disk p.cell (place_of p.disk t)

-- the disk is in its recorded cell, or has left it just now
pub record Tracks (rules : Rules) (grid : GridData) (p : Placed) (tick : ℕ) : Type 0 where
  pub begun : p.disk.base ≤ tick
  pub inside : IsInside rules p.disk (place_of p.disk tick)
  pub near : IsInCell rules grid p.disk p.cell (place_of p.disk tick) ⊎ WasIn rules grid p tick

abbrev pub AllTrack : Rules → GridData → List Placed → ℕ → Type 0
AllTrack rules grid placed tick = (i : ℕ) (p : Placed) → slice_get placed i ≡ Some p →
    Tracks rules grid p tick

abbrev pub AllIn : Rules → GridData → List Placed → ℕ → Type 0
AllIn rules grid placed tick = (i : ℕ) (p : Placed) → slice_get placed i ≡ Some p →
    IsInCell rules grid p.disk p.cell (place_of p.disk tick)

-- no event of the cell run comes before the tick
abbrev pub NoneBelow : Rules → GridData → List Placed → ℕ → Type 0
NoneBelow rules grid placed tick = (t : Stamp) → IsStateCandidate rules grid placed t →
    tick ≤ t.tick

-- what holds after the action of the stamp, or of the first stamp at the start
pub record IsSettled (rules : Rules) (grid : GridData) (placed : List Placed)
    (s : Stamp) : Type 0 where
  pub valid : IsValidState rules (disks_of placed)
  pub tracks : AllTrack rules grid placed s.tick
  pub after : (t : Stamp) → IsStateCandidate rules grid placed t → Before s t
  pub events_after : (t : Stamp) → IsCandidate rules (disks_of placed) t → Before s t

pub in_decides : (rules : Rules) (grid : GridData) (a : Disk) (cell : ℕ) (p : Vector) →
    Decision (IsInCell rules grid a cell p)
in_decides rules grid a cell p = both (inside rules a p) (same_number (cell_at grid p) cell)

-- a disk that has left its cell just now has a crossing
pub crosses_now : (rules : Rules) (grid : GridData) (placed : List Placed) (i : ℕ) (p : Placed)
    (tick : ℕ) → IsChecked rules → IsGridOf rules grid → IsValidDisk rules p.disk →
    tick < rules.end →
    slice_get placed i ≡ Some p → Tracks rules grid p tick →
    ¬ IsInCell rules grid p.disk p.cell (place_of p.disk tick) →
    IsStateCandidate rules grid placed (cross_stamp i p.disk tick)
crosses_now rules grid placed i p tick checked of valid before at track gone = elim track.near [
  | inl here ↦ absurd (gone here)
  | inr was ↦ inl (
    p,
    at,
    (
      subst (λ (n : ℕ). IsCrossTick rules grid p.disk p.cell n) (sym was.1)
          (leaves_after_last rules grid p.disk p.cell was.0 checked of valid was.2 was.3
          (subst (λ (n : ℕ). ¬ IsInCell rules grid p.disk p.cell (place_of p.disk n)) was.1 gone)
          (subst (λ (n : ℕ). IsInside rules p.disk (place_of p.disk n)) was.1 track.inside)),
      before,
      refl,
    ),
  )
]

-- while no event comes at a tick, all disks are in their cells there
all_in_before : (rules : Rules) (grid : GridData) (placed : List Placed) (tick : ℕ) →
    IsChecked rules → IsGridOf rules grid → IsValidState rules (disks_of placed) →
    tick < rules.end →
    AllTrack rules grid placed tick → NoneBelow rules grid placed (tick + 1) →
    AllIn rules grid placed tick
all_in_before rules grid placed tick checked of valid before tracks none i p at =
    elim (in_decides rules grid p.disk p.cell (place_of p.disk tick)) [
      | inl here ↦ here
      | inr gone ↦ absurd (let le : tick + 1 ≤ tick =
          none (cross_stamp i p.disk tick)
          (crosses_now rules grid placed i p tick checked of
          (valid.valid i p.disk (disk_at placed i p at)) before at (tracks i p at) gone) in omega arith)
    ]

-- a tick without an event
next_tick : (rules : Rules) (grid : GridData) (placed : List Placed) (tick : ℕ) → IsChecked rules →
    IsGridOf rules grid → IsValidState rules (disks_of placed) → tick < rules.end →
    AllTrack rules grid placed tick → NoneBelow rules grid placed (tick + 1) →
    AllTrack rules grid placed (tick + 1)
next_tick rules grid placed tick checked of valid before tracks none i p at =
    let track = tracks i p at in
    let here = all_in_before rules grid placed tick checked of valid before tracks none i p at in
    let begun = track.begun in
    record {
      begun = omega arith;
      inside = inside_next rules p.disk tick begun track.inside
          (λ side wall. let le : tick + 1 ≤ tick =
          none (wall_stamp i p.disk side tick) (inr (inl (p, at, (wall, before, refl)))) in
          omega arith);
      near = inr (tick, refl, begun, here);
    }

more_ticks : (rules : Rules) (grid : GridData) (placed : List Placed) (start n : ℕ) →
    IsChecked rules → IsGridOf rules grid → IsValidState rules (disks_of placed) →
    start + n ≤ rules.end →
    AllTrack rules grid placed start → NoneBelow rules grid placed (start + n) →
    AllTrack rules grid placed (start + n)
more_ticks rules grid placed start zero checked of valid end tracks none =
    let e : start ≡ start + 0 = omega arith in subst (AllTrack rules grid placed) e tracks
more_ticks rules grid placed start (suc n) checked of valid end tracks none =
    let e : (start + n) + 1 ≡ start + suc n = omega arith in
    let earlier = more_ticks rules grid placed start n checked of valid (omega arith) tracks
    (λ t h. let le : start + suc n ≤ t.tick = none t h in omega arith) in
    subst (AllTrack rules grid placed) e
    (next_tick rules grid placed (start + n) checked of valid (omega arith) earlier
    (λ t h. let le : start + suc n ≤ t.tick = none t h in omega arith))

-- recorded cells follow the places up to a tick before which no event comes
pub up_to : (rules : Rules) (grid : GridData) (placed : List Placed) (start tick : ℕ) →
    IsChecked rules → IsGridOf rules grid → IsValidState rules (disks_of placed) → start ≤ tick →
    tick ≤ rules.end →
    AllTrack rules grid placed start → NoneBelow rules grid placed tick →
    AllTrack rules grid placed tick
up_to rules grid placed start tick checked of valid le end tracks none =
    let e : tick ≡ start + (tick - start) = omega arith in
    subst (AllTrack rules grid placed) (sym e)
    (more_ticks rules grid placed start (tick - start) checked of valid (omega arith) tracks
    (subst (NoneBelow rules grid placed) e none))

-- ---- events of the sequential run
-- if all disks are in their cells, each event of the sequential run is one of the cell run
pub event_is_candidate : (rules : Rules) (grid : GridData) (placed : List Placed) (t : Stamp) →
    IsChecked rules → IsGridOf rules grid → IsValidState rules (disks_of placed) →
    AllIn rules grid placed t.tick → IsCandidate rules (disks_of placed) t →
    IsStateCandidate rules grid placed t
event_is_candidate rules grid placed t checked of valid here h = elim h [
  | inl wall ↦
      let p = placed_at_disk placed t.first wall.0 wall.1 in
      inr (inl (
        p.0,
        p.1,
        subst (λ (a : Disk). IsWallEvent rules t.first a t.second t)
            (sym p.2) wall.2,
      ))
  | inr pair ↦
      let a = pair.1.0 in
      let b = pair.1.2.0 in
      let event = pair.1.2.2 in
      let p = placed_at_disk placed t.first a pair.1.1 in
      let q = placed_at_disk placed t.second b pair.1.2.1 in
      let va = valid.valid t.first a pair.1.1 in
      let vb = valid.valid t.second b pair.1.2.1 in
      let near = touch_in_adjacent rules grid a b (place_of a t.tick)
      (place_of b t.tick) checked of va vb
      event.0.first_inside event.0.second_inside event.0.contact in
      let cp : cell_at grid (place_of a t.tick) ≡ p.0.cell =
      subst (λ (d : Disk). cell_at grid (place_of d t.tick) ≡ p.0.cell) p.2
      (here t.first p.0 p.1).1 in
      let cq : cell_at grid (place_of b t.tick) ≡ q.0.cell =
      subst (λ (d : Disk). cell_at grid (place_of d t.tick) ≡ q.0.cell) q.2
      (here t.second q.0 q.1).1 in
      inr (inr (
        pair.0,
        (
          p.0,
          p.1,
          (
            q.0,
            q.1,
            subst (λ (c : ℕ). IsAdjacent grid c q.0.cell) cp
                (subst (λ (c : ℕ). IsAdjacent grid (cell_at grid (place_of a t.tick)) c) cq near),
            subst (λ (d : Disk). IsPairEvent rules t.first d t.second q.0.disk t) (sym p.2)
                (subst (λ (d : Disk). IsPairEvent rules t.first a t.second d t) (sym q.2) event),
          ),
        ),
      ))
]

-- an event of the cell run that isn't a crossing is one of the sequential run
pub candidate_is_event : (rules : Rules) (grid : GridData) (placed : List Placed) (t : Stamp) →
    ¬ (t.kind ≡ Crossing) →
    IsStateCandidate rules grid placed t → IsCandidate rules (disks_of placed) t
candidate_is_event rules grid placed t not h = elim h [
  | inl cross ↦ absurd (not (ap (λ (v : Stamp). v.kind) cross.2.2))
  | inr event ↦ elim event [
    | inl wall ↦ inl (wall.0.disk, disk_at placed t.first wall.0 wall.1, wall.2)
    | inr pair ↦ inr (
      pair.0,
      (
        pair.1.0.disk,
        disk_at placed t.first pair.1.0 pair.1.1,
        (pair.1.2.0.disk, disk_at placed t.second pair.1.2.0 pair.1.2.1, pair.1.2.3),
      ),
    )
  ]
]

-- if no event of the cell run comes before a tick, none of the sequential run does
pub none_below : (rules : Rules) (grid : GridData) (placed : List Placed) (s t : Stamp) (tick : ℕ) →
    IsChecked rules → IsGridOf rules grid → IsSettled rules grid placed s →
    NoneBelow rules grid placed tick → IsCandidate rules (disks_of placed) t → tick ≤ t.tick
none_below rules grid placed s t tick checked of settled none h = elim (cases_lt t.tick tick) [
  | inr le ↦ le
  | inl lt ↦
      let end = candidate_before_end rules (disks_of placed) t h in
      let from : s.tick ≤ t.tick =
      tick_not_after s t (λ before. not_before_itself t
      (before_trans t s t before (settled.events_after t h))) in
      let tracks = up_to rules grid placed s.tick t.tick checked of settled.valid from
      (omega arith) settled.tracks (λ u k. let le : tick ≤ u.tick = none u k in omega arith) in
      let here = all_in_before rules grid placed t.tick checked of settled.valid end tracks
      (λ u k. let le : tick ≤ u.tick = none u k in omega arith) in
      none t (event_is_candidate rules grid placed t checked of settled.valid here h)
]
