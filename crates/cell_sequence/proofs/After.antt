-- A settled state is settled after its next action.
use Rattle.std.proofs.Common.{◌≡◌, ◌≢◌, ◌⊎◌, inl, inr, ℕ, ◌≤◌, List, sym, ap, ◌∙◌, subst, refl}
use Rattle.std.proofs.Common.{arith, Option, Some, None, Ok, slice_get, slice_set}
use Rattle.std.proofs.lemmas.Bool.{cases_lt}
use Rattle.std.proofs.lemmas.Option.{same_Some}
use Rattle.std.specs.Prelude.{ℤ}
use Rattle.plane_vectors.specs.declared.Vector.{Vector}
use Rattle.fixed_motion.specs.declared.rules.Rules.{Rules}
use Rattle.fixed_motion.specs.declared.disk.Disk.{Disk}
use Rattle.fixed_motion.specs.Rules.{IsChecked}
use Rattle.fixed_motion.specs.Motion.{FitsAt, half_of, place_of}
use Rattle.event_stamps.specs.declared.Stamp.{Stamp}
use Rattle.event_stamps.specs.declared.Kind.{Kind}
use Rattle.event_stamps.specs.declared.Kind.TheVariants.{Cross as Crossing, Wall, Pair}
use Rattle.event_stamps.specs.Order.{Before}
use Rattle.event_stamps.proofs.StampOrder.{before_tick, before_decides, same_stamp, cross_before}
use Rattle.event_rules.specs.declared.change.Change.{Change}
use Rattle.event_rules.specs.Run.{IsCandidate, IsNext, ComesTo, IsValidState}
use Rattle.event_rules.proofs.Apart.{KeepsPlace, KeepPlaces, wall_keeps, pair_keeps}
use Rattle.event_rules.proofs.Ran.{ran, ran_valid, effect_valid}
use Rattle.event_rules.proofs.Rise.{candidate_kind, candidate_rises}
use Rattle.cell_grid.specs.Grid.{GridData, IsGridOf, cell_at}
use Rattle.cell_grid.specs.Crossing.{IsInCell, IsCrossTick}
use Rattle.cell_grid.proofs.Leaving.{crosses_later}
use Rattle.region_view.specs.declared.action.Placed.{Placed}
use Rattle.region_view.specs.declared.action.Action.TheVariants.{Cross, Hit}
use Rattle.region_view.specs.Placing.{IsPlacedWall, IsNearPair}
use Rattle.region_view.specs.Acting.{redisked, recelled}
use Rattle.cell_sequence.specs.Run.{disks_of, acted, IsStateCandidate, IsCellNext}
use Rattle.cell_sequence.proofs.Lists.{get_set}
use Rattle.cell_sequence.proofs.Acts.{disk_at, cross_keeps, hit_changes, set_all, fold_append}
use Rattle.cell_sequence.proofs.Settled.{IsSettled, Tracks, AllIn, candidate_is_event, none_below}
use Rattle.cell_sequence.proofs.Next.{tracks_at_next, none_before_next, all_in_at_collision}
use Rattle.cell_sequence.proofs.Next.{CrossesOnce}

-- ---- crossings
after_cross : (placed : List Placed) (t : Stamp) (cell : ℕ) (p : Placed) →
    slice_get placed t.first ≡ Some p → (i : ℕ) (q : Placed) →
    slice_get (acted placed (Cross t cell)) i ≡ Some q →
    ((i ≡ t.first) × (q ≡ record { disk = p.disk; cell = cell }))
    ⊎ ((i ≢ t.first) × (slice_get placed i ≡ Some q))
after_cross placed t cell p at i q h =
    get_set placed t.first i (record { disk = p.disk; cell = cell }) q
    (subst (λ (row : Option Placed). slice_get
    (set_all placed (recelled t.first cell row)) i ≡ Some q) at h)

pub kind_decides : (k : Kind) → (k ≡ Crossing) ⊎ ¬ (k ≡ Crossing)
kind_decides Crossing = inl refl
kind_decides Wall = inr (λ e. cc)
kind_decides Pair = inr (λ e. cc)

pub no_crossing : (k : Kind) → (k ≡ Wall) ⊎ (k ≡ Pair) → ¬ (k ≡ Crossing)
no_crossing Crossing h e = elim h [ inl w ↦ cc | inr p ↦ cc ]
no_crossing Wall h e = cc
no_crossing Pair h e = cc

pub collision_kind : (rules : Rules) (grid : GridData) (placed : List Placed) (u : Stamp) →
    IsPlacedWall rules (slice_get placed) u ⊎ IsNearPair rules grid (slice_get placed) u →
    ¬ (u.kind ≡ Crossing)
collision_kind rules grid placed u h = elim h [
  | inl wall ↦ no_crossing u.kind (inl (ap (λ (v : Stamp). v.kind) wall.2.2))
  | inr pair ↦ no_crossing u.kind (inr (ap (λ (v : Stamp). v.kind) pair.1.2.3.2))
]

-- a candidate of another first disk comes after the next event
later_candidate : (rules : Rules) (grid : GridData) (placed : List Placed) (t u : Stamp) →
    IsCellNext rules grid placed t → IsStateCandidate rules grid placed u →
    u.first ≢ t.first → Before t u
later_candidate rules grid placed t u next h other = elim (before_decides t u) [
  | inl before ↦ before
  | inr not ↦ absurd (other (ap (λ (v : Stamp). v.first) (same_stamp u t (next.1 u h) not)))
]

-- events of the sequential run come after a crossing that comes first
events_after_cross : (rules : Rules) (grid : GridData) (placed : List Placed) (s t u : Stamp) →
    IsChecked rules → IsGridOf rules grid → IsSettled rules grid placed s →
    IsCellNext rules grid placed t → t.kind ≡ Crossing → t.round ≡ 0 →
    IsCandidate rules (disks_of placed) u → Before t u
events_after_cross rules grid placed s t u checked of settled next kind round h =
    let from : t.tick ≤ u.tick =
    none_below rules grid placed s u t.tick checked of settled
    (none_before_next rules grid placed t next) h in
    elim (cases_lt t.tick u.tick) [
      | inl lt ↦ before_tick t u lt
      | inr le ↦ cross_before t u (omega arith) round kind
          (no_crossing u.kind (candidate_kind rules (disks_of placed) u h))
    ]

pub settled_cross : (rules : Rules) (grid : GridData) (placed : List Placed) (s t : Stamp) →
    IsChecked rules → IsGridOf rules grid → IsSettled rules grid placed s →
    IsCellNext rules grid placed t → t.kind ≡ Crossing → (once : CrossesOnce rules grid placed t) →
    IsSettled rules grid (acted placed (Cross t (cell_at grid (place_of once.row.disk t.tick)))) t
settled_cross rules grid placed s t checked of settled next kind once =
    let cell = cell_at grid (place_of once.row.disk t.tick) in
    let same = cross_keeps placed t cell in
    let tracks = tracks_at_next rules grid placed s t checked of settled next in
    let events = λ (u : Stamp) (h : IsCandidate rules (disks_of (acted placed (Cross t cell))) u).
    events_after_cross rules grid placed s t u checked of settled next kind once.round
    (subst (λ (xs : List Disk). IsCandidate rules xs u) same h) in
    record {
      valid = subst (IsValidState rules) (sym same) settled.valid;
      tracks = λ i q at. elim (after_cross placed t cell once.row once.at i q at) [
        | inl own ↦ subst (λ (r : Placed). Tracks rules grid r t.tick) (sym own.1)
            (record {
              begun = (tracks t.first once.row once.at).begun;
              inside = once.inside;
              near =
                  inl (once.inside, refl);
            })
        | inr other ↦ tracks i q other.1
      ];
      after = λ u h. elim h [
        | inl cross ↦ elim (after_cross placed t cell once.row once.at u.first cross.0 cross.1) [
          | inl own ↦ before_tick t u
              (crosses_later rules grid once.row.disk cell t.tick u.tick (once.inside, refl)
              (subst (λ (r : Placed). IsCrossTick rules grid r.disk r.cell u.tick) own.1 cross.2.0))
          | inr other ↦ later_candidate rules grid placed t u next
              (inl (cross.0, other.1, cross.2)) other.0
        ]
        | inr event ↦ events u (candidate_is_event rules grid (acted placed (Cross t cell)) u
            (collision_kind rules grid (acted placed (Cross t cell)) u event) (inr event))
      ];
      events_after = events;
    }

-- ---- collisions
-- a row in the cell of an old one, with its place at the tick
record KeepsRow (placed : List Placed) (tick i : ℕ) (q : Placed) : Type 0 where
  old : Placed
  at : slice_get placed i ≡ Some old
  cell : q.cell ≡ old.cell
  base : q.disk.base ≤ tick
  size : q.disk.size ≡ old.disk.size
  place : place_of q.disk tick ≡ place_of old.disk tick

AllKeep : List Placed → ℕ → List Placed → Type 0
AllKeep placed tick xs = (i : ℕ) (q : Placed) → slice_get xs i ≡ Some q → KeepsRow placed tick i q

set_keeps : (placed xs : List Placed) (tick i : ℕ) (v : Placed) → AllKeep placed tick xs →
    KeepsRow placed tick i v → AllKeep placed tick (slice_set xs i v)
unfolding AllKeep
set_keeps placed xs tick i v all keeps j x h = elim (get_set xs i j v x h) [
  | inl same ↦ subst (KeepsRow placed tick j) (sym same.1)
      (subst (λ (n : ℕ). KeepsRow placed tick n v) (sym same.0) keeps)
  | inr other ↦ all j x other.1
]

-- a new record keeps the row's cell and place
redisk_keeps : (placed xs : List Placed) (tick i : ℕ) (a : Disk) (row : Option Placed) →
    slice_get placed i ≡ row → AllKeep placed tick xs →
    KeepsPlace (disks_of placed) tick i a →
    AllKeep placed tick (set_all xs (redisked i (Some a) row))
redisk_keeps placed xs tick i a None at all keeps = all
redisk_keeps placed xs tick i a (Some p) at all keeps =
    let same : keeps.old ≡ p.disk =
    same_Some keeps.old p.disk (sym keeps.at ∙ disk_at placed i p at) in
    set_keeps placed xs tick i (record { disk = a; cell = p.cell }) all (record {
      old = p;
      at = at;
      cell = refl;
      base = keeps.base;
      size = keeps.size ∙ ap (λ (d : Disk). d.size) same;
      place = keeps.place ∙ ap (λ (d : Disk). place_of d tick) same;
    })

redisk_some_keeps : (placed xs : List Placed) (tick i : ℕ) (o : Option Disk) →
    AllKeep placed tick xs →
    ((d : Disk) → o ≡ Some d → KeepsPlace (disks_of placed) tick i d) →
    AllKeep placed tick (set_all xs (redisked i o (slice_get placed i)))
redisk_some_keeps placed xs tick i None all keeps = all
redisk_some_keeps placed xs tick i (Some d) all keeps =
    redisk_keeps placed xs tick i d (slice_get placed i) refl all (keeps d refl)

none_set_keeps : (placed : List Placed) (tick : ℕ) →
    ((i : ℕ) (p : Placed) → slice_get placed i ≡ Some p → p.disk.base ≤ tick) →
    AllKeep placed tick placed
unfolding AllKeep
none_set_keeps placed tick begun i p at =
    record { old = p; at = at; cell = refl; base = begun i p at; size = refl; place = refl }

hit_keeps : (placed : List Placed) (c : Change) →
    ((i : ℕ) (p : Placed) → slice_get placed i ≡ Some p → p.disk.base ≤ c.stamp.tick) →
    KeepPlaces (disks_of placed) c → AllKeep placed c.stamp.tick (acted placed (Hit c))
unfolding AllKeep
hit_keeps placed c begun keep =
    let none = none_set_keeps placed c.stamp.tick begun in
    let first = redisk_some_keeps placed placed c.stamp.tick c.stamp.first (Some c.first) none
    (λ d e. subst (KeepsPlace (disks_of placed) c.stamp.tick c.stamp.first)
    (same_Some c.first d e) keep.first) in
    subst (AllKeep placed c.stamp.tick)
    (sym (fold_append placed (redisked c.stamp.first (Some c.first)
    (slice_get placed c.stamp.first))
    (redisked c.stamp.second c.second (slice_get placed c.stamp.second))))
    (redisk_some_keeps placed
    (set_all placed (redisked c.stamp.first (Some c.first)
    (slice_get placed c.stamp.first))) c.stamp.tick c.stamp.second c.second first keep.second)

kept_in : (rules : Rules) (grid : GridData) (placed : List Placed) (tick i : ℕ) (q : Placed) →
    AllIn rules grid placed tick → KeepsRow placed tick i q →
    IsInCell rules grid q.disk q.cell (place_of q.disk tick)
kept_in rules grid placed tick i q here keep =
    let old = here i keep.old keep.at in (
      subst (λ (size : ℤ). FitsAt rules (half_of size) (place_of q.disk tick)) (sym keep.size)
          (subst (λ (p : Vector). FitsAt rules (half_of keep.old.disk.size) p)
          (sym keep.place) old.0),
      ap (cell_at grid) keep.place ∙ old.1 ∙ sym keep.cell,
    )

pub settled_hit : (rules : Rules) (grid : GridData) (placed : List Placed) (s : Stamp)
    (c : Change) → IsChecked rules → IsGridOf rules grid → IsSettled rules grid placed s →
    IsCellNext rules grid placed c.stamp → ¬ (c.stamp.kind ≡ Crossing) →
    IsNext rules (disks_of placed) c.stamp → ComesTo rules (disks_of placed) c.stamp (Ok c) →
    IsSettled rules grid (acted placed (Hit c)) c.stamp
unfolding AllKeep
settled_hit rules grid placed s c checked of settled next collision event comes =
    let same = hit_changes placed c in
    let t = c.stamp in
    let tracks = tracks_at_next rules grid placed s t checked of settled next in
    let here = all_in_at_collision rules grid placed s t checked of settled next collision in
    let has_run = ran rules (disks_of placed) c event.0 comes in
    let keep : KeepPlaces (disks_of placed) c = elim has_run [
      | inl wall ↦ wall_keeps rules (disks_of placed) c wall
      | inr pair ↦ pair_keeps rules (disks_of placed) c pair
    ] in
    let rows = hit_keeps placed c (λ i p at. (tracks i p at).begun) keep in
    let events = λ (u : Stamp) (h : IsCandidate rules (disks_of (acted placed (Hit c))) u).
    candidate_rises rules (disks_of placed) c u event comes
    (subst (λ (xs : List Disk). IsCandidate rules xs u) same h) in
    record {
      valid = subst (IsValidState rules) (sym same)
          (effect_valid rules (disks_of placed) c settled.valid
          (ran_valid rules (disks_of placed) c settled.valid has_run));
      tracks = λ i q at. let keep = rows i q at in let in_cell =
          kept_in rules grid placed t.tick i q here keep in
          record { begun = keep.base; inside = in_cell.0; near = inl in_cell };
      after = λ u h. elim h [
        | inl cross ↦ before_tick t u
            (crosses_later rules grid cross.0.disk cross.0.cell t.tick u.tick
            (kept_in rules grid placed t.tick u.first cross.0 here
            (rows u.first cross.0 cross.1)) cross.2.0)
        | inr found ↦ events u (candidate_is_event rules grid (acted placed (Hit c)) u
            (collision_kind rules grid (acted placed (Hit c)) u found) (inr found))
      ];
      events_after = events;
    }
