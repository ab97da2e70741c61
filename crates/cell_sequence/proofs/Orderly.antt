-- What is known of each state of a cell run.
use Rattle.std.proofs.Common.{◌≡◌, ◌⊎◌, inl, inr, ℕ, List, [], ◌∷◌, sym, ap, ◌∙◌, subst, refl}
use Rattle.std.proofs.Common.{arith, Option, Some, None, Result, Ok, Err, slice_get, slice_set}
use Rattle.std.proofs.lemmas.Option.{none-some, same_Some, slice_get_within}
use Rattle.fixed_motion.specs.declared.rules.Rules.{Rules}
use Rattle.fixed_motion.specs.declared.disk.Disk.{Disk}
use Rattle.fixed_motion.specs.Rules.{IsChecked}
use Rattle.fixed_motion.specs.Motion.{place_of}
use Rattle.event_stamps.specs.declared.Stamp.{Stamp}
use Rattle.event_stamps.specs.declared.Kind.{Kind}
use Rattle.event_stamps.specs.declared.Kind.TheVariants.{Cross as Crossing, Wall, Pair}
use Rattle.event_stamps.specs.Order.{Before, first_stamp, end_stamp}
use Rattle.event_stamps.proofs.StampOrder.{before_tick}
use Rattle.event_stamps.proofs.Decision.{same_number}
use Rattle.cell_grid.specs.Grid.{GridData, HasSizes, cell_at, IsCell, IsGridOf, IsRegion}
use Rattle.cell_grid.specs.Grid.{IsAdjacent, Owns, Reaches}
use Rattle.cell_grid.proofs.Cells.{grids_have_sizes, places_have_cells}
use Rattle.cell_grid.proofs.Owners.{own_is_in_reach}
use Rattle.region_view.specs.declared.action.Placed.{Placed}
use Rattle.region_view.specs.declared.action.Action.{Action}
use Rattle.region_view.specs.declared.action.Action.TheVariants.{Cross, Hit}
use Rattle.region_view.specs.Placing.{IsHome, IsNearPair}
use Rattle.region_view.proofs.Homes.{beside_reach}
use Rattle.region_view.specs.Acting.{stamp_of, ActsAs, hit_of, redisked, recelled}
use Rattle.event_rules.specs.declared.change.Limit.{Limit}
use Rattle.event_rules.specs.Run.{IsNext, ComesTo}
use Rattle.event_rules.proofs.Ran.{ran}
use Rattle.event_rules.proofs.Rise.{candidate_kind}
use Rattle.event_rules.specs.declared.change.Change.{Change}
use Rattle.cell_sequence.specs.Run.{opened, disks_of, acted, IsStateCandidate, IsCellNext}
use Rattle.cell_sequence.specs.Run.{CellSteps}
use Rattle.cell_sequence.specs.State.{CellStateData, IsCellState, last_stamp}
use Rattle.cell_sequence.specs.Laws.{IsTouched, CellStatesAreOrderly}
use Rattle.cell_sequence.proofs.Lists.{get_other, get_here}
use Rattle.cell_sequence.proofs.Acts.{disk_at, hits_as, set_all, fold_append}
use Rattle.cell_sequence.proofs.Settled.{IsSettled, Tracks}
use Rattle.cell_sequence.proofs.Next.{cell_candidate_before_end}
use Rattle.cell_sequence.proofs.After.{kind_decides, no_crossing}
use Rattle.cell_sequence.proofs.Hits.{turn, crossing_passes, opened_settled}
use Rattle.cell_sequence.proofs.Exists.{settled_after, candidate_in_range}

-- ---- reached states are settled
-- the stamp of the last of some actions, or else the one before them
last_or : Stamp → List Action → Stamp
last_or s [] = s
last_or s (x ∷ xs) = last_or (stamp_of x) xs

last_is : (s t : Stamp) (xs : List Action) → last_stamp xs ≡ Some t → last_or s xs ≡ t
unfolding last_or
last_is s t [] e = absurd (none-some t e)
last_is s t (x ∷ []) e = same_Some (stamp_of x) t e
last_is s t (x ∷ y ∷ xs) e = last_is (stamp_of x) t (y ∷ xs) e

steps_settle : (rules : Rules) (grid : GridData) (placed later : List Placed) (s : Stamp)
    (xs : List Action) → IsChecked rules → IsGridOf rules grid →
    IsSettled rules grid placed s → CellSteps rules grid placed xs later →
    IsSettled rules grid later (last_or s xs)
unfolding last_or
steps_settle rules grid placed later s [] checked of settled steps =
    subst (λ (v : List Placed). IsSettled rules grid v s) (sym steps) settled
steps_settle rules grid placed later s (x ∷ xs) checked of settled steps =
    steps_settle rules grid (acted placed x) later (stamp_of x) xs checked of
    (settled_after rules grid placed x
    (turn rules grid placed s x checked of settled steps.0 steps.1)) steps.2

-- a state with what settles it
pub record Known (state : CellStateData) : Type 0 where
  pub checked : IsChecked state.rules
  pub of : IsGridOf state.rules state.grid
  pub sizes : HasSizes state.grid
  pub from : Stamp
  pub settled : IsSettled state.rules state.grid state.placed from
  pub last : (s : Stamp) → state.last ≡ Some s → from ≡ s

pub known : (state : CellStateData) → IsCellState state → Known state
known state is =
    let xs = is.reached.0 in
    record {
      checked = is.scene.rules;
      of = is.grid;
      sizes = grids_have_sizes state.rules state.grid is.scene.rules is.grid;
      from = last_or first_stamp xs;
      settled = steps_settle state.rules state.grid
          (opened state.grid state.opening) state.placed first_stamp xs is.scene.rules is.grid
          (opened_settled state.grid
          (record {
            rules = state.rules;
            disks = state.opening;
            every =
                None;
          }) is.scene is.grid) is.reached.1;
      last = λ s e. last_is first_stamp s xs (sym is.reached.2 ∙ e);
    }

-- ---- what an action touches
cell_of_row : (rules : Rules) (grid : GridData) (p : Placed) (tick : ℕ) → HasSizes grid →
    Tracks rules grid p tick → IsCell grid p.cell
cell_of_row rules grid p tick sizes track = elim track.near [
  | inl here ↦ subst (IsCell grid) here.1 (places_have_cells grid (place_of p.disk tick) sizes)
  | inr was ↦ subst (IsCell grid) was.3.1 (places_have_cells grid (place_of p.disk was.0) sizes)
]

orderly_rows : (state : CellStateData) → Known state → (i : ℕ) (p : Placed) →
    slice_get state.placed i ≡ Some p → IsCell state.grid p.cell
orderly_rows state k i p at =
    cell_of_row state.rules state.grid p k.from.tick k.sizes (k.settled.tracks i p at)

-- a crossing touches only its disk's row
cross_touches : (grid : GridData) (placed : List Placed) (t : Stamp) (cell region i : ℕ)
    (p : Placed) → slice_get placed t.first ≡ Some p → Reaches grid region p.cell →
    Reaches grid region cell →
    (slice_get (acted placed (Cross t cell)) i ≡ slice_get placed i)
    ⊎ IsTouched grid placed (Cross t cell) region i
cross_touches grid placed t cell region i p at before after =
    let is : acted placed (Cross t cell) ≡ slice_set placed t.first
    (record { disk = p.disk; cell = cell }) =
    ap (λ (row : Option Placed). set_all placed (recelled t.first cell row)) at in
    elim (same_number i t.first) [
      | inr other ↦ inl (ap (λ (xs : List Placed). slice_get xs i) is
          ∙ get_other placed t.first i (record { disk = p.disk; cell = cell }) other)
      | inl same ↦ inr (
        p,
        record { disk = p.disk; cell = cell },
        ap (λ (n : ℕ). slice_get placed n) same ∙ at,
        ap (λ (xs : List Placed). slice_get xs i) is
            ∙ ap (slice_get (slice_set placed t.first (record { disk = p.disk; cell = cell }))) same
            ∙ get_here placed t.first (record { disk = p.disk; cell = cell }) p at,
        before,
        after,
      )
    ]

-- one record set in a row that is there
redisk_touches : (placed xs : List Placed) (j i : ℕ) (o : Option Disk) (row : Option Placed) →
    slice_get placed j ≡ row →
    ((p : Placed) → row ≡ Some p → (q : Placed) × (slice_get xs j ≡ Some q)) →
    (slice_get (set_all xs (redisked j o row)) i ≡ slice_get xs i)
    ⊎ ((p q : Placed) × (i ≡ j) × (slice_get placed j ≡ Some p)
    × (slice_get (set_all xs (redisked j o row)) i ≡ Some q) × (q.cell ≡ p.cell)
    × ((o ≡ None) → ⊥))
redisk_touches placed xs j i None row at there = inl refl
redisk_touches placed xs j i (Some a) None at there = inl refl
redisk_touches placed xs j i (Some a) (Some p) at there = elim (same_number i j) [
  | inr other ↦ inl (get_other xs j i (record { disk = a; cell = p.cell }) other)
  | inl same ↦
      let q = there p refl in
      inr (
        p,
        record { disk = a; cell = p.cell },
        same,
        at,
        ap (slice_get (slice_set xs j (record { disk = a; cell = p.cell }))) same
            ∙ get_here xs j (record { disk = a; cell = p.cell }) q.0 q.1,
        refl,
        λ e. none-some a (sym e),
      )
]

-- a row is still there after a record was set
still_there : (placed : List Placed) (i j : ℕ) (a : Disk) (row : Option Placed) →
    slice_get placed i ≡ row → (p : Placed) → slice_get placed j ≡ Some p →
    (q : Placed) × (slice_get (set_all placed (redisked i (Some a) row)) j ≡ Some q)
still_there placed i j a None at p there = (p, there)
still_there placed i j a (Some r) at p there = elim (same_number j i) [
  | inl same ↦ (
    record { disk = a; cell = r.cell },
    ap
        (slice_get (slice_set placed i (record { disk = a; cell = r.cell }))) same
        ∙ get_here placed i (record { disk = a; cell = r.cell }) r at,
  )
  | inr other ↦ (p, get_other placed i j (record { disk = a; cell = r.cell }) other ∙ there)
]

-- a collision touches only the rows of its disks, and not their cells
hit_touches : (grid : GridData) (placed : List Placed) (c : Change) (region i : ℕ) →
    ((p : Placed) → slice_get placed c.stamp.first ≡ Some p → Reaches grid region p.cell) →
    ((c.second ≡ None → ⊥) → (p : Placed) → slice_get placed c.stamp.second ≡ Some p →
    Reaches grid region p.cell) →
    (slice_get (acted placed (Hit c)) i ≡ slice_get placed i)
    ⊎ IsTouched grid placed (Hit c) region i
hit_touches grid placed c region i first second =
    let one = redisked c.stamp.first (Some c.first) (slice_get placed c.stamp.first) in
    let two = redisked c.stamp.second c.second (slice_get placed c.stamp.second) in
    let whole : slice_get (acted placed (Hit c)) i ≡ slice_get
    (set_all (set_all placed one) two) i =
    ap (λ (xs : List Placed). slice_get xs i) (fold_append placed one two) in
    let stage = redisk_touches placed placed c.stamp.first i (Some c.first)
    (slice_get placed c.stamp.first) refl (λ p e. (p, e)) in
    let last = redisk_touches placed (set_all placed one) c.stamp.second i c.second
    (slice_get placed c.stamp.second) refl
    (λ p e. still_there placed c.stamp.first c.stamp.second c.first
    (slice_get placed c.stamp.first) refl p e) in
    elim last [
      | inr touched ↦
          let p = touched.0 in
          let reach = second touched.6 p touched.3 in
          inr (
            p,
            touched.1,
            ap (slice_get placed) touched.2 ∙ touched.3,
            whole
                ∙ touched.4,
            reach,
            subst (λ (n : ℕ). Reaches grid region n) (sym touched.5) reach,
          )
      | inl kept ↦ elim stage [
        | inl same ↦ inl (whole ∙ kept ∙ same)
        | inr touched ↦
            let p = touched.0 in
            let reach = first p touched.3 in
            inr (
              p,
              touched.1,
              ap (slice_get placed) touched.2 ∙ touched.3,
              whole ∙ kept
                  ∙ touched.4,
              reach,
              subst (λ (n : ℕ). Reaches grid region n) (sym touched.5) reach,
            )
      ]
    ]

-- ---- the law
-- a collision with a second disk is a pair, whose cells are adjacent
pub pair_of : (rules : Rules) (grid : GridData) (placed : List Placed) (c : Change) →
    IsStateCandidate rules grid placed c.stamp → ¬ (c.stamp.kind ≡ Crossing) →
    IsNext rules (disks_of placed) c.stamp → ComesTo rules (disks_of placed) c.stamp (Ok c) →
    (c.second ≡ None → ⊥) → IsNearPair rules grid (slice_get placed) c.stamp
pair_of rules grid placed c h collision event comes some = elim h [
  | inl cross ↦ absurd (collision (ap (λ (v : Stamp). v.kind) cross.2.2))
  | inr found ↦ elim found [
    | inr pair ↦ pair
    | inl wall ↦ absurd (elim (ran rules (disks_of placed) c event.0 comes) [
      | inl one ↦ some (ap (λ (v : Change). v.second) one.change)
      | inr two ↦ kinds c.stamp.kind (ap (λ (v : Stamp). v.kind) wall.2.2)
          (ap (λ (v : Stamp). v.kind) two.event.2)
    ])
  ]
]
  where
    kinds : (k : Kind) → k ≡ Wall → k ≡ Pair → ⊥
    kinds Crossing e f = cc
    kinds Wall e f = cc
    kinds Pair e f = cc

-- the home reaches the disks of a collision
pub hit_in_reach : (state : CellStateData) → Known state → (c : Change) (region i : ℕ) (p : Placed) →
    IsRegion state.grid region → IsCellNext state.rules state.grid state.placed c.stamp →
    ActsAs state.rules state.grid (slice_get state.placed) c.stamp (Ok (Hit c)) →
    IsHome state.grid (slice_get state.placed) region c.stamp →
    (i ≡ c.stamp.first) ⊎ ((c.second ≡ None → ⊥) × (i ≡ c.stamp.second)) →
    slice_get state.placed i ≡ Some p → Reaches state.grid region p.cell
hit_in_reach state k c region i p within next acts home touches at = elim touches [
  | inl first ↦ own_is_in_reach state.grid region p.cell
      (owned p (ap (slice_get state.placed) (sym first) ∙ at))
  | inr second ↦
      let turned = turn state.rules state.grid state.placed k.from
      (Hit c) k.checked k.of k.settled next acts in
      let collision : ¬ (c.stamp.kind ≡ Crossing) =
      no_crossing c.stamp.kind (candidate_kind state.rules
      (disks_of state.placed) c.stamp turned.0.0) in
      let pair = pair_of state.rules state.grid state.placed c next.0 collision turned.0 turned.1
      second.0 in
      let a = pair.1.0 in
      let b = pair.1.2.0 in
      let same : b ≡ p = same_Some b p (sym pair.1.2.1 ∙ ap (slice_get state.placed) (sym second.1) ∙ at) in
      let near = subst (λ (q : Placed). IsAdjacent state.grid a.cell q.cell) same pair.1.2.2 in
      beside_reach state.grid region a.cell p.cell k.sizes within
      (orderly_rows state k c.stamp.first a pair.1.1)
      (orderly_rows state k i p at) (owned a pair.1.1) near
]
  where
    owned : (q : Placed) → slice_get state.placed c.stamp.first ≡ Some q →
        Owns state.grid region q.cell
    owned q at = subst (λ (r : Placed). Owns state.grid region r.cell)
        (same_Some home.0 q (sym home.1 ∙ at)) home.2

stays : (state : CellStateData) → Known state → (x : Action) (region i : ℕ) →
    IsRegion state.grid region → IsCellNext state.rules state.grid state.placed (stamp_of x) →
    ActsAs state.rules state.grid (slice_get state.placed) (stamp_of x) (Ok x) →
    IsHome state.grid (slice_get state.placed) region (stamp_of x) →
    (slice_get (acted state.placed x) i ≡ slice_get state.placed i)
    ⊎ IsTouched state.grid state.placed x region i
stays state k (Cross t cell) region i within next acts home = elim (kind_decides t.kind) [
  | inr collision ↦ absurd (not_hit
      (hits_as state.rules state.grid state.placed t (Ok (Cross t cell)) collision acts))
  | inl kind ↦
      let pass = crossing_passes state.rules state.grid state.placed k.from t
      (Ok (Cross t cell)) k.checked k.of k.settled next acts kind in
      let once = pass.0 in
      let cells : cell ≡ cell_at state.grid (place_of once.row.disk t.tick) = same_cell pass.1 in
      let same : home.0 ≡ once.row = same_Some home.0 once.row (sym home.1 ∙ once.at) in
      let own = subst (λ (p : Placed). Owns state.grid region p.cell) same home.2 in
      let first = orderly_rows state k t.first once.row once.at in
      let new : IsCell state.grid cell =
      subst (IsCell state.grid) (sym cells)
      (places_have_cells state.grid (place_of once.row.disk t.tick) k.sizes) in
      let near = subst (λ (c : ℕ). IsAdjacent state.grid once.row.cell c)
      (sym cells) once.adjacent in
      cross_touches state.grid state.placed t cell region i once.row once.at
      (own_is_in_reach state.grid region once.row.cell own)
      (beside_reach state.grid region once.row.cell cell k.sizes within first new own near)
]
  where
    same_cell : {m n : ℕ} → ◌≡◌ {A = Result Action Limit} (Ok (Cross t m)) (Ok (Cross t n)) → m ≡ n
    same_cell e = cc

    not_hit : ((q : Result Change Limit)
        × (◌≡◌ {A = Result Action Limit} (Ok (Cross t cell)) (hit_of q))
        × ComesTo state.rules (disks_of state.placed) t q) → ⊥
    not_hit h = by_result h.0 h.1
      where
        by_result : (q : Result Change Limit) →
            ◌≡◌ {A = Result Action Limit} (Ok (Cross t cell)) (hit_of q) → ⊥
        by_result (Ok c) e = cc
        by_result (Err l) e = cc
stays state k (Hit c) region i within next acts home = hit_touches state.grid state.placed c region i
    (λ p at. hit_in_reach state k c region c.stamp.first p within next acts home (inl refl) at)
    (λ some p at.
    hit_in_reach state k c region c.stamp.second p within next acts home (inr (some, refl)) at)

pub cell_states_are_orderly : CellStatesAreOrderly
cell_states_are_orderly state is =
    let k = known state is in record {
      records = k.settled.valid;
      rows = record {
        number = λ i p at. let lt =
            slice_get_within (disks_of state.placed) i p.disk (disk_at state.placed i p at) in
            let count = k.settled.valid.count in omega arith;
        disk = λ i p at. k.settled.valid.valid i p.disk (disk_at state.placed i p at);
        cell = orderly_rows state k;
      };
      after_last = λ last s e h. subst (λ (t : Stamp). Before t s) (k.last last e)
          (k.settled.after s h);
      before_end = λ s h. before_tick s (end_stamp state.rules.end)
          (cell_candidate_before_end state.rules state.grid state.placed s h);
      in_range = λ s h. candidate_in_range state.rules state.grid state.placed k.from s k.checked
          k.settled h;
      crosses = λ s r next kind acts.
          let pass = crossing_passes state.rules state.grid state.placed k.from s r k.checked k.of
          k.settled next acts kind in
          let once = pass.0 in (
            once.row,
            cell_at state.grid (place_of once.row.disk s.tick),
            once.at,
            pass.1,
            places_have_cells state.grid (place_of once.row.disk s.tick) k.sizes,
            once.adjacent,
          );
      stays = stays state k;
    }
