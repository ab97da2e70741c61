-- When a disk that was in a cell leaves it.
use Rattle.std.proofs.Common.{◌≡◌, ◌⊎◌, inl, inr, ℕ, suc, ◌+◌, ◌-◌, ◌*◌, ◌<◌, ◌≤◌, refl, sym, ap, ◌∙◌, subst, arith}
use Rattle.std.specs.Prelude.{ℤ, pos, negsuc, nat_abs, ◌+ℤ◌, ◌-ℤ◌, ◌≤ℤ◌}
use Rattle.std.proofs.lemmas.Int.{ints}
use Rattle.std.proofs.Math.Nat.{mul-le-mul_left}
use Rattle.std.proofs.lemmas.Bool.{cases_lt}
use Rattle.fixed_motion.specs.declared.rules.Rules.{Rules}
use Rattle.fixed_motion.specs.declared.disk.Disk.{Disk}
use Rattle.fixed_motion.specs.Rules.{IsChecked}
use Rattle.fixed_motion.specs.Motion.{IsInside, IsSize, place_of, radius_of}
use Rattle.fixed_motion.proofs.Sizes.{inside_x, inside_y}
use Rattle.contact_predictor.specs.Contact.{coordinate_after}
use Rattle.contact_predictor.proofs.Approaching.{coordinate_next}
use Rattle.cell_grid.specs.Grid.{GridData, least_side, along, cell_at, IsBeside, column_of, row_of}
use Rattle.cell_grid.specs.Crossing.{IsInCell, HasLeft, IsLeavingTick, cross_stamp}
use Rattle.cell_grid.specs.Laws.{MovesToAdjacent, LeavesAfterLast, CrossesLater, OneCrossing}
use Rattle.cell_grid.proofs.Along as columns
use Rattle.cell_grid.proofs.Cells.{IsSound, column_at, row_at, sound as sound_grid}

-- ---- between two ticks
-- a coordinate between two others
LiesBetween : ℤ → ℤ → ℤ → Type 0
LiesBetween m k n = ((m ≤ℤ k) × (k ≤ℤ n)) ⊎ ((n ≤ℤ k) × (k ≤ℤ m))

way_between : (x v : ℤ) (s t u : ℕ) → s ≤ t → t ≤ u →
    LiesBetween (coordinate_after x v s) (coordinate_after x v t) (coordinate_after x v u)
unfolding LiesBetween
way_between x (pos k) s t u p q = inl (omega (arith, ints, mul-le-mul_left k p), omega (arith, ints, mul-le-mul_left k q))
way_between x (negsuc k) s t u p q = inr (omega (arith, ints, mul-le-mul_left (suc k) q), omega (arith, ints, mul-le-mul_left (suc k) p))

between_bounds : (lo hi m k n : ℤ) → LiesBetween m k n → lo ≤ℤ m → m ≤ℤ hi → lo ≤ℤ n → n ≤ℤ hi → (lo ≤ℤ k) × (k ≤ℤ hi)
unfolding LiesBetween
between_bounds lo hi m k n (inl h) a b c d = let p = h.0 in let q = h.1 in (omega (arith, ints), omega (arith, ints))
between_bounds lo hi m k n (inr h) a b c d = let p = h.0 in let q = h.1 in (omega (arith, ints), omega (arith, ints))

same_column : (side count : ℕ) (m k n : ℤ) → 1 ≤ side → LiesBetween m k n → pos 1 ≤ℤ m → pos 1 ≤ℤ k → pos 1 ≤ℤ n →
    along side count m ≡ along side count n →
    along side count k ≡ along side count m
unfolding LiesBetween
same_column side count m k n some (inl h) hm hk hn e =
    let p = h.0 in let q = h.1 in
    columns.between side count (along side count m) (nat_abs m) (nat_abs k) (nat_abs n) some (omega (arith, ints)) (omega (arith, ints)) refl (sym e)
same_column side count m k n some (inr h) hm hk hn e =
    let p = h.0 in let q = h.1 in
    columns.between side count (along side count m) (nat_abs n) (nat_abs k) (nat_abs m) some (omega (arith, ints)) (omega (arith, ints)) (sym e) refl

-- a disk that is in a cell at two ticks is in it between
in_between : (rules : Rules) (grid : GridData) (a : Disk) (cell s t u : ℕ) → IsChecked rules → IsSound rules grid →
    IsSize rules a.size → a.base ≤ s → s ≤ t → t ≤ u →
    IsInCell rules grid a cell (place_of a s) → IsInCell rules grid a cell (place_of a u) → IsInCell rules grid a cell (place_of a t)
in_between rules grid a cell s t u checked sound size base p q hs hu =
    let bx = way_between a.x a.vx (s - a.base) (t - a.base) (u - a.base) (omega arith) (omega arith) in
    let by = way_between a.y a.vy (s - a.base) (t - a.base) (u - a.base) (omega arith) (omega arith) in
    let ix =
    between_bounds (radius_of a) (rules.width -ℤ radius_of a) _ _ _ bx hs.0.left hs.0.right hu.0.left hu.0.right in
    let iy =
    between_bounds (radius_of a) (rules.height -ℤ radius_of a) _ _ _ by hs.0.bottom hs.0.top hu.0.bottom hu.0.top in
    let inside : IsInside rules a (place_of a t) = record { left = ix.0; right = ix.1; bottom = iy.0; top = iy.1 } in
    let cells : cell_at grid (place_of a s) ≡ cell_at grid (place_of a u) = hs.1 ∙ sym hu.1 in
    let cx : along grid.side_x grid.columns (place_of a s).x ≡ along grid.side_x grid.columns (place_of a u).x =
    sym (column_at grid (place_of a s) sound.sizes) ∙ ap (column_of grid) cells ∙ column_at grid (place_of a u) sound.sizes in
    let cy : along grid.side_y grid.rows (place_of a s).y ≡ along grid.side_y grid.rows (place_of a u).y =
    sym (row_at grid (place_of a s) sound.sizes) ∙ ap (row_of grid) cells ∙ row_at grid (place_of a u) sound.sizes in
    let from_x = inside_x rules a _ checked size hs.0 in
    let at_x = inside_x rules a _ checked size inside in
    let to_x = inside_x rules a _ checked size hu.0 in
    let x =
    same_column grid.side_x grid.columns _ _ _ sound.sizes.side_x bx from_x.least at_x.least to_x.least cx in
    let from_y = inside_y rules a _ checked size hs.0 in
    let at_y = inside_y rules a _ checked size inside in
    let to_y = inside_y rules a _ checked size hu.0 in
    let y =
    same_column grid.side_y grid.rows _ _ _ sound.sizes.side_y by from_y.least at_y.least to_y.least cy in
    (inside, (λ i. y i * grid.columns + x i) ∙ hs.1)

-- a disk that was in a cell at a tick and isn't at the next never is again
pub left_for_good : (rules : Rules) (grid : GridData) (a : Disk) (cell tick : ℕ) → IsChecked rules →
    IsSound rules grid → IsSize rules a.size → a.base ≤ tick →
    IsInCell rules grid a cell (place_of a tick) → ¬ IsInCell rules grid a cell (place_of a (tick + 1)) → HasLeft rules grid a cell (tick + 1)
left_for_good rules grid a cell tick checked sound size base here gone t le back =
    gone (in_between rules grid a cell tick (tick + 1) t checked sound size base (omega arith) le here back)

-- that is its crossing tick, if it is still inside the box then
pub leaves_after_last : LeavesAfterLast
leaves_after_last rules grid a cell tick checked of valid base here gone inside = record {
  leaving = record {
    base = omega arith;
    left = left_for_good rules grid a cell tick checked (sound_grid rules grid checked of) valid.size base here gone;
    first = λ t from lt left. left tick (omega arith) here;
  };
  inside = inside;
}

pub crosses_later : CrossesLater
crosses_later rules grid a cell tick t here cross = elim (cases_lt tick t) [
  | inl lt ↦ lt
  | inr le ↦ absurd (cross.leaving.left tick le here)
]

-- there is one leaving tick at most
pub one_leaving_tick : (rules : Rules) (grid : GridData) (a : Disk) (cell s t : ℕ) →
    IsLeavingTick rules grid a cell s → IsLeavingTick rules grid a cell t → t ≡ s
one_leaving_tick rules grid a cell s t h k =
    let not_before : ¬ (s < t) = λ lt. k.first s h.base lt h.left in
    let not_after : ¬ (t < s) = λ lt. h.first t k.base lt k.left in
    omega arith

pub one_crossing : OneCrossing
one_crossing rules grid disk a cell s t h k =
    let e : t.tick ≡ s.tick = one_leaving_tick rules grid a cell s.tick t.tick h.0.leaving k.0.leaving in
    (k.2 ∙ ap (cross_stamp disk a) e) ∙ sym h.2

-- ---- one tick
-- in one tick a slow disk stays in its column or goes to the next
beside_next : (side count : ℕ) (x v : ℤ) → 1 ≤ side → 1 ≤ count → nat_abs v ≤ side ⊎ (count ≡ 1) → pos 1 ≤ℤ x →
    pos 1 ≤ℤ (x +ℤ v) →
    IsBeside (along side count x) (along side count (x +ℤ v))
beside_next side count x v some one slow hx hn = elim slow [
  | inr only ↦
      let a = columns.below_count side count (nat_abs x) one in
      let b = columns.below_count side count (nat_abs (x +ℤ v)) one in
      (omega arith, omega arith)
  | inl short ↦ elim (cases_lt (nat_abs (x +ℤ v)) (nat_abs x)) [
    | inl lt ↦
        let up = columns.rises side count (nat_abs (x +ℤ v)) (nat_abs x) some (omega arith) in
        let down =
        columns.near side count (nat_abs (x +ℤ v)) (nat_abs x) some one (omega arith) (omega (arith, ints)) in
        (omega arith, omega arith)
    | inr le ↦
        let up = columns.rises side count (nat_abs x) (nat_abs (x +ℤ v)) some le in
        let down = columns.near side count (nat_abs x) (nat_abs (x +ℤ v)) some one le (omega (arith, ints)) in
        (omega arith, omega arith)
  ]
]

-- if there are two columns or more, the way of a tick isn't more than the side of a cell
short : (rules : Rules) (count side : ℕ) (v : ℤ) → 1 ≤ count → (2 ≤ count → least_side rules ≤ side) →
    nat_abs v ≤ nat_abs rules.speed_limit →
    nat_abs v ≤ side ⊎ (count ≡ 1)
short rules count side v one wide slow = elim (one_or_more count one) [
  | inl two ↦ inl (let long : nat_abs rules.diameter + 2 * nat_abs rules.speed_limit ≤ side = wide two in omega arith)
  | inr only ↦ inr only
]
  where
    one_or_more : (count : ℕ) → 1 ≤ count → (2 ≤ count) ⊎ (count ≡ 1)
    one_or_more count h = grind arith

pub moves_to_adjacent : MovesToAdjacent
moves_to_adjacent rules grid a tick checked of valid base here next =
    let p = place_of a tick in
    let q = place_of a (tick + 1) in
    let sound = sound_grid rules grid checked of in
    let sizes = sound.sizes in
    let ex = coordinate_next a.x a.vx a.base tick base in
    let ey = coordinate_next a.y a.vy a.base tick base in
    let hx = subst (λ (n : ℤ). pos 1 ≤ℤ n) ex (inside_x rules a q checked valid.size next).least in
    let hy = subst (λ (n : ℤ). pos 1 ≤ℤ n) ey (inside_y rules a q checked valid.size next).least in
    let slow_x = short rules grid.columns grid.side_x a.vx sizes.columns sound.wide valid.velocity.x in
    let slow_y = short rules grid.rows grid.side_y a.vy sizes.rows sound.high valid.velocity.y in
    let x =
    beside_next grid.side_x grid.columns p.x a.vx sizes.side_x sizes.columns slow_x (inside_x rules a p checked valid.size here).least hx in
    let y = beside_next grid.side_y grid.rows p.y a.vy sizes.side_y sizes.rows slow_y (inside_y rules a p checked valid.size here).least hy in (
      rw (column_at grid p sizes, column_at grid q sizes)
          (subst (λ (n : ℤ). IsBeside (along grid.side_x grid.columns p.x) (along grid.side_x grid.columns n)) (sym ex) x),
      rw (row_at grid p sizes, row_at grid q sizes)
          (subst (λ (n : ℤ). IsBeside (along grid.side_y grid.rows p.y) (along grid.side_y grid.rows n)) (sym ey) y),
    )
