-- The last time that something holds, and when a disk leaves its cell.
use Rattle.std.proofs.Common.{◌≡◌, ◌↔◌, ◌⊎◌, inl, inr, ℕ, zero, suc, ◌+◌, ◌-◌, ◌*◌, ◌/◌, ◌%◌, ◌<◌, ◌≤◌, refl, sym, ap, ◌∙◌, subst, arith}
use Rattle.std.specs.Prelude.{Option, Some, None, IfSome, unwrap_or, ℤ}
use Rattle.std.proofs.lemmas.Bool.{cases_lt}
use Rattle.fixed_motion.specs.declared.rules.Rules.{Rules}
use Rattle.fixed_motion.specs.declared.disk.Disk.{Disk}
use Rattle.plane_vectors.specs.declared.Vector.{Vector}
use Rattle.fixed_motion.specs.Motion.{IsInside, IsValidDisk, centre_of, velocity_of, place_of}
use Rattle.fixed_motion.specs.Rules.{IsChecked}
use Rattle.fixed_motion.specs.Ticks.{sooner_of}
use Rattle.fixed_motion.proofs.Sizes.{inside_in_box, in_box_size, slow_size}
use Rattle.fixed_motion.proofs.TickNumbers.{none_sooner}
use Rattle.event_stamps.specs.declared.Stamp.{Stamp}
use Rattle.event_stamps.specs.Least.{HasNone, IsOnly}
use Rattle.cell_grid.specs.Grid.{GridData, HasSizes, cell_number, column_of, row_of}
use Rattle.cell_grid.specs.Crossing.{IsInCell, IsLeavingTick, IsCrossEvent, cross_stamp}
use Rattle.cell_grid.specs.declared.room.Room.{Room}
use Rattle.cell_grid.specs.Leaving.{IsFrom, EndsAt, IsWithinBounds, IsAcross, IsUpwards, IsInRoomAfter, IsRoomOf, IsSlowDisk}
use Rattle.cell_grid.proofs.Cells.{column_at, row_at}
use Rattle.cell_grid.proofs.Leaving.{one_leaving_tick, one_crossing}

-- what is from the sooner of two numbers on is from one of them on
from_sooner : (o p : Option ℕ) (n : ℕ) → IsFrom (sooner_of o p) n ↔ (IsFrom o n ⊎ IsFrom p n)
from_sooner None p n = (inr, λ from. elim from [ inl f ↦ absurd f | inr f ↦ f ])
from_sooner (Some m) None n = (inl, λ from. elim from [ inl f ↦ f | inr f ↦ absurd f ])
from_sooner (Some m) (Some k) n = grind arith

-- two facts together end where the first of them does
pub both_end : (P Q : ℕ → Type 0) (o p : Option ℕ) → EndsAt P o → EndsAt Q p → EndsAt (λ n. P n × Q n) (sooner_of o p)
both_end P Q o p h k = record {
  never = λ n from both. elim ((from_sooner o p n).0 from) [ inl f ↦ h.never n f both.0 | inr f ↦ k.never n f both.1 ];
  until = λ m n le not both. (
    h.until m n le (λ f. not ((from_sooner o p n).1 (inl f))) both.0,
    k.until m n le (λ f. not ((from_sooner o p n).1 (inr f))) both.1,
  );
  always = λ is m n both.
      let none = (none_sooner o p (sooner_of o p) refl).0 is in (h.always none.0 m n both.0, k.always none.1 m n both.1);
}

-- the sooner of two numbers up to a bound is up to it
pub sooner_within : (o p : Option ℕ) (most : ℕ) → IfSome o (λ n. n ≤ most) → IfSome p (λ n. n ≤ most) →
    IfSome (sooner_of o p) (λ n. n ≤ most)
sooner_within None p most h k = k
sooner_within (Some m) None most h k = h
sooner_within (Some m) (Some n) most h k = omega arith

-- the last number before the end, or any number if there is no end
abbrev pub last_of : Option ℕ → ℕ
last_of o = unwrap_or o 0 - 1

-- what doesn't hold at the last number before the end holds nowhere
nowhere : (P : ℕ → Type 0) (o : Option ℕ) → EndsAt P o → ¬ P (last_of o) → (n : ℕ) → ¬ P n
nowhere P None h not n here = not (h.always refl n 0 here)
nowhere P (Some zero) h not n here = h.never n (omega arith) here
nowhere P (Some (suc m)) h not n here = elim (cases_lt m n) [
  | inl lt ↦ h.never n (omega arith) here
  | inr le ↦ (let e : suc m - 1 ≡ m = omega arith in not (subst P (sym e) (h.until n m le (λ (over : suc m ≤ m). absurd (omega arith)) here)))
]

-- a disk that is in its cell at no tick has left it at its base tick
pub leaves_at_base : (rules : Rules) (grid : GridData) (a : Disk) (cell : ℕ) (room : Room) (o : Option ℕ) →
    IsRoomOf rules grid a cell room → EndsAt (IsInRoomAfter room a) o → ¬ IsInRoomAfter room a (last_of o) →
    IsLeavingTick rules grid a cell a.base
leaves_at_base rules grid a cell room o of h not = record {
  base = omega arith;
  left = λ t le here. nowhere (IsInRoomAfter room a) o h not (t - a.base) ((of (place_of a t)).1 here);
  first = λ t from lt left. absurd (omega arith);
}

-- a disk that stays in its cell never leaves it
pub never_leaves : (rules : Rules) (grid : GridData) (a : Disk) (cell : ℕ) (room : Room) →
    IsRoomOf rules grid a cell room → EndsAt (IsInRoomAfter room a) None → IsInRoomAfter room a 0 → (tick : ℕ) →
    ¬ IsLeavingTick rules grid a cell tick
never_leaves rules grid a cell room of h here tick leaving =
    leaving.left tick (omega arith) ((of (place_of a tick)).0 (h.always refl 0 (tick - a.base) here))

-- a disk that is in its cell at the last tick before the end leaves it at the end
pub leaves_at_end : (rules : Rules) (grid : GridData) (a : Disk) (cell : ℕ) (room : Room) (n : ℕ) →
    IsRoomOf rules grid a cell room → EndsAt (IsInRoomAfter room a) (Some n) → IsInRoomAfter room a (n - 1) →
    IsLeavingTick rules grid a cell (a.base + n)
leaves_at_end rules grid a cell room zero of h here = absurd (h.never 0 (omega arith) here)
leaves_at_end rules grid a cell room (suc m) of h here = record {
  base = omega arith;
  left = λ t le here. h.never (t - a.base) (omega arith) ((of (place_of a t)).1 here);
  first = λ t from lt left.
      let e : suc m - 1 ≡ (a.base + m) - a.base = omega arith in
      left (a.base + m) (omega arith) ((of (place_of a (a.base + m))).0 (subst (IsInRoomAfter room a) e here));
}

-- a valid disk is slow
pub slow_disk : (rules : Rules) (a : Disk) → IsChecked rules → IsValidDisk rules a → IsSlowDisk a
slow_disk rules a checked valid = record {
  centre = in_box_size (centre_of a) (inside_in_box rules a (centre_of a) checked valid.size valid.centre);
  velocity = slow_size rules (velocity_of a) checked valid.velocity;
}

-- ---- the two axes
-- a disk is in a cell if it is in its column and in its row
in_by_axes : (rules : Rules) (grid : GridData) (a : Disk) (cell : ℕ) → HasSizes grid → (place : Vector) →
    (IsAcross rules grid a cell place.x × IsUpwards rules grid a cell place.y) ↔ IsInCell rules grid a cell place
in_by_axes rules grid a cell sizes place = (
  λ h. (
    record { left = h.0.0.0; right = h.0.0.1; bottom = h.1.0.0; top = h.1.0.1 },
    (λ i. cell_number grid (h.0.1 i) (h.1.1 i)) ∙ again cell grid.columns,
  ),
  λ h.
      let column = sym (column_at grid place sizes) ∙ ap (column_of grid) h.1 in
      let row = sym (row_at grid place sizes) ∙ ap (row_of grid) h.1 in
      (((h.0.left, h.0.right), column), ((h.0.bottom, h.0.top), row)),
)
  where
    again : (n m : ℕ) → (n / m) * m + n % m ≡ n
    again n m = grind arith

-- so the places within the bounds of both axes are those in the cell
pub room_of : (rules : Rules) (grid : GridData) (a : Disk) (cell : ℕ) (room : Room) → HasSizes grid →
    ((n : ℤ) → IsWithinBounds room.across n ↔ IsAcross rules grid a cell n) →
    ((n : ℤ) → IsWithinBounds room.upwards n ↔ IsUpwards rules grid a cell n) → IsRoomOf rules grid a cell room
room_of rules grid a cell room sizes across upwards place =
    let both = in_by_axes rules grid a cell sizes place in (
      λ h. both.0 ((across place.x).0 h.0, (upwards place.y).0 h.1),
      λ h. let parts = both.1 h in ((across place.x).1 parts.0, (upwards place.y).1 parts.1),
    )

-- ---- the answer
-- the event at the leaving tick is the only one
pub only_crossing : (rules : Rules) (grid : GridData) (disk : ℕ) (a : Disk) (cell tick : ℕ) (s : Stamp) →
    IsLeavingTick rules grid a cell tick → IsInside rules a (place_of a tick) → tick < rules.end →
    s ≡ cross_stamp disk a tick →
    IsOnly (IsCrossEvent rules grid disk a cell) s
only_crossing rules grid disk a cell tick s leaving inside before e =
    let at : IsCrossEvent rules grid disk a cell s =
    subst (IsCrossEvent rules grid disk a cell) (sym e) (record { leaving = leaving; inside = inside }, before, refl) in
    (at, λ t h. one_crossing rules grid disk a cell s t at h)

-- no event if the disk isn't inside the box before the end when it leaves
pub no_crossing : (rules : Rules) (grid : GridData) (disk : ℕ) (a : Disk) (cell tick : ℕ) →
    IsLeavingTick rules grid a cell tick →
    (tick < rules.end → ¬ IsInside rules a (place_of a tick)) → HasNone (IsCrossEvent rules grid disk a cell)
no_crossing rules grid disk a cell tick leaving never s h =
    let e : s.tick ≡ tick = one_leaving_tick rules grid a cell tick s.tick leaving h.0.leaving in
    let before = h.1 in
    never (omega arith) (subst (λ (t : ℕ). IsInside rules a (place_of a t)) e h.0.inside)
