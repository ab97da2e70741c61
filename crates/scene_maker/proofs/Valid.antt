-- The disks of a made scene are inside the box, slow and apart.
use Rattle.std.proofs.Common.{◌≡◌, ap, refl, ℕ, ◌+◌, ◌*◌, ◌/◌, ◌%◌, ◌<◌, ◌≤◌, ◌⊎◌, inl, inr, pos, nat_abs, ◌-ℤ◌, ◌*ℤ◌, ◌<ℤ◌, arith}
use Rattle.std.proofs.lemmas.Int.{ints}
use Rattle.std.proofs.Math.Nat.{mul-le-mul, div-lt_iff_lt-mul, div-mul-le_self, div-add-mod, eq-or-lt_of_le}
use Rattle.std.proofs.lemmas.Nat.{le-div}
use Rattle.plane_vectors.specs.declared.Vector.{Vector}
use Rattle.plane_vectors.specs.Vectors.{vector, difference, dot}
use Rattle.plane_vectors.proofs.Directions.{length_is}
use Rattle.fixed_motion.specs.Rules.{IsChecked}
use Rattle.fixed_motion.specs.Motion.{half_of, IsInside, IsSlow, Overlaps, centre_of, velocity_of, contact_distance}
use Rattle.fixed_motion.specs.Scene.{IsAtStart}
use Rattle.scene_maker.specs.Made.{made_rules, made_disk}
use Rattle.scene_maker.proofs.Draws.{drawn_size}

half_of_diameter : half_of (pos 1024) ≡ pos 512
unfolding half_of
half_of_diameter = refl

pub rules_checked : (side : ℕ) → 1 ≤ side → side ≤ 256 → IsChecked (made_rules side)
rules_checked side h k = record {
  width = (omega (arith, ints), omega (arith, ints));
  height = (omega (arith, ints), omega (arith, ints));
  diameter = (omega (arith, ints), omega (arith, ints));
  diameter_in_height = omega (arith, ints);
  diameter_even = refl;
  speed_limit = (omega (arith, ints), omega (arith, ints));
  round_limit = (omega (arith, ints), omega (arith, ints));
  end = (omega (arith, ints), omega (arith, ints));
}

-- the rows are as many as the places in a row
row_below : (side index : ℕ) → 1 ≤ side → index < side * side → index / side < side
row_below side index h k = (div-lt_iff_lt-mul {k = side} {x = index} {y = side} h).1 k

disk_inside : (number side index : ℕ) → 1 ≤ side → index < side * side →
    IsInside (made_rules side) (made_disk number side index) (centre_of (made_disk number side index))
disk_inside number side index h k =
    let row : index / side < side = row_below side index h k in
    let column : index % side < side = omega arith in
    record {
      left = rw half_of_diameter (omega (arith, ints));
      right = rw half_of_diameter (omega (arith, ints));
      bottom = rw half_of_diameter (omega (arith, ints));
      top = rw half_of_diameter (omega (arith, ints));
    }

disk_slow : (number side index : ℕ) → IsSlow (made_rules side) (velocity_of (made_disk number side index))
disk_slow number side index =
    let first = drawn_size number (2 * index + 1) in
    let second = drawn_size number (2 * index + 2) in
    record { x = omega arith; y = omega arith }

pub disk_at_start : (number side index : ℕ) → 1 ≤ side → index < side * side →
    IsAtStart (made_rules side) (made_disk number side index)
disk_at_start number side index h k = record {
  valid = record {
    size = record { range = (omega (arith, ints), omega (arith, ints)); even = refl };
    centre = disk_inside number side index h k;
    velocity = disk_slow number side index;
    base = omega arith;
    mark = omega arith;
  };
  base = refl;
  mark = refl;
}

-- how far two places of a row or a column are apart
places_apart : (m n : ℕ) → m < n → 1024 ≤ nat_abs (pos (1024 + 2048 * m) -ℤ pos (1024 + 2048 * n))
places_apart m n h = omega (arith, ints)

-- what is as far away in one component is as far away
far_by_component : (v : Vector) (m : ℕ) → (m ≤ nat_abs v.x) ⊎ (m ≤ nat_abs v.y) → ¬ (dot v v <ℤ (pos m *ℤ pos m))
far_by_component v m (inl h) = λ near.
    let far : m * m ≤ nat_abs v.x * nat_abs v.x = mul-le-mul h h in
    let less = rw (length_is v) at near in
    omega (arith, ints)
far_by_component v m (inr h) = λ near.
    let far : m * m ≤ nat_abs v.y * nat_abs v.y = mul-le-mul h h in
    let less = rw (length_is v) at near in
    omega (arith, ints)

abbrev pub place_in : ℕ → ℕ → Vector
place_in side index = vector (pos (1024 + 2048 * (index % side))) (pos (1024 + 2048 * (index / side)))

-- a later index is further to the right or in a higher row
later_place : (side i j : ℕ) → 1 ≤ side → i < j → (i % side < j % side) ⊎ (i / side < j / side)
later_place side i j h k =
    let rows = div-mul-le_self i side in
    let row : i / side ≤ j / side = le-div (i / side) j side h (omega arith) in
    elim (eq-or-lt_of_le row) [ inl same ↦ inl (further same) | inr higher ↦ inr higher ]
  where
    further : i / side ≡ j / side → i % side < j % side
    further same =
        let first = div-add-mod i side in
        let second = div-add-mod j side in
        let rows : side * (i / side) ≡ side * (j / side) = ap (λ n. side * n) same in
        omega arith

far_places : (side i j : ℕ) (v : Vector) → v ≡ difference (place_in side i) (place_in side j) →
    (i % side < j % side) ⊎ (i / side < j / side) → (1024 ≤ nat_abs v.x) ⊎ (1024 ≤ nat_abs v.y)
far_places side i j v e (inl h) = inl (rw e (places_apart (i % side) (j % side) h))
far_places side i j v e (inr h) = inr (rw e (places_apart (i / side) (j / side) h))

pub disks_apart : (number side i j : ℕ) → 1 ≤ side → i < j →
    ¬ Overlaps (contact_distance (made_disk number side i) (made_disk number side j))
    (centre_of (made_disk number side i)) (centre_of (made_disk number side j))
disks_apart number side i j h k = λ near.
    let v = difference (place_in side i) (place_in side j) in
    far_by_component v 1024 (far_places side i j v refl (later_place side i j h k)) (rw half_of_diameter at near)
