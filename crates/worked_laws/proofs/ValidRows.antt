-- The rows are valid scenes.
use Rattle.std.proofs.Common.{◌≡◌, ℕ, zero, suc, ◌<◌, ◌≤◌, [], ◌∷◌, Some, slice_get, refl, subst, arith}
use Rattle.std.specs.Prelude.{ℤ, pos, neg_ℤ, nat_abs, ◌<ℤ◌, ◌≤ℤ◌}
use Rattle.std.proofs.lemmas.Int.{ints}
use Rattle.std.proofs.lemmas.Option.{none-some, same_Some}
use Rattle.fixed_motion.specs.declared.disk.Disk.{Disk}
use Rattle.fixed_motion.specs.Motion.{half_of, Overlaps, centre_of, contact_distance}
use Rattle.fixed_motion.specs.Rules.{IsChecked}
use Rattle.fixed_motion.specs.Scene.{IsValidScene, IsAtStart}
use Rattle.worked_laws.specs.Rows.{box_until, disk_from, disk_at, meeting, scene_until}
use Rattle.worked_laws.specs.Pair.{pair_scene}
use Rattle.worked_laws.specs.Bounce.{bounce_disks}
use Rattle.worked_laws.specs.Texts.{states_scene}
use Rattle.worked_laws.specs.Others.{far_disks}
use Rattle.worked_laws.specs.Glance.{glance_scene}

checked : (end : ℕ) → end ≤ 5 → IsChecked (box_until end)
checked end few = record {
  width = (omega (arith, ints), omega (arith, ints));
  height = (omega (arith, ints), omega (arith, ints));
  diameter = (omega (arith, ints), omega (arith, ints));
  diameter_in_height = omega (arith, ints);
  diameter_even = refl;
  speed_limit = (omega (arith, ints), omega (arith, ints));
  round_limit = (omega (arith, ints), omega (arith, ints));
  end = (omega (arith, ints), omega (arith, ints));
}

starts : (end : ℕ) (x y vx vy : ℤ) → (pos 2 ≤ℤ x) × (x ≤ℤ pos 38) → (pos 2 ≤ℤ y) × (y ≤ℤ pos 18) → nat_abs vx ≤ 8 → nat_abs vy ≤ 8 →
    IsAtStart (box_until end) (disk_from x y vx vy 0 0)
unfolding half_of
starts end x y vx vy across up slow slow_up = record {
  valid = record {
    size = record { range = (omega (arith, ints), omega (arith, ints)); even = refl };
    centre = record { left = across.0; right = across.1; bottom = up.0; top = up.1 };
    velocity = record { x = slow; y = slow_up };
    base = omega arith;
    mark = omega arith;
  };
  base = refl;
  mark = refl;
}

at_start : (end : ℕ) (x v : ℤ) → pos 2 ≤ℤ x → x ≤ℤ pos 38 → nat_abs v ≤ 8 → IsAtStart (box_until end) (disk_at x v 0 0)
at_start end x v least most slow =
    starts end x (pos 10) v (pos 0) (least, most) (omega (arith, ints), omega (arith, ints)) slow (omega arith)

valid_alone : (x v : ℤ) → pos 2 ≤ℤ x → x ≤ℤ pos 38 → nat_abs v ≤ 8 → IsValidScene (scene_until 5 (disk_at x v 0 0 ∷ []))
valid_alone x v least most slow = record {
  rules = checked 5 (omega arith);
  count = omega arith;
  disks = by_number;
  apart = by_numbers;
  every = tt;
}
  where
    by_number : (i : ℕ) (a : Disk) → slice_get (disk_at x v 0 0 ∷ []) i ≡ Some a → IsAtStart (box_until 5) a
    by_number zero a at = subst (IsAtStart (box_until 5)) (same_Some _ _ at) (at_start 5 x v least most slow)
    by_number (suc i) a at = absurd (none-some a at)

    by_numbers : (i j : ℕ) (a b : Disk) → i < j → slice_get (disk_at x v 0 0 ∷ []) i ≡ Some a →
        slice_get (disk_at x v 0 0 ∷ []) j ≡ Some b → ¬ Overlaps (contact_distance a b) (centre_of a) (centre_of b)
    by_numbers i zero a b less at other = absurd (omega arith)
    by_numbers i (suc j) a b less at other = absurd (none-some b other)

ten_apart : (v : ℤ) → ¬ Overlaps (contact_distance (disk_at (pos 10) v 0 0) (disk_at (pos 20) (neg_ℤ v) 0 0))
    (centre_of (disk_at (pos 10) v 0 0)) (centre_of (disk_at (pos 20) (neg_ℤ v) 0 0))
unfolding half_of
ten_apart v h = let below : pos 100 <ℤ pos 16 = h in omega (arith, ints)

valid_two : (end : ℕ) (x y : Disk) → end ≤ 5 → IsAtStart (box_until end) x → IsAtStart (box_until end) y →
    ¬ Overlaps (contact_distance x y) (centre_of x) (centre_of y) → IsValidScene (scene_until end (x ∷ y ∷ []))
valid_two end x y few first second apart = record {
  rules = checked end few;
  count = omega arith;
  disks = by_number;
  apart = by_numbers;
  every = tt;
}
  where
    by_number : (i : ℕ) (a : Disk) → slice_get (x ∷ y ∷ []) i ≡ Some a → IsAtStart (box_until end) a
    by_number zero a at = subst (IsAtStart (box_until end)) (same_Some _ _ at) first
    by_number (suc zero) a at = subst (IsAtStart (box_until end)) (same_Some _ _ at) second
    by_number (suc (suc i)) a at = absurd (none-some a at)

    by_numbers : (i j : ℕ) (a b : Disk) → i < j → slice_get (x ∷ y ∷ []) i ≡ Some a →
        slice_get (x ∷ y ∷ []) j ≡ Some b → ¬ Overlaps (contact_distance a b) (centre_of a) (centre_of b)
    by_numbers zero (suc zero) a b less at other =
        subst (λ (d : Disk). ¬ Overlaps (contact_distance d b) (centre_of d) (centre_of b)) (same_Some _ _ at)
        (subst (λ (d : Disk). ¬ Overlaps (contact_distance x d) (centre_of x) (centre_of d)) (same_Some _ _ other) apart)
    by_numbers i zero a b less at other = absurd (omega arith)
    by_numbers (suc i) (suc zero) a b less at other = absurd (omega arith)
    by_numbers i (suc (suc j)) a b less at other = absurd (none-some b other)

pub valid_meeting : (end : ℕ) (v : ℤ) → end ≤ 5 → nat_abs v ≤ 8 → IsValidScene (scene_until end (meeting v))
valid_meeting end v few slow =
    valid_two end (disk_at (pos 10) v 0 0) (disk_at (pos 20) (neg_ℤ v) 0 0) few
    (at_start end (pos 10) v (omega (arith, ints)) (omega (arith, ints)) slow)
    (at_start end (pos 20) (neg_ℤ v) (omega (arith, ints)) (omega (arith, ints)) back) (ten_apart v)
  where
    back : nat_abs (neg_ℤ v) ≤ 8
    back = omega (arith, ints)

-- the two that start far from each other
abbrev pub left : Disk
left = disk_at (pos 10) (pos 8) 0 0

abbrev pub right : Disk
right = disk_at (pos 30) (neg_ℤ (pos 8)) 0 0

pub far_valid : IsValidScene (scene_until 1 far_disks)
unfolding half_of
far_valid = valid_two 1 left right (omega arith)
    (at_start 1 (pos 10) (pos 8) (omega (arith, ints)) (omega (arith, ints)) (omega arith))
    (at_start 1 (pos 30) (neg_ℤ (pos 8)) (omega (arith, ints)) (omega (arith, ints)) (omega arith)) apart
  where
    apart : pos 400 <ℤ pos 16 → ⊥
    apart h = omega (arith, ints)

pub glance_valid : IsValidScene glance_scene
unfolding half_of
glance_valid = valid_two 5 (disk_from (pos 10) (pos 6) (pos 2) (pos 0) 0 0) (disk_from (pos 17) (pos 3) (pos 0) (pos 0) 0 0) (omega arith)
    (starts 5 (pos 10) (pos 6) (pos 2) (pos 0) (omega (arith, ints), omega (arith, ints)) (omega (arith, ints), omega (arith, ints)) (omega arith) (omega arith))
    (starts 5 (pos 17) (pos 3) (pos 0) (pos 0) (omega (arith, ints), omega (arith, ints)) (omega (arith, ints), omega (arith, ints)) (omega arith) (omega arith)) apart
  where
    apart : pos 58 <ℤ pos 16 → ⊥
    apart h = omega (arith, ints)

pub pair_valid : IsValidScene pair_scene
pair_valid = valid_meeting 5 (pos 1) (omega arith) (omega arith)

pub bounce_valid : IsValidScene (scene_until 5 bounce_disks)
bounce_valid = valid_alone (pos 37) (pos 2) (omega (arith, ints)) (omega (arith, ints)) (omega arith)

-- with the states of each second tick
pub states_valid : IsValidScene states_scene
states_valid = record {
  rules = pair_valid.rules;
  count = pair_valid.count;
  disks = pair_valid.disks;
  apart = pair_valid.apart;
  every = (omega arith, omega arith);
}
