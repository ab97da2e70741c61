-- The unsigned comparison that tells whether a disk is between the ends of a side.
use Rattle.std.proofs.Common.{◌≡◌, ◌↔◌, ℕ, ◌-◌, ◌*◌, ◌%◌, ◌^◌, ◌≤◌, arith, of_z}
use Rattle.std.specs.Prelude.{ℤ, pos, negsuc, nat_abs, ◌+ℤ◌, ◌-ℤ◌, ◌*ℤ◌, ◌≤ℤ◌}
use Rattle.std.specs.Int.{w64}
use Rattle.std.proofs.lemmas.Int.{ints}
use Rattle.plane_vectors.proofs.Sizes.{size_of_product}
use Rattle.fixed_motion.specs.Motion.{half_of}
use Rattle.contact_predictor.specs.Contact.{IsBetween, coordinate_after}
use Rattle.event_rules.proofs.Leads.{two_halves}

-- a number below 0 is greater than each side, without its sign
unsigned_up_to : (n m : ℤ) → nat_abs n ≤ 2 ^ 63 - 1 → pos 0 ≤ℤ m → m ≤ℤ pos 1073741824 →
    (of_z w64 n ≤ of_z w64 m) ↔ IsBetween (pos 0) m n
unsigned_up_to (pos n) (pos m) fits least most = (λ h. (omega (arith, ints), omega (arith, ints)), λ h. let up = h.1 in omega (arith, ints))
unsigned_up_to (negsuc n) (pos m) fits least most = (λ h. absurd (omega (arith, ints)), λ h. let low = h.0 in absurd (omega (arith, ints)))
unsigned_up_to n (negsuc m) fits least most = absurd (omega (arith, ints))

-- less half the size, it is at most the side less the size
pub between_ends : (size side n : ℤ) → pos 2 ≤ℤ size → nat_abs size % 2 ≡ 0 → size ≤ℤ side → side ≤ℤ pos 1073741824 →
    nat_abs n ≤ 2 ^ 62 →
    (of_z w64 (n -ℤ half_of size) ≤ of_z w64 (side -ℤ size)) ↔ IsBetween (half_of size) (side -ℤ half_of size) n
between_ends size side n least even fits most near =
    turned (half_of size) (two_halves size least even)
  where
    turned : (r : ℤ) → r +ℤ r ≡ size → (of_z w64 (n -ℤ r) ≤ of_z w64 (side -ℤ size)) ↔ IsBetween r (side -ℤ r) n
    turned r two =
        let told = unsigned_up_to (n -ℤ r) (side -ℤ size) (omega (arith, ints)) (omega (arith, ints)) (omega (arith, ints)) in (
          λ h. let within = told.0 h in let low = within.0 in let high = within.1 in (omega (arith, ints), omega (arith, ints)),
          λ h. let low = h.0 in let high = h.1 in told.1 (omega (arith, ints), omega (arith, ints)),
        )

-- a size is at least twice its half
pub half_small : (size side : ℤ) → pos 2 ≤ℤ size → nat_abs size % 2 ≡ 0 → size ≤ℤ side → side ≤ℤ pos 1073741824 →
    nat_abs (half_of size) ≤ 2 ^ 30
half_small size side least even fits most = small (half_of size) (two_halves size least even)
  where
    small : (r : ℤ) → r +ℤ r ≡ size → nat_abs r ≤ 2 ^ 30
    small r two = omega (arith, ints)

-- how far a disk gets in a run
pub near_after : (x v : ℤ) (ticks : ℕ) → nat_abs x ≤ 2 ^ 30 → nat_abs v ≤ 2 ^ 20 → ticks ≤ 2 ^ 40 →
    nat_abs (coordinate_after x v ticks) ≤ 2 ^ 62
near_after x v ticks near slow few =
    let way = size_of_product v (pos ticks) (2 ^ 20) (2 ^ 40) slow few in
    sum x (v *ℤ pos ticks) near way
  where
    sum : (x w : ℤ) → nat_abs x ≤ 2 ^ 30 → nat_abs w ≤ 2 ^ 20 * 2 ^ 40 → nat_abs (x +ℤ w) ≤ 2 ^ 62
    sum x w near way = omega (arith, ints)
