-- The side of the smallest square with room for this many disks.
use Rattle.std.proofs.Common.{◌≡◌, ℕ, zero, suc, ◌*◌, ◌<◌, ◌≤◌, ◌⊎◌, inl, inr, arith}
use Rattle.std.proofs.lemmas.Bool.{cases_lt}
use Rattle.std.proofs.Math.Nat.{eq-or-lt_of_le}
use Rattle.scene_maker.specs.Made.{IsSide}

-- a square of 256 has room for this many
pub side_most : (count side : ℕ) → count ≤ 65536 → IsSide count side → side ≤ 256
side_most count side h k = k.least 256 (omega arith) (omega arith)

abbrev pub NoneUpTo : ℕ → ℕ → Type 0
NoneUpTo count most = (other : ℕ) → 1 ≤ other → other ≤ most → other * other < count

one_more : (count most : ℕ) → NoneUpTo count most → suc most * suc most < count → NoneUpTo count (suc most)
one_more count most none here other some below =
    elim (eq-or-lt_of_le below) [ inl same ↦ rw same here | inr less ↦ none other some (omega arith) ]

least_so_far : (count most : ℕ) → NoneUpTo count most → count ≤ suc most * suc most → IsSide count (suc most)
least_so_far count most none room = record {
  some = omega arith;
  room = room;
  least = λ other some enough. elim (cases_lt most other) [ inl above ↦ above | inr below ↦ absurd (smaller other some enough below) ];
}
  where
    smaller : (other : ℕ) → 1 ≤ other → count ≤ other * other → other ≤ most → ⊥
    smaller other some enough below = let less = none other some below in omega arith

-- the side, or none so far
side_up_to : (count most : ℕ) → ((side : ℕ) × IsSide count side) ⊎ NoneUpTo count most
side_up_to count zero = inr (λ other some none. absurd (omega arith))
side_up_to count (suc most) =
    elim (side_up_to count most) [
      | inl found ↦ inl found
      | inr none ↦ elim (cases_lt (suc most * suc most) count) [
        | inl here ↦ inr (one_more count most none here)
        | inr room ↦ inl (suc most, least_so_far count most none room)
      ]
    ]

pub side_of : (count : ℕ) → count ≤ 65536 → (side : ℕ) × IsSide count side
side_of count h =
    elim (side_up_to count 256) [ inl found ↦ found | inr none ↦ absurd (too_many (none 256 (omega arith) (omega arith))) ]
  where
    too_many : 256 * 256 < count → ⊥
    too_many k = omega arith

pub same_side : (count m n : ℕ) → IsSide count m → IsSide count n → m ≡ n
same_side count m n h k =
    let first : m ≤ n = h.least n k.some k.room in
    let second : n ≤ m = k.least m h.some h.room in
    omega arith
