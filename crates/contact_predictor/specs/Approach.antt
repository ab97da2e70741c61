-- The squared gap of two disks on straight paths as a quadratic of the ticks.
use Rattle.std.specs.Prelude.{◌≡◌, ℕ, ◌*◌, ◌<◌, ◌≤◌, ◌^◌, ℤ, pos, nat_abs, ◌+ℤ◌, ◌*ℤ◌, ◌≤ℤ◌, ◌<ℤ◌}
use Rattle.plane_vectors.specs.declared.Vector.{Vector}
use Rattle.plane_vectors.specs.Vectors.{dot}
use Rattle.contact_predictor.specs.declared.approach.Approach.{Approach}
use Rattle.contact_predictor.specs.Contact.{gap}

-- the quadratic of two disks at the separation r with the relative velocity u
pub record IsApproachOf (r u : Vector) (distance : ℤ) (q : Approach) : Type 0 where
  pub square : q.square ≡ dot u u
  pub closing : q.closing ≡ dot r u
  pub gap : q.gap ≡ gap r distance

-- its three numbers fit 64 bits
pub record FitsApproach (r u : Vector) (distance : ℤ) : Type 0 where
  pub square : nat_abs (dot u u) < 2 ^ 63
  pub closing : nat_abs (dot r u) < 2 ^ 63
  pub gap : nat_abs (gap r distance) < 2 ^ 63

-- its numbers are as great as those of two disks in a box may be, at most
pub record IsFit (q : Approach) : Type 0 where
  pub not_negative : pos 0 ≤ℤ q.square
  pub square : nat_abs q.square ≤ 2 ^ 43
  pub closing : nat_abs q.closing ≤ 2 ^ 52
  pub gap : nat_abs q.gap ≤ 2 ^ 61

-- the disks approach, and the discriminant is positive
abbrev pub IsCourse : Approach → Type 0
IsCourse q = (q.closing <ℤ pos 0) × ((q.square *ℤ q.gap) <ℤ (q.closing *ℤ q.closing))

-- this many ticks are at most c / |b|, as the smaller root is
abbrev pub IsEarly : Approach → ℕ → Type 0
IsEarly q ticks = nat_abs q.closing * ticks ≤ nat_abs q.gap

-- the number b this many ticks later
abbrev pub closing_after : Approach → ℤ → ℤ
closing_after q ticks = q.closing +ℤ (q.square *ℤ ticks)

-- the number c this many ticks later
abbrev pub gap_after : Approach → ℤ → ℤ
gap_after q ticks = q.gap +ℤ ((q.closing +ℤ closing_after q ticks) *ℤ ticks)
