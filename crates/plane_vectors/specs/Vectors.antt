-- Vectors in the plane: sums, differences, scalar products, and places of points that move.
use Rattle.std.specs.Prelude.{ℕ, ◌≤◌, ℤ, pos, ◌+ℤ◌, ◌-ℤ◌, ◌*ℤ◌, nat_abs}
use Rattle.plane_vectors.specs.declared.Vector.{Vector}

-- the vector with these components
abbrev pub vector : ℤ → ℤ → Vector
vector x y = record { x = x; y = y }

-- the sum of two vectors
abbrev pub sum : Vector → Vector → Vector
sum a b = vector (a.x +ℤ b.x) (a.y +ℤ b.y)

-- the first vector less the second
abbrev pub difference : Vector → Vector → Vector
difference a b = vector (a.x -ℤ b.x) (a.y -ℤ b.y)

-- the scalar product
abbrev pub dot : Vector → Vector → ℤ
dot a b = (a.x *ℤ b.x) +ℤ (a.y *ℤ b.y)

-- the place of a point that starts here and moves with this velocity for this many ticks
abbrev pub after : Vector → Vector → ℕ → Vector
after start velocity ticks = vector (start.x +ℤ (velocity.x *ℤ pos ticks)) (start.y +ℤ (velocity.y *ℤ pos ticks))

-- neither component is greater in size than this
pub record IsWithin (most : ℕ) (a : Vector) : Type 0 where
  pub x : nat_abs a.x ≤ most
  pub y : nat_abs a.y ≤ most
