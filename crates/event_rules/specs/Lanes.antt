-- Numbers side by side.
use Rattle.std.specs.Prelude.{◌≡◌, List, [], ◌∷◌, ℤ, FitsSigned, ◌+ℤ◌, ◌*ℤ◌}
use Rattle.std.specs.Int.{int_wrap, w64}
use Rattle.plane_vectors.specs.declared.Vector.{Vector}
use Rattle.plane_vectors.specs.Vectors.{vector}
use Rattle.fixed_motion.specs.declared.disk.Disk.{Disk}

-- two lanes hold these two numbers of 64 bits
pub record Hold (lanes : List ℤ) (m n : ℤ) : Type 0 where
  pub are : lanes ≡ m ∷ n ∷ []
  pub first : FitsSigned w64 m
  pub second : FitsSigned w64 n

-- the place of a disk this many ticks on, in 64 bits
abbrev pub wrapped_after : Disk → ℤ → Vector
wrapped_after a ticks = vector (int_wrap w64 (a.x +ℤ (a.vx *ℤ ticks))) (int_wrap w64 (a.y +ℤ (a.vy *ℤ ticks)))
