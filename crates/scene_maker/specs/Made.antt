-- The scene that is made from a number and a number of disks.
use Rattle.std.specs.Prelude.{◌≡◌, ℕ, zero, suc, ◌+◌, ◌*◌, ◌/◌, ◌%◌, ◌^◌, ◌<◌, ◌≤◌, ℤ, pos, ◌-ℤ◌, length, slice_get, Some, None}
use Rattle.fixed_motion.specs.declared.rules.Rules.{Rules}
use Rattle.fixed_motion.specs.declared.disk.Disk.{Disk}
use Rattle.fixed_motion.specs.Scene.{SceneData}

-- the least side, at least 1, of a square that has room for this many disks
pub record IsSide (count : ℕ) (side : ℕ) : Type 0 where
  pub some : 1 ≤ side
  pub room : count ≤ side * side
  pub least : (other : ℕ) → 1 ≤ other → count ≤ other * other → side ≤ other

-- the rules of a square with this side
abbrev pub made_rules : ℕ → Rules
made_rules side = record {
  width = pos (2048 * side);
  height = pos (2048 * side);
  diameter = pos 1024;
  speed_limit = pos 512;
  round_limit = 64;
  end = 1000;
}

-- the state of the generator, a linear congruential one, after this many draws
unfoldable pub state_after : ℕ → ℕ → ℕ
state_after number zero = number
state_after number (suc draws) = (6364136223846793005 * state_after number draws + 1442695040888963407) % 2 ^ 64

-- the velocity component that a draw gives, -64 to 64
abbrev pub drawn : ℕ → ℕ → ℤ
drawn number draws = pos (state_after number draws / 2 ^ 32 % 129) -ℤ pos 64

-- the i-th disk, at its place in the square, with the components of two draws of its own
abbrev pub made_disk : ℕ → ℕ → ℕ → Disk
made_disk number side i = record {
  x = pos (1024 + 2048 * (i % side));
  y = pos (1024 + 2048 * (i / side));
  vx = drawn number (2 * i + 1);
  vy = drawn number (2 * i + 2);
  size = pos 1024;
  base = 0;
  mark = 0;
}

-- this many disks on a square, with drawn velocities
pub record IsMade (number : ℕ) (count : ℕ) (scene : SceneData) : Type 0 where
  pub side : ℕ
  pub is_side : IsSide count side
  pub rules : scene.rules ≡ made_rules side
  pub length_is : length scene.disks ≡ count
  pub disks : (i : ℕ) → i < count → slice_get scene.disks i ≡ Some (made_disk number side i)
  pub every : scene.every ≡ None
