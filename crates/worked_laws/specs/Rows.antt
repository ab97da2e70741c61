-- The box of all rows, and its disks.
use Rattle.std.specs.Prelude.{ℕ, ℤ, pos, neg_ℤ, List, [], ◌∷◌, None}
use Rattle.plane_vectors.specs.declared.Vector.{Vector}
use Rattle.fixed_motion.specs.declared.rules.Rules.{Rules}
use Rattle.fixed_motion.specs.declared.disk.Disk.{Disk}
use Rattle.fixed_motion.specs.Motion.{FitsAt, Overlaps}
use Rattle.fixed_motion.specs.Scene.{SceneData}
use Rattle.event_rules.specs.declared.outcome.Spot.{Spot}

-- 40 units wide and 20 high, with disks of diameter 4, a speed limit of 8 and a round limit of 8, up to this tick
abbrev pub box_until : ℕ → Rules
box_until end = record { width = pos 40; height = pos 20; diameter = pos 4; speed_limit = pos 8; round_limit = 8; end = end }

-- a disk at this x and y, with this velocity, as its last event left it, or the start
abbrev pub disk_from : ℤ → ℤ → ℤ → ℤ → ℕ → ℕ → Disk
disk_from x y vx vy base mark = record { x = x; y = y; vx = vx; vy = vy; size = pos 4; base = base; mark = mark }

-- one 10 units from the bottom, with this velocity to the right
abbrev pub disk_at : ℤ → ℤ → ℕ → ℕ → Disk
disk_at x vx base mark = disk_from x (pos 10) vx (pos 0) base mark

-- the same at the end
abbrev pub spot_at : ℤ → ℤ → Spot
spot_at x vx = record { x = x; y = pos 10; vx = vx; vy = pos 0 }

-- two disks, at x = 10 to the right and at x = 20 to the left, at the same speed
abbrev pub meeting : ℤ → List Disk
meeting speed = disk_at (pos 10) speed 0 0 ∷ disk_at (pos 20) (neg_ℤ speed) 0 0 ∷ []

-- the scene of such a box and these disks
abbrev pub scene_until : ℕ → List Disk → SceneData
scene_until end disks = record { rules = box_until end; disks = disks; every = None }

-- two such disks at these places are in the box, and don't overlap
pub record FitTogether (p q : Vector) : Type 0 where
  pub first : FitsAt (box_until 5) (pos 2) p
  pub second : FitsAt (box_until 5) (pos 2) q
  pub apart : ¬ Overlaps (pos 4) p q
