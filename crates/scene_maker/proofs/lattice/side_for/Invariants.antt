-- No smaller square has room.
use Rattle.std.proofs.Common.{ℕ, ◌*◌, ◌<◌, ◌≤◌, ◌-◌}
use Rattle.scene_maker.proofs.lattice.side_for.Given as goal

abbrev pub invariant-loop-side : goal.invariant-loop-side
invariant-loop-side l = (1 ≤ l.side) × (l.side ≤ 256) × ((other : ℕ) → 1 ≤ other → other < l.side → other * other < l.count)

abbrev pub decreases-loop-side : goal.decreases-loop-side
decreases-loop-side l = 256 - l.side
