-- The sums of the spots so far.
use Rattle.std.proofs.Common.{◌≡◌, ◌*◌, ◌^◌, ◌≤◌, take}
use Rattle.collision_sums.specs.Sums.{disks_in, squares_in}
use Rattle.run_samples.proofs.blocks.inside_at_end.Given as goal

abbrev pub invariant-loop-spot : goal.invariant-loop-spot
invariant-loop-spot l = record {
  disks : l.inside.disks ≡ disks_in l.rules l.margin (take l.spot-index l.spots);
  squares : l.inside.squares ≡ squares_in l.rules l.margin (take l.spot-index l.spots);
  few : l.inside.disks ≤ l.spot-index;
  size : l.inside.squares ≤ 2 ^ 41 * l.spot-index;
}
