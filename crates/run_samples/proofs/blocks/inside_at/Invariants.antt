-- The sums of the disks so far.
use Rattle.std.proofs.Common.{◌≡◌, ◌*◌, ◌^◌, ◌≤◌, take}
use Rattle.event_rules.specs.Run.{spots_of}
use Rattle.collision_sums.specs.Sums.{disks_in, squares_in}
use Rattle.run_samples.proofs.blocks.inside_at.Given as goal

abbrev pub invariant-loop-disk : goal.invariant-loop-disk
invariant-loop-disk l = record {
  disks : l.inside.disks ≡ disks_in l.rules l.margin (take l.disk-index (spots_of l.tick l.disks));
  squares : l.inside.squares ≡ squares_in l.rules l.margin (take l.disk-index (spots_of l.tick l.disks));
  few : l.inside.disks ≤ l.disk-index;
  size : l.inside.squares ≤ 2 ^ 41 * l.disk-index;
}
