-- The disks below are listed.
use Rattle.std.proofs.Common.{◌≡◌, ℕ, ◌-◌, ◌<◌, ◌≤◌}
use Rattle.std.specs.Prelude.{None}
use Rattle.std.specs.List.{Contains}
use Rattle.std.specs.FinMap as map
use Rattle.region_queue.proofs.queue.disks_of.Given as goal

abbrev pub invariant-loop-disk : goal.invariant-loop-disk
invariant-loop-disk l = record {
  most : l.from ≤ 65536;
  listed : (i : ℕ) → i < l.from → ¬ Contains l.disks.items i → map.get l.view i ≡ None;
}

abbrev pub decreases-loop-disk : goal.decreases-loop-disk
decreases-loop-disk l = 65536 - l.from
