use Rattle.std.proofs.Common.{◌≡◌, ◌++◌, length, map, take, drop}
use Rattle.local_run.specs.Raising.{raised_region}
use Rattle.event_log.specs.Logged.{entries_in}
use Rattle.commit_horizon.specs.Cutting.{logs_below}
use Rattle.commit_horizon.proofs.cutting.cut_floors.Given as goal

abbrev pub invariant-loop-k : goal.invariant-loop-k
invariant-loop-k l = record {
  raised : l.regions ≡ map (raised_region l.to) (take l.k l.fn.regions) ++ drop l.k l.fn.regions;
  cut : map entries_in (take l.k l.logs) ≡ logs_below l.to (take l.k l.fn.regions);
  count : length l.logs ≡ length l.fn.regions;
}
