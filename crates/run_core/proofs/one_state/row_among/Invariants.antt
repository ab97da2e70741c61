use Rattle.std.proofs.Common.{◌≡◌, drop}
use Rattle.run_core.specs.Standing.{row_among}
use Rattle.run_core.proofs.one_state.row_among.Given as goal

abbrev pub invariant-loop-region : goal.invariant-loop-region
invariant-loop-region l = row_among l.regions l.disk ≡ row_among (drop l.region-index l.regions) l.disk
