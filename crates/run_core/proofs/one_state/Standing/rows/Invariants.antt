use Rattle.std.proofs.Common.{◌≡◌, take}
use Rattle.run_core.proofs.one_state.Standing.rows.Given as goal

abbrev pub invariant-loop-disk : goal.invariant-loop-disk
invariant-loop-disk l = l.placed.items ≡ take l.disk l.self.placed
