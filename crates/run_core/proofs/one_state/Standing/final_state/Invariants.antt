use Rattle.std.proofs.Common.{◌≡◌, take}
use Rattle.event_rules.specs.Run.{spots_of}
use Rattle.cell_sequence.specs.Run.{disks_of}
use Rattle.run_core.proofs.one_state.Standing.final_state.Given as goal

abbrev pub invariant-loop-number : goal.invariant-loop-number
invariant-loop-number l = l.spots.items ≡ spots_of l.self.rules.end (disks_of (take l.number l.self.placed))
