use Rattle.std.proofs.Common.{◌≡◌, drop}
use Rattle.saved_states.specs.Steps.{view_before}
use Rattle.saved_states.proofs.undo.Given as goal

abbrev pub invariant-loop-i : goal.invariant-loop-i
invariant-loop-i l = l.view ≡ view_before l.fn.view (drop l.i l.steps)
