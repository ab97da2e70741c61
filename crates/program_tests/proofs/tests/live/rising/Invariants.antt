-- The glass stays one of the board.
use Rattle.std.proofs.Common.{◌≡◌}
use Rattle.program_tests.proofs.tests.live.rising.Given as goal

abbrev pub invariant-loop : goal.invariant-loop
invariant-loop g l =
    ((goal.iterator-loop g).can_next l.iterator' × (goal.iterator-loop g).is_finite l.iterator') × (l.glass.board ≡ l.board)
