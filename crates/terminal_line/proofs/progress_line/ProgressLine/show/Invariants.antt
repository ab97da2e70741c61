-- The glass stays one of the board.
use Rattle.std.proofs.Common.{◌≡◌}
use Rattle.terminal_line.proofs.progress_line.ProgressLine.show.Given as goal

abbrev pub invariant-loop : goal.invariant-loop
invariant-loop g l = l.glass.board ≡ l.board
