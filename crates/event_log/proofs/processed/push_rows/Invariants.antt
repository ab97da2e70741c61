-- The rows so far were appended, and there is room for the others.
use Rattle.std.proofs.Common.{◌≡◌, ◌+◌, ◌≤◌, ◌++◌, length, take}
use Rattle.std.specs.Prelude.{vec_len}
use Rattle.std.specs.Vec.{vec_capacity}
use Rattle.event_log.proofs.processed.push_rows.Given as goal

abbrev pub invariant-loop-row : goal.invariant-loop-row
invariant-loop-row l = record {
  appended : l.into.items ≡ l.fn.into.items ++ take l.row-index l.rows;
  room : vec_len l.into + length l.rows ≤ vec_capacity l.into + l.row-index;
}
