use Rattle.std.proofs.Common.{◌≡◌, ◌-◌, ◌≤◌, ◌++◌, length, take}
use Rattle.report_audit.specs.Compared.{newlines}
use Rattle.report_audit.proofs.place.Place.end.Given as goal

abbrev pub invariant-loop-at : goal.invariant-loop-at
invariant-loop-at l = record {
  within : l.at ≤ length l.bytes;
  clear : newlines (take l.at l.bytes) ≡ 0;
  lines : l.self-inside.lines ≡ l.fn.self.lines;
  line : l.self-inside.line ≡ take 128 (l.fn.self.line ++ take l.at l.bytes);
}

abbrev pub decreases-loop-at : goal.decreases-loop-at
decreases-loop-at l = length l.bytes - l.at
