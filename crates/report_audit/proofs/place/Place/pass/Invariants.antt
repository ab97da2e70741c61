use Rattle.std.proofs.Common.{◌≡◌, ◌-◌, ◌≤◌, List, ℕ, ◌++◌, length, take}
use Rattle.report_audit.specs.Place.{place_of}
use Rattle.report_audit.proofs.place.Place.pass.Given as goal

abbrev pub invariant-loop-at : goal.invariant-loop-at
invariant-loop-at l = record {
  within : l.at ≤ length l.bytes;
  place : (before : List ℕ) → l.fn.self ≡ place_of before → l.self ≡ place_of (before ++ take l.at l.bytes);
}

abbrev pub decreases-loop-at : goal.decreases-loop-at
decreases-loop-at l = length l.bytes - l.at
