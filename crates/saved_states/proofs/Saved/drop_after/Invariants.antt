use Rattle.std.proofs.Common.{◌≡◌, ◌≤◌}
use Rattle.saved_states.proofs.Cut.{AreUndone}
use Rattle.saved_states.proofs.Saved.drop_after.Given as goal

abbrev pub invariant-loop-last : goal.invariant-loop-last
invariant-loop-last l =
    let old = l.initial.self-inside in
    (l.kept ≤ l.last) × (l.self-inside.first ≡ old.first)
    × AreUndone l.last old.steps.items old.newest l.self-inside.steps.items l.self-inside.newest
