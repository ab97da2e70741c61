use Rattle.std.proofs.Common.{List, [], map, sym, subst, ap, ◌∙◌}
use Rattle.event_log.specs.Logged.{Logged, entries_in}
use Rattle.commit_horizon.specs.declared.leading.PackedHead.{PackedHead}
use Rattle.commit_horizon.specs.Merging.{heads_in}
use Rattle.commit_horizon.specs.Untold.{lefts, merged_of, AreUntold}
use Rattle.commit_horizon.proofs.Lefts.{none_merged, nothing_untold}
use Rattle.commit_horizon.proofs.untold.Untold.new.Goals as goal

pub invariant_of-result : goal.invariant_of-result
invariant_of-result c =
    let first = c.find_leader.result in
    subst (λ (logs : List (List Logged)). AreUntold (map entries_in logs) (heads_in c.new-2.result.items) first)
    (sym c.new.ensures.items)
    (subst (λ (heads : List PackedHead). AreUntold [] (heads_in heads) first) (sym c.new-2.ensures.items)
    (nothing_untold first c.find_leader.ensures))

pub returns : goal.returns
returns c =
    ap (λ (logs : List (List Logged)). merged_of (lefts (map entries_in logs) (heads_in c.new-2.result.items)))
    c.new.ensures.items ∙ none_merged
