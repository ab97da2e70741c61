use Rattle.std.proofs.Common.{ℕ, List, length, map, sym, subst, ◌∙◌}
use Rattle.std.proofs.lemmas.List.{length-map}
use Rattle.event_log.specs.Logged.{Logged, entries_in}
use Rattle.commit_horizon.specs.Merging.{heads_in}
use Rattle.commit_horizon.specs.Leading.{IsLeader}
use Rattle.commit_horizon.specs.Untold.{AllBeginInRange, AreFirstHeads}
use Rattle.commit_horizon.proofs.Lefts.{begin_in_range, are_untold, begins_as}
use Rattle.commit_horizon.proofs.untold.Untold.begin.Goals as goal

pub first_heads-requires : goal.first_heads-requires
first_heads-requires c = subst (λ (logs : List (List Logged)). AllBeginInRange (map entries_in logs))
    (sym c.deref.ensures.value) (begin_in_range (map entries_in c.args.logs.items) c.requires.0 c.requires.1)

pub invariant_of-replace : goal.invariant_of-replace
invariant_of-replace c =
    let logs = c.args.logs.items in
    let heads = heads_in c.in_ok-heads.heads.items in
    let firsts = subst (λ (n : ℕ). AreFirstHeads (map entries_in logs) n heads) (sym (length-map logs entries_in))
    (subst (λ (v : List (List Logged)). AreFirstHeads (map entries_in v) (length v) heads) c.deref.ensures.value
    c.in_ok-heads.ensures) in
    are_untold (map entries_in logs) heads firsts c.find_leader-first.result c.requires.0 c.requires.1
    (subst (λ v. IsLeader (heads_in v) c.find_leader-first.result) c.deref-2.ensures.value c.find_leader-first.ensures)

pub returns-clause-begun : goal.returns-clause-begun
returns-clause-begun c = λ xs can.
    let logs = c.args.logs.items in
    let heads = heads_in c.in_ok-heads.heads.items in
    let firsts = subst (λ (n : ℕ). AreFirstHeads (map entries_in logs) n heads) (sym (length-map logs entries_in))
    (subst (λ (v : List (List Logged)). AreFirstHeads (map entries_in v) (length v) heads) c.deref.ensures.value
    c.in_ok-heads.ensures) in
    c.replace.ensures.after ∙ begins_as (map entries_in logs) heads firsts xs can
