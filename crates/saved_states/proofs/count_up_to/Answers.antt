use Rattle.std.proofs.Common.{◌≡◌, ℕ, ◌≤◌, ◌<◌, leb, true, false, rules, arith}
use Rattle.std.proofs.lemmas.List.Sorted.{IsPartitionPoint-from_clause, IsPartitionedBy-leb}
use Rattle.std.proofs.lemmas.Bool.Decides.{nat_tests}
use Rattle.saved_states.proofs.count_up_to.Goals as goal

up_to : (m n : ℕ) → leb m n ≡ true → m ≤ n
up_to m n e = grind (arith, nat_tests)

over : (m n : ℕ) → leb m n ≡ false → n < m
over m n e = grind (arith, nat_tests)

pub returns-clause-place : goal.returns-clause-place
returns-clause-place c =
    let steps = c.args.steps.now in
    let n = c.partition_point.result in
    let point = IsPartitionPoint-from_clause (λ step. leb step.0 c.args.position) steps n
    c.partition_point.ensures.partitioned
    (IsPartitionedBy-leb (λ step. step.0) steps c.args.position c.requires)
    (λ a r f called. search rules) in (
      λ k d low high. up_to _ _ (point.0 k d low high),
      λ k d low high. over _ _ (point.1 k d low high),
    )
