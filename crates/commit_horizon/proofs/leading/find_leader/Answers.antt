use Rattle.std.proofs.Common.{ℕ, ◌<◌, ◌≤◌, sym, subst, arith}
use Rattle.std.proofs.lemmas.List.{length-map}
use Rattle.commit_horizon.specs.Merging.{head_in, heads_in}
use Rattle.commit_horizon.proofs.Leaders.{packed_at, leads_none, leads_on, leader_of_all}
use Rattle.commit_horizon.proofs.leading.find_leader.Goals as goal

pub loop-k-init : goal.loop-k-init
loop-k-init c = leads_none (heads_in c.args.heads.now) _ c.new.ensures

pub loop-k-preserved : goal.loop-k-preserved
loop-k-preserved c =
    let packed = c.args.heads.now in
    let k = c.loop-k.k in
    leads_on (heads_in packed) k c.loop-k.first _ c.leader_with-first.result
    (subst (λ (n : ℕ). k < n) (sym (length-map packed head_in)) c.loop-k-test.true)
    (packed_at packed k c.index-heads-k.result c.loop-k-test.true c.index-heads-k.is) c.loop-k.invariant c.leader_with-first.ensures

pub returns : goal.returns
returns c =
    let packed = c.args.heads.now in
    leader_of_all (heads_in packed) c.loop-k.k c.loop-k.first
    (subst (λ (n : ℕ). n ≤ c.loop-k.k) (sym (length-map packed head_in)) (omega arith)) c.loop-k.invariant
