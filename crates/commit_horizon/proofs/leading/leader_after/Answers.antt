use Rattle.std.proofs.Common.{ℕ, ◌<◌, sym, subst}
use Rattle.std.proofs.lemmas.List.{length-map}
use Rattle.commit_horizon.specs.Merging.{head_in, heads_in}
use Rattle.commit_horizon.proofs.Leaders.{packed_at, leads_still}
use Rattle.commit_horizon.proofs.leading.leader_after.Goals as goal

pub returns-then-is_before : goal.returns-then-is_before
returns-then-is_before c =
    let packed = c.args.heads.now in
    let last = c.args.last.now in
    let head = c.index-heads-last.result in
    leads_still (heads_in packed) last.number head last.second
    (subst (λ (n : ℕ). last.number < n) (sym (length-map packed head_in)) c.requires.within) c.requires.others
    (packed_at packed last.number head c.requires.within c.index-heads-last.is) (c.is_before.ensures.0 c.if-is_before.true)
