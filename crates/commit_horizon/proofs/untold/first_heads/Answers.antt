use Rattle.std.proofs.Common.{◌≡◌, ℕ, List, ◌+◌, ◌∷◌, [], length, map, sym, subst, ap, ◌∙◌, arith}
use Rattle.std.proofs.lemmas.List.{map-append}
use Rattle.event_log.specs.Logged.{entries_in}
use Rattle.local_run.specs.declared.entry.Entry.{Entry}
use Rattle.commit_horizon.specs.declared.leading.PackedHead.{PackedHead}
use Rattle.commit_horizon.specs.Merging.{Heads, head_in, heads_in}
use Rattle.commit_horizon.specs.Untold.{actions_in, BeginsInRange, IsNextHead, AreFirstHeads}
use Rattle.commit_horizon.proofs.Lefts.{log_at, first_heads_none, first_heads_more}
use Rattle.commit_horizon.proofs.untold.first_heads.Goals as goal

pub loop-log-init : goal.loop-log-init
loop-log-init c = subst (λ (packed : List PackedHead). AreFirstHeads (map entries_in c.args.logs.now) 0 (heads_in packed))
    (sym c.new-heads.ensures.items) (first_heads_none (map entries_in c.args.logs.now))

pub head_from-requires-clause-range : goal.head_from-requires-clause-range
head_from-requires-clause-range c =
    let logs = c.args.logs.now in
    let n = c.loop-log.log-index in
    let log = c.log-item.result in
    subst (λ (v : List Entry). BeginsInRange (actions_in v))
    (log_at logs n log c.loop-log-test.true c.log-item.is) (c.requires n)

pub loop-log-preserved : goal.loop-log-preserved
loop-log-preserved c =
    let logs = c.args.logs.now in
    let n = c.loop-log.log-index in
    let log = c.log-item.result in
    let packed = c.loop-log.heads.items in
    let new = c.head_from.result in
    subst (AreFirstHeads (map entries_in logs) (n + 1))
    (sym {A = Heads} (ap heads_in c.in_ok-push.ensures.items ∙ map-append head_in packed (new ∷ [])))
    (first_heads_more (map entries_in logs) n (heads_in packed) (head_in new) c.loop-log.invariant
    (subst (λ (v : List Entry). IsNextHead v 0 (head_in new)) (sym (log_at logs n log c.loop-log-test.true c.log-item.is))
    c.head_from.ensures))

pub returns : goal.returns
returns c =
    let logs = c.args.logs.now in
    let whole : c.loop-log.log-index ≡ length logs
    = omega (arith, c.loop-log-test.false, c.loop-log.auto.log-index-end) in
    subst (λ (n : ℕ). AreFirstHeads (map entries_in logs) n (heads_in c.loop-log.heads.items)) whole
    c.loop-log.invariant
