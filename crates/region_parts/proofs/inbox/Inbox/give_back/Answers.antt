use Rattle.std.proofs.Common.{◌≡◌, ◌≤◌, ℕ, List, length, get_or, ap, ◌∙◌, arith, refl}
use Rattle.std.proofs.lemmas.List.{take_all, with_items_is}
use Rattle.event_log.specs.Logged.{entries_in}
use Rattle.local_run.specs.Taken.{taken_of}
use Rattle.region_parts.specs.Inbox.{InboxData, taken_from, inbox_of}
use Rattle.region_parts.proofs.Back.{taken_in_parts}
use Rattle.region_parts.proofs.Lists.{as_many}
use Rattle.region_parts.proofs.Heads.{least_found}
use Rattle.region_parts.proofs.inbox.Inbox.give_back.Goals as goal

pub count_down-requires-clause-taken : goal.count_down-requires-clause-taken
count_down-requires-clause-taken c = λ q.
    let es = entries_in c.args.log.now in
    let parts = taken_in_parts q c.args.kept es in
    let cut = taken_in_parts q c.len.result es in
    let given = c.requires.taken q in
    let same : get_or c.deref_mut.result.now q 0 ≡ taken_from c.args.self.now q =
    ap (λ (v : List ℕ). get_or v q 0) c.deref_mut.ensures.value
    ∙ ap (λ (a : InboxData). taken_from a q) c.self.view_is in
    omega arith

pub returns-clause-taken : goal.returns-clause-taken
returns-clause-taken c = λ q.
    let es = entries_in c.args.log.now in
    let parts = taken_in_parts q c.args.kept es in
    let many = as_many c.args.log.now in
    let within : length es ≤ c.len.result = omega (arith, c.len.ensures) in
    let whole = ap (taken_of q) (take_all c.len.result es within) in
    let counted = c.count_down.ensures q in
    let same : get_or c.deref_mut.result.now q 0 ≡ taken_from c.args.self.now q =
    ap (λ (v : List ℕ). get_or v q 0) c.deref_mut.ensures.value
    ∙ ap (λ (a : InboxData). taken_from a q) c.self.view_is in
    let new = ap (λ (v : List ℕ). get_or v q 0) (with_items_is c.self.inside.taken c.count_down.new.counts
    (c.count_down.auto.counts ∙ c.deref_mut.ensures.len)) in
    omega arith

pub invariant_of-self : goal.invariant_of-self
invariant_of-self c =
    let taken = with_items_is c.self.inside.taken c.count_down.new.counts
    (c.count_down.auto.counts ∙ c.deref_mut.ensures.len) in
    least_found c.self.inside.regions c.least_head-self-inside.result
    (inbox_of c.self.inside.heard.items c.self.inside.taken.items) _ _ _ c.self.invariant.sizes refl
    (ap length taken ∙ c.count_down.auto.counts ∙ ap length c.deref_mut.ensures.value) c.deref.ensures.value
    c.deref-2.ensures.value c.least_head-self-inside.ensures

pub returns-clause-counts : goal.returns-clause-counts
returns-clause-counts c =
    ap length (with_items_is c.self.inside.taken c.count_down.new.counts
    (c.count_down.auto.counts ∙ c.deref_mut.ensures.len))
    ∙ c.count_down.auto.counts
    ∙ ap length (c.deref_mut.ensures.value ∙ ap (λ (a : InboxData). a.taken) c.self.view_is)

pub returns-clause-heard : goal.returns-clause-heard
returns-clause-heard c = ap (λ (a : InboxData). a.heard) c.self.view_is
