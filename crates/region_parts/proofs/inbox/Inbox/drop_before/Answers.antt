use Rattle.std.proofs.Common.{length, ap, sym, ◌∙◌, ◌≡◌, ℕ, List, get_or, arith, map}
use Rattle.std.proofs.lemmas.List.{with_items_is, get_or_past}
use Rattle.region_parts.specs.Inbox.{inbox_of, InboxData, taken_from}
use Rattle.region_parts.proofs.Heads.{least_found}
use Rattle.region_parts.proofs.Back.{taken_in_parts}
use Rattle.event_log.specs.Logged.{entries_in}
use Rattle.region_messages.specs.Trails.{from}
use Rattle.region_parts.proofs.inbox.Inbox.drop_before.Goals as goal

pub invariant_of-self : goal.invariant_of-self
invariant_of-self c =
    let heard = with_items_is c.self.inside.heard c.drop_before.new.trails
    (c.drop_before.auto.trails ∙ c.deref_mut.ensures.len) in
    let taken = with_items_is c.self.inside.taken c.recount.new.counts
    (c.recount.auto.counts ∙ c.deref_mut-2.ensures.len) in
    least_found c.self.inside.regions c.least_head-self-inside.result
    (inbox_of c.self.inside.heard.items c.self.inside.taken.items) _ _ _ c.self.invariant.sizes
    (ap length heard ∙ c.drop_before.auto.trails ∙ ap length c.deref_mut.ensures.value)
    (ap length taken ∙ c.recount.auto.counts ∙ ap length c.deref_mut-2.ensures.value) c.deref.ensures.value
    c.deref-2.ensures.value c.least_head-self-inside.ensures

pub recount-requires-clause-numbers : goal.recount-requires-clause-numbers
recount-requires-clause-numbers c = λ q past.
    let counts = c.deref_mut-2.result.now in
    let same : get_or counts q 0 ≡ taken_from c.args.self.now q =
    ap (λ (v : List ℕ). get_or v q 0) c.deref_mut-2.ensures.value
    ∙ ap (λ (a : InboxData). taken_from a q) c.self.view_is in
    sym (c.requires.taken q) ∙ sym same ∙ get_or_past counts q 0 past

pub returns-clause-taken : goal.returns-clause-taken
returns-clause-taken c = λ q.
    let parts = taken_in_parts q c.args.gone (entries_in c.args.log.now) in
    let counted = c.recount.ensures q in
    let all = c.requires.taken q in
    let new = ap (λ (v : List ℕ). get_or v q 0) (with_items_is c.self.inside.taken c.recount.new.counts
    (c.recount.auto.counts ∙ c.deref_mut-2.ensures.len)) in
    omega arith

pub returns-clause-heard : goal.returns-clause-heard
returns-clause-heard c =
    with_items_is c.self.inside.heard c.drop_before.new.trails (c.drop_before.auto.trails ∙ c.deref_mut.ensures.len)
    ∙ c.drop_before.ensures
    ∙ ap (map (from c.args.to)) (c.deref_mut.ensures.value ∙ ap (λ (a : InboxData). a.heard) c.self.view_is)

pub returns-clause-counts : goal.returns-clause-counts
returns-clause-counts c =
    ap length (with_items_is c.self.inside.taken c.recount.new.counts
    (c.recount.auto.counts ∙ c.deref_mut-2.ensures.len))
    ∙ c.recount.auto.counts
    ∙ ap length (c.deref_mut-2.ensures.value ∙ ap (λ (a : InboxData). a.taken) c.self.view_is)
