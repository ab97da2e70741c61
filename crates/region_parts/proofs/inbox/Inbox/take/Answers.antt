use Rattle.std.proofs.Common.{ap, arith, ◌+◌, ℕ, refl, ◌<◌, List, length, sym, subst, rules}
use Rattle.region_parts.specs.Inbox.{InboxData, inbox_of}
use Rattle.region_parts.proofs.Lists.{item_read, item_changed}
use Rattle.region_parts.proofs.Heads.{waits_within, least_found}
use Rattle.std.proofs.lemmas.List.{length-set}
use Rattle.region_parts.proofs.inbox.Inbox.take.Goals as goal

pub returns : goal.returns
returns c =
    let within = waits_within c.self.inside.regions (inbox_of c.self.inside.heard.items c.self.inside.taken.items)
    c.args.self.now c.args.from c.self.view_is c.self.invariant.sizes c.requires.waits in
    let taken = item_changed (λ (n : ℕ). n + 1) c.self.inside.taken.items c.args.self.now.taken c.args.from 0
    c.index_mut.result.now (c.index_mut.result.now + 1) (ap (λ (a : InboxData). a.taken) c.self.view_is)
    c.index_mut.ensures.value within refl in
    λ i. record { heard = (c.self.view_is i).heard; taken = taken i }

pub overflow_add-index_mut : goal.overflow_add-index_mut
overflow_add-index_mut c =
    let within = waits_within c.self.inside.regions (inbox_of c.self.inside.heard.items c.self.inside.taken.items)
    c.args.self.now c.args.from c.self.view_is c.self.invariant.sizes c.requires.waits in
    let same = item_read c.self.inside.taken.items c.args.self.now.taken c.args.from 0 c.index_mut.result.now
    (ap (λ (a : InboxData). a.taken) c.self.view_is) c.index_mut.ensures.value within in
    let few = c.requires.room in
    omega arith

pub invariant_of-self : goal.invariant_of-self
invariant_of-self c =
    least_found c.self.inside.regions c.least_head-self-inside.result
    (inbox_of c.self.inside.heard.items c.self.inside.taken.items) _ _ _ c.self.invariant.sizes refl
    (length-set c.self.inside.taken.items c.args.from (c.index_mut.result.now + 1)) c.deref.ensures.value
    c.deref-2.ensures.value c.least_head-self-inside.ensures

pub index_mut-requires : goal.index_mut-requires
index_mut-requires c =
    let within : c.args.from < length c.self.inside.taken.items =
    subst (λ (v : List ℕ). c.args.from < length v) (sym (ap (λ (a : InboxData). a.taken) c.self.view_is))
    (waits_within c.self.inside.regions (inbox_of c.self.inside.heard.items c.self.inside.taken.items)
    c.args.self.now c.args.from c.self.view_is c.self.invariant.sizes c.requires.waits) in
    search (rules, within)
