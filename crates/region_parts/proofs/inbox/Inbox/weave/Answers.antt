use Rattle.std.proofs.Common.{◌+◌, ℕ, [], ap, refl, sym, subst, arith, ◌<◌, List, length, rules}
use Rattle.region_messages.specs.Trails.{IsFree, with_message}
use Rattle.local_run.specs.LocalRun.{Trails}
use Rattle.region_parts.specs.Inbox.{InboxData, HasHead, inbox_of}
use Rattle.region_parts.proofs.Lists.{item_changed, item_kept, item_read}
use Rattle.region_parts.proofs.AtNumber.{item_is}
use Rattle.std.proofs.lemmas.List.{length-set}
use Rattle.region_parts.proofs.Heads.{least_found}
use Rattle.region_parts.proofs.inbox.Inbox.weave.Goals as goal

pub insert-requires : goal.insert-requires
insert-requires c = subst (IsFree c.args.message.stamp)
    (sym (item_is c.self.inside.heard.items c.args.self.now.heard c.args.from c.index_mut.result.now
    (ap (λ (v : InboxData). v.heard) c.self.view_is) c.requires.heard c.index_mut.ensures.value))
    c.requires.free

pub returns-clause-heard : goal.returns-clause-heard
returns-clause-heard c = item_changed (with_message c.args.message) c.self.inside.heard.items c.args.self.now.heard
    c.args.from [] c.index_mut.result.now c.insert.new.self (ap (λ (v : InboxData). v.heard) c.self.view_is)
    c.index_mut.ensures.value c.requires.heard c.in_ok-insert.ensures.inserted

pub returns-clause-taken : goal.returns-clause-taken
returns-clause-taken c = item_changed (λ (n : ℕ). n + 1) c.self.inside.taken.items c.args.self.now.taken c.args.from
    0 c.index_mut-2.result.now (c.index_mut-2.result.now + 1) (ap (λ (v : InboxData). v.taken) c.self.view_is)
    c.index_mut-2.ensures.value c.requires.taken refl

pub invariant_of-self : goal.invariant_of-self
invariant_of-self c =
    let taken = c.self.inside.taken.items in
    subst (λ (heard : Trails). HasHead c.self.inside.regions c.self.inside.head
    (record { heard = heard; taken = taken }))
    (sym (item_kept c.self.inside.heard.items c.args.from c.index_mut.result.now c.insert.new.self
    c.index_mut.ensures.value c.in_err-insert.ensures.unchanged)) c.self.invariant

pub invariant_of-self-2 : goal.invariant_of-self-2
invariant_of-self-2 c =
    least_found c.self.inside.regions c.least_head-self-inside.result
    (inbox_of c.self.inside.heard.items c.self.inside.taken.items) _ _ _ c.self.invariant.sizes
    (length-set c.self.inside.heard.items c.args.from c.insert.new.self)
    (length-set c.self.inside.taken.items c.args.from (c.index_mut-2.result.now + 1)) c.deref.ensures.value
    c.deref-2.ensures.value c.least_head-self-inside.ensures

pub overflow_add-index_mut : goal.overflow_add-index_mut
overflow_add-index_mut c =
    let same = item_read c.self.inside.taken.items c.args.self.now.taken c.args.from 0 c.index_mut-2.result.now
    (ap (λ (a : InboxData). a.taken) c.self.view_is) c.index_mut-2.ensures.value c.requires.taken in
    let few = c.requires.room in
    omega arith

pub index_mut-requires-2 : goal.index_mut-requires-2
index_mut-requires-2 c =
    let within : c.args.from < length c.self.inside.taken.items =
    subst (λ (v : List ℕ). c.args.from < length v) (sym (ap (λ (a : InboxData). a.taken) c.self.view_is)) c.requires.taken in
    search (rules, within)

pub index_mut-requires : goal.index_mut-requires
index_mut-requires c =
    let within : c.args.from < length c.self.inside.heard.items =
    subst (λ (v : Trails). c.args.from < length v) (sym (ap (λ (a : InboxData). a.heard) c.self.view_is)) c.requires.heard in
    search (rules, within)
