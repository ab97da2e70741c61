use Rattle.std.proofs.Common.{[], List, ap, refl, ◌<◌, length, sym, subst, rules}
use Rattle.region_view.specs.declared.rows.Message.{Message}
use Rattle.region_parts.specs.Inbox.{InboxData, inbox_of}
use Rattle.region_parts.specs.Inbox.{mixed}
use Rattle.region_parts.proofs.Lists.{item_changed}
use Rattle.region_parts.proofs.Results.{on_ok, on_any}
use Rattle.std.proofs.lemmas.List.{length-set}
use Rattle.region_parts.proofs.Heads.{least_found}
use Rattle.local_run.specs.LocalRun.{Trails}
use Rattle.region_parts.proofs.inbox.Inbox.replace.Goals as goal

pub returns-clause-heard : goal.returns-clause-heard
returns-clause-heard c = on_ok c.replace_from-replaced.result _ _
    (λ is. item_changed (λ (ms : List Message). mixed c.args.at ms c.args.sent.now) c.self.inside.heard.items
    c.args.self.now.heard c.args.from [] c.index_mut.result.now c.replace_from-replaced.new.self
    (ap (λ (v : InboxData). v.heard) c.self.view_is) c.index_mut.ensures.value c.requires is)
    c.replace_from-replaced.ensures.replaced

pub invariant_of-self : goal.invariant_of-self
invariant_of-self c =
    least_found c.self.inside.regions c.least_head-self-inside.result
    (inbox_of c.self.inside.heard.items c.self.inside.taken.items) _ _ _ c.self.invariant.sizes
    (length-set c.self.inside.heard.items c.args.from c.replace_from-replaced.new.self) refl c.deref.ensures.value
    c.deref-2.ensures.value c.least_head-self-inside.ensures

pub returns-clause-taken : goal.returns-clause-taken
returns-clause-taken c = on_any c.replace_from-replaced.result _ (ap (λ (a : InboxData). a.taken) c.self.view_is)

pub index_mut-requires : goal.index_mut-requires
index_mut-requires c =
    let within : c.args.from < length c.self.inside.heard.items =
    subst (λ (v : Trails). c.args.from < length v) (sym (ap (λ (a : InboxData). a.heard) c.self.view_is)) c.requires in
    search (rules, within)
