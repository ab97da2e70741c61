use Rattle.std.proofs.Common.{List, ap, subst, ◌<◌, length, sym, rules}
use Rattle.std.specs.Prelude.{◌↔◌, IsTrue}
use Rattle.region_view.specs.declared.rows.Message.{Message}
use Rattle.region_messages.specs.Trails.{IsFree}
use Rattle.region_parts.specs.Inbox.{InboxData}
use Rattle.region_parts.proofs.AtNumber.{item_is}
use Rattle.local_run.specs.LocalRun.{Trails}
use Rattle.region_parts.proofs.inbox.Inbox.is_free.Goals as goal

pub returns : goal.returns
returns c = subst (λ (ms : List Message). IsTrue c.is_free.result ↔ IsFree c.args.at ms)
    (item_is c.self.inside.heard.items c.args.self.now.heard c.args.from c.index.result.now
    (ap (λ (v : InboxData). v.heard) c.self.view_is) c.requires c.index.ensures)
    c.is_free.ensures

pub index-requires : goal.index-requires
index-requires c =
    let within : c.args.from < length c.self.inside.heard.items =
    subst (λ (v : Trails). c.args.from < length v) (sym (ap (λ (a : InboxData). a.heard) c.self.view_is)) c.requires in
    search (rules, within)
