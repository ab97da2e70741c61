use Rattle.std.proofs.Common.{ap, ◌∙◌}
use Rattle.std.specs.Prelude.{slice_get}
use Rattle.local_run.specs.LocalRun.{Trails}
use Rattle.region_parts.specs.Inbox.{InboxData}
use Rattle.region_parts.proofs.AtNumber.{got_at}
use Rattle.region_parts.proofs.inbox.Inbox.heard.Goals as goal

pub returns : goal.returns
returns c = got_at c.get.result c.deref.result.now c.args.from
    (c.get.ensures.lookup.0, c.get.ensures.lookup.1)
    ∙ ap (λ (ts : Trails). slice_get ts c.args.from)
    (c.deref.ensures.value ∙ ap (λ (a : InboxData). a.heard) c.self.view_is)
