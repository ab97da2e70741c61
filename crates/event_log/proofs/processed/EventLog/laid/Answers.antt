use Rattle.std.proofs.Common.{ap, sym, ◌∙◌, Some}
use Rattle.event_log.specs.Heads.{logged}
use Rattle.event_log.proofs.Read.{IsHeadAt, is_there, logged_at}
use Rattle.event_log.proofs.processed.EventLog.laid.Goals as goal

pub returns : goal.returns
returns c =
    let a = c.self.inside in
    let h = c.index.result.now in
    let head : IsHeadAt a.rows.items a.wholes.items a.heads.items c.args.self.now c.args.i h = record {
      laid = c.self.invariant;
      is = c.self.view_is;
      within = c.requires;
      read = c.index.ensures;
    } in
    let there = is_there a.rows.items a.wholes.items a.heads.items c.args.self.now c.args.i h head in
    record {
      logged = logged_at a.rows.items a.wholes.items a.heads.items c.args.self.now c.args.i h head
          ∙ ap Some (sym (λ i. logged (c.deref.ensures.value i) (c.deref-2.ensures.value i) h));
      rows = rw c.deref.ensures.value there.row;
      whole = rw c.deref-2.ensures.value there.whole;
      order = there.order;
    }
