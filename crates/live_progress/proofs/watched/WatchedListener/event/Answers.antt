use Rattle.std.proofs.Common.{[], ◌∷◌, ◌++◌, refl, ap, ◌∙◌}
use Rattle.live_progress.specs.declared.board.Progress.{Progress}
use Rattle.live_progress.specs.Watching.{next_of}
use Rattle.live_progress.proofs.Watches.{one_told}
use Rattle.live_progress.proofs.watched.WatchedListener.event.Goals as goal

pub returns-clause-told : goal.returns-clause-told
returns-clause-told g c =
    let list = c.args.self.now.pen.now.list in let change = c.args.change.now in
    let next = c.next-next.ensures ∙ ap (λ (p : Progress). next_of p change) c.last.ensures in
    let more = c.publish.ensures.list ∙ ap (λ (p : Progress). list ++ p ∷ []) next in
    one_told g.L.Listener.after _ _ change c.event.result refl c.publish.ensures.board more
    (c.args.self.now.alike c.event.new.self c.args.self.now.inner) c.event.ensures.told
