use Rattle.local_run.specs.LocalRun.{trail_of}
use Rattle.local_run.specs.Answers.{HearsFrom}
use Rattle.region_core.specs.Live.{run_in}
use Rattle.region_parts.specs.Inbox.{mixed}
use Rattle.region_core.specs.Replaced.{HearsOn}
use Rattle.region_parts.proofs.Results.{if_ok}
use Rattle.region_core.proofs.News.{hears_all}
use Rattle.region_core.proofs.live.Live.hear.Goals as goal

pub returns-clause-hears : goal.returns-clause-hears
returns-clause-hears c =
    let old = run_in c.args.place.now.floor c.args.self.now in
    let new = run_in c.args.place.now.floor c.hear_from.new.self in
    if_ok c.hear_from.result
    (λ answer. HearsOn c.in-Some.at c.args.from
    (mixed c.in-Some.at (trail_of c.args.self.now.inbox.heard c.args.from) c.args.sent.now) old answer new)
    (λ answer. HearsFrom c.args.from c.args.sent.now old answer new)
    (λ answer hears. hears_all c.in-Some.at c.args.from c.args.sent.now old new answer c.in-Some.ensures hears)
    c.hear_from.ensures.hears
