use Rattle.region_core.specs.Live.{now_in}
use Rattle.region_core.proofs.NextMove.{own_least}
use Rattle.region_core.proofs.live.Live.least_own.Goals as goal

pub returns : goal.returns
returns c = λ place is.
    let live = c.args.self.now in
    own_least place.home live.queue (now_in live).view c.least.result is.body.queue
    (c.least.ensures (now_in live).view is.body.stands)
