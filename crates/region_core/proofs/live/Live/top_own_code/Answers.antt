-- The least key of the queue is the least stamp.
use Rattle.std.proofs.lemmas.Option.{IfSome_then}
use Rattle.region_core.specs.Live.{now_in}
use Rattle.region_core.proofs.NextMove.{own_least}
use Rattle.region_core.proofs.live.Live.top_own_code.Goals as goal

pub returns : goal.returns
returns c =
    let live = c.args.self.now in
    IfSome_then c.top_code.result c.top_code.ensures (λ code least place is.
    own_least place.home live.queue (now_in live).view code is.body.queue (least (now_in live).view is.body.stands))
