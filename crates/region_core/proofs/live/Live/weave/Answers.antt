use Rattle.region_core.specs.Live.{run_in}
use Rattle.region_core.proofs.WeavingLive.{still_weaves}
use Rattle.region_core.proofs.live.Live.weave.Goals as goal

pub returns-clause-weaves : goal.returns-clause-weaves
returns-clause-weaves c =
    still_weaves c.args.from c.args.message (run_in c.args.place.now.floor c.args.self.now)
    (run_in c.args.place.now.floor c.weave_if_aside.new.self) c.in_ok-hindrance.hindrance c.not_before.result
    c.in_ok-hindrance.ensures.1 c.not_before.ensures.none

pub returns-clause-live : goal.returns-clause-live
returns-clause-live c = c.in_ok-hindrance.ensures.0

pub returns-clause-hindrance : goal.returns-clause-hindrance
returns-clause-hindrance c = c.not_before.ensures.some
