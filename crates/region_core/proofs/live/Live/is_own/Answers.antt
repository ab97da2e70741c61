use Rattle.std.proofs.lemmas.Bool.{false≢true}
use Rattle.region_core.specs.Live.{now_in}
use Rattle.region_core.proofs.NextMove.{own_at}
use Rattle.region_core.proofs.live.Live.is_own.Goals as goal

pub returns-in-Some : goal.returns-in-Some
returns-in-Some c = λ place is due.
    let at = own_at place.home (now_in c.args.self.now) c.in-Some.own c.args.due.now
    (c.in-Some.ensures place is) due in
    (λ t. at.0 (c.is_same.ensures.0 t), λ own. c.is_same.ensures.1 (at.1 own))

pub returns-in-None : goal.returns-in-None
returns-in-None c = λ place is due.
    (λ t. absurd (false≢true t), λ own. absurd (c.in-None.ensures place is c.args.due.now own))
