use Rattle.std.proofs.Common.{Option, None, sym, subst}
use Rattle.event_stamps.specs.declared.Stamp.{Stamp}
use Rattle.event_stamps.specs.Least.{IsLeastOf, earlier_of}
use Rattle.local_run.specs.LocalRun.{IsOffered}
use Rattle.region_parts.specs.Inbox.{head_stamp, IsLeastHead}
use Rattle.region_core.specs.Live.{now_in}
use Rattle.local_run.proofs.Heads.{due_of_both}
use Rattle.region_core.proofs.NextMove.{least_waiting, alone_is_earlier}
use Rattle.region_core.proofs.live.Live.due_beside.Goals as goal

pub returns-in-Some : goal.returns-in-Some
returns-in-Some c = λ place is.
    let home = place.home in
    let live = c.args.self.now in
    subst (IsLeastOf (IsOffered home (now_in live))) (sym c.earlier.ensures)
    (subst (λ (o : Option Stamp). IsLeastOf (IsOffered home (now_in live))
    (earlier_of c.least_own-own.result o))
    (sym c.stamp_of.ensures)
    (due_of_both home (now_in live) c.least_own-own.result (head_stamp c.args.head)
    (c.least_own-own.ensures place is)
    (least_waiting home place.floor live c.args.head is.body c.requires)))

pub returns-in-None : goal.returns-in-None
returns-in-None c = λ place is.
    let home = place.home in
    let live = c.args.self.now in
    subst (IsLeastOf (IsOffered home (now_in live))) (alone_is_earlier c.least_own-own.result)
    (due_of_both home (now_in live) c.least_own-own.result None (c.least_own-own.ensures place is)
    (least_waiting home place.floor live None is.body
    (subst (IsLeastHead live.inbox) c.in-None.is c.requires)))
