-- The disk of a row that is there.
use Rattle.std.proofs.Common.{◌≡◌, Option, None, subst, w64, to_z, of_z}
use Rattle.std.proofs.lemmas.Int.{to_z-of_z}
use Rattle.region_view.specs.declared.action.Placed.{Placed}
use Rattle.event_rules.specs.Pairs.{TellsByReach}
use Rattle.region_queue.specs.Finding.{IsMissed, IsReachSquare}
use Rattle.region_queue.proofs.Keeping.{missed_row}
use Rattle.region_queue.proofs.finder.may_meet_row.Goals as goal

pub returns-in-Some : goal.returns-in-Some
returns-in-Some c = λ missed.
    let same : to_z w64 (of_z w64 c.args.square) ≡ c.args.square = to_z-of_z w64 c.args.square c.ranges.square in
    let tells : TellsByReach c.args.square c.args.disk.now c.disk.result c.may_hit.result = rw same at c.may_hit.ensures in
    subst (λ (row : Option Placed). IsMissed (IsReachSquare c.args.square c.args.disk.now) c.args.disk.now row) (c.in-Some.ensures.lookup.3.1 None)
    (missed_row (IsReachSquare c.args.square c.args.disk.now) c.args.disk.now c.disk.result c.in-Some.row.now c.may_hit.result c.disk.ensures
    (λ rules is pair. tells.never rules pair is) (λ rules is pair. tells.never_turned rules pair is) missed)
