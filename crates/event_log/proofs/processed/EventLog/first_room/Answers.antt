use Rattle.std.proofs.Common.{◌≤◌, ap, ◌∙◌, below_more, Some, length, arith}
use Rattle.event_log.proofs.Undone.{sets_at, none_found}
use Rattle.event_log.proofs.processed.EventLog.first_room.Goals as goal

pub loop-i-preserved : goal.loop-i-preserved
loop-i-preserved c = λ disk le.
    let within : c.loop-i.room ≤ disk = omega (arith, c.max-room.ensures) in
    let past : c.room_set.result ≤ disk = omega (arith, c.max-room.ensures) in
    let before = c.loop-i.invariant disk within in (
      below_more _ _ before.0 (sets_at disk c.loop-i.i c.args.self.now c.back.result c.back.ensures
          ∙ ap Some (c.room_set.ensures disk past)),
      before.1,
    )

pub returns : goal.returns
returns c = λ disk le.
    let is = c.loop-i.invariant disk le in
    let end : length c.args.self.now ≤ c.loop-i.i = omega arith in
    none_found c.args.newest.now disk c.loop-i.i c.args.self.now end is.0 ∙ is.1
