-- A disk that is ever in the cell is in it at the last tick before it is past an end of it.
use Rattle.std.proofs.Common.{◌-◌}
use Rattle.std.specs.Prelude.{Some, None}
use Rattle.std.proofs.lemmas.Bool.{both_ways}
use Rattle.cell_grid.specs.Leaving.{IsInRoomAfter, EndsAt}
use Rattle.cell_grid.proofs.Ends.{slow_disk, leaves_at_base}
use Rattle.cell_grid.proofs.Leaving.{one_leaving_tick}
use Rattle.cell_grid.proofs.AfterBase.{leaves_later, still_leaves_early}
use Rattle.cell_grid.proofs.grid.Grid.later_tick.Goals as goal

pub ticks_until_past-requires-clause-slow : goal.ticks_until_past-requires-clause-slow
ticks_until_past-requires-clause-slow c =
    slow_disk c.args.rules.now c.args.a.now c.requires.checked c.requires.valid

pub holds_after-requires-clause-slow : goal.holds_after-requires-clause-slow
holds_after-requires-clause-slow c = slow_disk c.args.rules.now c.args.a.now c.requires.checked c.requires.valid

pub returns-in_err-ticks : goal.returns-in_err-ticks
returns-in_err-ticks c =
    let a = c.args.a.now in
    let room = c.room-room.result in
    let ends : EndsAt (IsInRoomAfter room a) None = c.in_err-ticks.ensures.ends in
    rw c.from_residual.ensures
    (still_leaves_early c.args.rules.now c.args.self.now a c.args.cell room c.room-room.ensures.places ends)

pub returns-then-holds_after : goal.returns-then-holds_after
returns-then-holds_after c =
    let a = c.args.a.now in
    let room = c.room-room.result in
    let n = c.in_ok-ticks.ticks in
    let here : IsInRoomAfter room a (n - 1) = rw c.saturating_sub.ensures at (c.holds_after.ensures.0 c.if-holds_after.true) in
    let ends : EndsAt (IsInRoomAfter room a) (Some n) = c.in_ok-ticks.ensures.ends in
    leaves_later c.args.rules.now c.args.self.now a c.args.cell room n c.room-room.ensures.places ends here

pub returns-else-holds_after : goal.returns-else-holds_after
returns-else-holds_after c =
    let a = c.args.a.now in
    let room = c.room-room.result in
    let n = c.in_ok-ticks.ticks in
    let ends : EndsAt (IsInRoomAfter room a) (Some n) = c.in_ok-ticks.ensures.ends in
    let never : ¬ IsInRoomAfter room a (n - 1) = λ here.
    both_ways c.holds_after.result c.if-holds_after.false (c.holds_after.ensures.1 (rw c.saturating_sub.ensures here)) in
    λ tick leaving.
    one_leaving_tick c.args.rules.now c.args.self.now a c.args.cell a.base tick
    (leaves_at_base c.args.rules.now c.args.self.now a c.args.cell room (Some n) c.room-room.ensures.places ends never) leaving
