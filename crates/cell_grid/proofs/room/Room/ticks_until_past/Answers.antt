use Rattle.std.proofs.Common.{◌≡◌, ◌^◌, ◌≤◌, ℕ, ℤ, nat_abs, sym, subst, arith}
use Rattle.std.specs.Prelude.{Option, IfSome}
use Rattle.plane_vectors.proofs.Sizes.{sent}
use Rattle.contact_predictor.specs.Contact.{coordinate_after}
use Rattle.cell_grid.specs.Leaving.{IsWithinBounds, EndsAt, IsInRoomAfter}
use Rattle.cell_grid.proofs.Courses.{small_sent}
use Rattle.cell_grid.proofs.Ends.{both_end, sooner_within}
use Rattle.cell_grid.proofs.room.Room.ticks_until_past.Goals as goal

slow_sent : (v : ℤ) → nat_abs v ≤ 2 ^ 20 → sent v ≡ v
slow_sent v slow = small_sent v (omega arith)

pub returns-clause-ends : goal.returns-clause-ends
returns-clause-ends c =
    let room = c.args.self in
    let a = c.args.a.now in
    let near = c.requires.slow.centre in
    let slow = c.requires.slow.velocity in
    let x : sent a.x ≡ a.x = small_sent a.x near.x in
    let y : sent a.y ≡ a.y = small_sent a.y near.y in
    let vx : sent a.vx ≡ a.vx = slow_sent a.vx slow.x in
    let vy : sent a.vy ≡ a.vy = slow_sent a.vy slow.y in
    let across : EndsAt (λ n. IsWithinBounds room.across (coordinate_after a.x a.vx n)) c.ticks_until_past.result =
    rw (x, vx) at c.ticks_until_past.ensures.ends in
    let upwards : EndsAt (λ n. IsWithinBounds room.upwards (coordinate_after a.y a.vy n)) c.ticks_until_past-2.result =
    rw (y, vy) at c.ticks_until_past-2.ensures.ends in
    subst (EndsAt (IsInRoomAfter room a)) (sym c.sooner.ensures)
    (both_end (λ n. IsWithinBounds room.across (coordinate_after a.x a.vx n)) (λ n. IsWithinBounds room.upwards (coordinate_after a.y a.vy n))
    c.ticks_until_past.result c.ticks_until_past-2.result across upwards)

pub returns-clause-near : goal.returns-clause-near
returns-clause-near c =
    subst (λ (o : Option ℕ). IfSome o (λ ticks. ticks ≤ 2 ^ 33)) (sym c.sooner.ensures)
    (sooner_within c.ticks_until_past.result c.ticks_until_past-2.result _ c.ticks_until_past.ensures.near c.ticks_until_past-2.ensures.near)
