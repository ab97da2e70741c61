-- A disk that is ever in the cell is in it at the last tick before it is past an end of it.
use Rattle.std.proofs.Common.{◌≡◌, ◌-◌, ◌∙◌, ap, ℕ}
use Rattle.std.specs.Prelude.{Some, None}
use Rattle.std.proofs.lemmas.Bool.{both_ways}
use Rattle.cell_grid.specs.Leaving.{IsInRoomAfter, EndsAt}
use Rattle.cell_grid.proofs.Ends.{slow_disk, last_of, leaves_at_base, never_leaves, leaves_at_end}
use Rattle.cell_grid.proofs.grid.Grid.leaving_tick.Goals as goal

pub ticks_until_past-ticks-requires-clause-slow : goal.ticks_until_past-ticks-requires-clause-slow
ticks_until_past-ticks-requires-clause-slow c =
    slow_disk c.args.rules.now c.args.a.now c.requires.checked c.requires.valid

pub holds_after-requires-clause-slow : goal.holds_after-requires-clause-slow
holds_after-requires-clause-slow c = slow_disk c.args.rules.now c.args.a.now c.requires.checked c.requires.valid

pub returns-then-not-holds_after : goal.returns-then-not-holds_after
returns-then-not-holds_after c =
    let a = c.args.a.now in
    let room = c.room-room.result in
    let o = c.ticks_until_past-ticks.result in
    let last : c.saturating_sub-last.result ≡ last_of o =
    c.saturating_sub-last.ensures ∙ ap (λ (n : ℕ). n - 1) c.unwrap_or.ensures in
    leaves_at_base c.args.rules.now c.args.self.now a c.args.cell room o c.room-room.ensures.places
    c.ticks_until_past-ticks.ensures.ends
    (λ (here : IsInRoomAfter room a (last_of o)).
    both_ways c.holds_after.result c.if-not-holds_after.true (c.holds_after.ensures.1 (rw last here)))

pub returns-in_err-ticks : goal.returns-in_err-ticks
returns-in_err-ticks c =
    let a = c.args.a.now in
    let room = c.room-room.result in
    let o = c.ticks_until_past-ticks.result in
    let last : c.saturating_sub-last.result ≡ last_of o =
    c.saturating_sub-last.ensures ∙ ap (λ (n : ℕ). n - 1) c.unwrap_or.ensures in
    let none : c.saturating_sub-last.result ≡ 0 = last ∙ ap last_of c.in_err-ticks.was in
    let here : IsInRoomAfter room a 0 = rw none at (c.holds_after.ensures.0 c.if-not-holds_after.false) in
    let ends : EndsAt (IsInRoomAfter room a) None = c.in_err-ticks.ensures.ends in
    rw c.from_residual.ensures
    (never_leaves c.args.rules.now c.args.self.now a c.args.cell room c.room-room.ensures.places ends here)

pub returns : goal.returns
returns c =
    let a = c.args.a.now in
    let room = c.room-room.result in
    let o = c.ticks_until_past-ticks.result in
    let n = c.in_ok-ticks.field-0 in
    let last : c.saturating_sub-last.result ≡ last_of o =
    c.saturating_sub-last.ensures ∙ ap (λ (n : ℕ). n - 1) c.unwrap_or.ensures in
    let some : c.saturating_sub-last.result ≡ n - 1 = last ∙ ap last_of c.in_ok-ticks.was in
    let here : IsInRoomAfter room a (n - 1) = rw some at (c.holds_after.ensures.0 c.if-not-holds_after.false) in
    let ends : EndsAt (IsInRoomAfter room a) (Some n) = c.in_ok-ticks.ensures.ends in
    leaves_at_end c.args.rules.now c.args.self.now a c.args.cell room n c.room-room.ensures.places ends here
