-- A disk is inside the box while each of its coordinates is within its bounds.
use Rattle.std.proofs.Common.{ℕ, ◌+◌, ◌≤◌, arith, refl}
use Rattle.std.specs.Prelude.{Some}
use Rattle.std.proofs.lemmas.Bool.{true≢false}
use native.Mathlib.Nat.{le_refl}
use Rattle.std.proofs.lemmas.Int.{ints}
use Rattle.fixed_motion.specs.Motion.{IsInside, place_of, velocity_of, radius_of}
use Rattle.fixed_motion.proofs.Sizes.{slow_size}
use Rattle.fixed_motion.proofs.TickNumbers.{none_sooner}
use Rattle.event_rules.proofs.Courses.{room_across, room_upwards, room_fits, slow_sent, fits_across, fits_upwards, stays_of, up_to_sooner, inside_up_to, last_inside_is, stays_short}
use Rattle.event_rules.proofs.wall_events.last_inside.Goals as goal

moved_on : (base ticks : ℕ) → ticks ≤ 1073741824 → base + ticks ≤ base + 1073741824
moved_on base ticks few = omega arith

from_base : (base ticks : ℕ) → base ≤ base + ticks
from_base base ticks = omega arith

pub stay-across-requires-clause-high : goal.stay-across-requires-clause-high
stay-across-requires-clause-high c =
    (fits_across c.args.rules.now c.args.a.now c.radius-radius.result c.requires.checked c.requires.valid c.radius-radius.ensures.value).high

pub stay-across-requires-clause-lo_size : goal.stay-across-requires-clause-lo_size
stay-across-requires-clause-lo_size c =
    (fits_across c.args.rules.now c.args.a.now c.radius-radius.result c.requires.checked c.requires.valid c.radius-radius.ensures.value).lo_size

pub stay-across-requires-clause-hi_size : goal.stay-across-requires-clause-hi_size
stay-across-requires-clause-hi_size c =
    (fits_across c.args.rules.now c.args.a.now c.radius-radius.result c.requires.checked c.requires.valid c.radius-radius.ensures.value).hi_size

pub stay-across-requires-clause-x_size : goal.stay-across-requires-clause-x_size
stay-across-requires-clause-x_size c =
    (fits_across c.args.rules.now c.args.a.now c.radius-radius.result c.requires.checked c.requires.valid c.radius-radius.ensures.value).x_size

pub stay-upwards-requires-clause-high : goal.stay-upwards-requires-clause-high
stay-upwards-requires-clause-high c =
    (fits_upwards c.args.rules.now c.args.a.now c.radius-radius.result c.requires.checked c.requires.valid c.radius-radius.ensures.value).high

pub stay-upwards-requires-clause-lo_size : goal.stay-upwards-requires-clause-lo_size
stay-upwards-requires-clause-lo_size c =
    (fits_upwards c.args.rules.now c.args.a.now c.radius-radius.result c.requires.checked c.requires.valid c.radius-radius.ensures.value).lo_size

pub stay-upwards-requires-clause-hi_size : goal.stay-upwards-requires-clause-hi_size
stay-upwards-requires-clause-hi_size c =
    (fits_upwards c.args.rules.now c.args.a.now c.radius-radius.result c.requires.checked c.requires.valid c.radius-radius.ensures.value).hi_size

pub stay-upwards-requires-clause-x_size : goal.stay-upwards-requires-clause-x_size
stay-upwards-requires-clause-x_size c =
    (fits_upwards c.args.rules.now c.args.a.now c.radius-radius.result c.requires.checked c.requires.valid c.radius-radius.ensures.value).x_size

pub returns-in_err-ticks-clause-still : goal.returns-in_err-ticks-clause-still
returns-in_err-ticks-clause-still c =
    let stays = stays_of c.args.rules.now c.args.a.now c.radius-radius.result c.stay-across.result c.stay-upwards.result c.requires.checked c.requires.valid c.radius-radius.ensures.value
    c.stay-across.ensures.still c.stay-upwards.ensures.still c.stay-across.ensures.last c.stay-upwards.ensures.last in
    let none = (none_sooner _ _ _ c.in_err-ticks.ensures).0 refl in
    rw c.from_residual.ensures (λ _. (stays.right.still.0 none.0, stays.up.still.0 none.1), λ _. refl)

pub returns-clause-still : goal.returns-clause-still
returns-clause-still c =
    let stays = stays_of c.args.rules.now c.args.a.now c.radius-radius.result c.stay-across.result c.stay-upwards.result c.requires.checked c.requires.valid c.radius-radius.ensures.value
    c.stay-across.ensures.still c.stay-upwards.ensures.still c.stay-across.ensures.last c.stay-upwards.ensures.last in
    (λ no. absurd (true≢false no), λ h. (none_sooner _ _ _ c.in_ok-ticks.ensures).1 (stays.right.still.1 h.0, stays.up.still.1 h.1))

pub returns-clause-last : goal.returns-clause-last
returns-clause-last c =
    let stays = stays_of c.args.rules.now c.args.a.now c.radius-radius.result c.stay-across.result c.stay-upwards.result c.requires.checked c.requires.valid c.radius-radius.ensures.value
    c.stay-across.ensures.still c.stay-upwards.ensures.still c.stay-across.ensures.last c.stay-upwards.ensures.last in
    last_inside_is c.args.rules.now c.args.a.now c.in_ok-ticks.ticks
    (inside_up_to c.args.rules.now c.args.a.now c.stay-across.result c.stay-upwards.result (Some c.in_ok-ticks.ticks) c.requires.valid.centre stays
    (up_to_sooner _ _ _ c.in_ok-ticks.ensures))

pub returns-clause-near : goal.returns-clause-near
returns-clause-near c =
    let inside : IsInside c.args.rules.now c.args.a.now (place_of c.args.a.now (c.args.a.now.base + c.in_ok-ticks.ticks)) =
    ((returns-clause-last c).1 (c.args.a.now.base + c.in_ok-ticks.ticks) (from_base c.args.a.now.base c.in_ok-ticks.ticks)).1 (le_refl (c.args.a.now.base + c.in_ok-ticks.ticks)) in
    let m : c.in_ok-ticks.ticks ≤ 1073741824 = stays_short c.args.rules.now c.args.a.now c.in_ok-ticks.ticks c.requires.checked c.requires.valid inside
    (λ h. true≢false ((returns-clause-still c).1 h)) in
    moved_on c.args.a.now.base c.in_ok-ticks.ticks m

pub overflow_add-result : goal.overflow_add-result
overflow_add-result c =
    let m : c.args.a.now.base + c.in_ok-ticks.ticks ≤ c.args.a.now.base + 1073741824 = returns-clause-near c in
    let b = c.requires.valid.base in
    let e = c.requires.checked.end.1 in
    omega (arith, ints)

pub stay-upwards-requires-clause-low : goal.stay-upwards-requires-clause-low
stay-upwards-requires-clause-low c =
    (fits_upwards c.args.rules.now c.args.a.now c.radius-radius.result c.requires.checked c.requires.valid c.radius-radius.ensures.value).low

pub stay-across-requires-clause-low : goal.stay-across-requires-clause-low
stay-across-requires-clause-low c =
    (fits_across c.args.rules.now c.args.a.now c.radius-radius.result c.requires.checked c.requires.valid c.radius-radius.ensures.value).low

pub stay-across-requires-clause-v_size : goal.stay-across-requires-clause-v_size
stay-across-requires-clause-v_size c = slow_sent c.args.a.now.vx (slow_size c.args.rules.now (velocity_of c.args.a.now) c.requires.checked c.requires.valid.velocity).x

pub stay-upwards-requires-clause-v_size : goal.stay-upwards-requires-clause-v_size
stay-upwards-requires-clause-v_size c = slow_sent c.args.a.now.vy (slow_size c.args.rules.now (velocity_of c.args.a.now) c.requires.checked c.requires.valid.velocity).y

pub overflow_sub-rules : goal.overflow_sub-rules
overflow_sub-rules c = room_fits (radius_of c.args.a.now) c.radius-radius.result c.args.rules.now.width (room_across c.args.rules.now c.args.a.now c.requires.checked c.requires.valid.size) c.radius-radius.ensures.value

pub overflow_sub-rules-2 : goal.overflow_sub-rules-2
overflow_sub-rules-2 c = room_fits (radius_of c.args.a.now) c.radius-radius.result c.args.rules.now.height (room_upwards c.args.rules.now c.args.a.now c.requires.checked c.requires.valid.size) c.radius-radius.ensures.value

pub returns-in_err-ticks-clause-last : goal.returns-in_err-ticks-clause-last
returns-in_err-ticks-clause-last c = rw c.from_residual.ensures tt

pub returns-in_err-ticks-clause-near : goal.returns-in_err-ticks-clause-near
returns-in_err-ticks-clause-near c = rw c.from_residual.ensures tt
