-- The side chooses the test.
use Rattle.std.proofs.Common.{rules, ◌≡◌, ◌↔◌, ℕ, IsTrue, arith, inl, inr}
use Rattle.std.specs.Prelude.{◌⊎◌, ℤ, ◌-ℤ◌, ◌<ℤ◌, FitsSigned}
use Rattle.std.proofs.lemmas.Int.{ints}
use lib.Signed.{lt_z}
use mir.Syntax.{w64}
use Rattle.plane_vectors.proofs.Sizes.{sent, sent_same}
use Rattle.fixed_motion.specs.Motion.{radius_of}
use Rattle.event_rules.proofs.Courses.{HasRoom, room_across, room_upwards, room_sent, room_fits}
use Rattle.event_rules.proofs.wall_events.is_past.Goals as goal

less : (x y : ℤ) → IsTrue (lt_z x y) ↔ (x <ℤ y)
less x y = (λ h. grind (arith, ints), λ h. grind (arith, ints))

beyond : (radius r side n : ℤ) → HasRoom radius side → r ≡ radius → FitsSigned w64 n →
    IsTrue (lt_z (sent (sent side -ℤ sent r)) (sent n)) ↔ ((side -ℤ radius) <ℤ n)
beyond radius r side n room e fits = rw (room_sent radius r side room e, sent_same n fits) (less (side -ℤ radius) n)

short_of : (radius r side n : ℤ) → HasRoom radius side → r ≡ radius → FitsSigned w64 n →
    IsTrue (lt_z (sent n) (sent r)) ↔ (n <ℤ radius)
short_of radius r side n room e fits =
    let least = room.least in
    let two = room.two in
    let most = room.most in
    let part : sent radius ≡ radius = sent_same radius (omega (arith, ints)) in
    rw (e, part, sent_same n fits) (less n radius)

first_of : (side : ℕ) {X A B C D : Type 0} → side ≡ 0 → (X ↔ A) → X ↔ (((side ≡ 0) × A) ⊎ (((side ≡ 1) × B) ⊎ (((side ≡ 2) × C) ⊎ ((side ≡ 3) × D))))
first_of side {X} {A} {B} {C} {D} e h = (λ x. inl (e, h.0 x), back)
  where
    back : (((side ≡ 0) × A) ⊎ (((side ≡ 1) × B) ⊎ (((side ≡ 2) × C) ⊎ ((side ≡ 3) × D)))) → X
    back (inl k) = h.1 k.1
    back (inr (inl k)) = let n = k.0 in absurd (omega arith)
    back (inr (inr (inl k))) = let n = k.0 in absurd (omega arith)
    back (inr (inr (inr k))) = let n = k.0 in absurd (omega arith)

third_of : (side : ℕ) {X A B C D : Type 0} → side ≡ 2 → (X ↔ C) → X ↔ (((side ≡ 0) × A) ⊎ (((side ≡ 1) × B) ⊎ (((side ≡ 2) × C) ⊎ ((side ≡ 3) × D))))
third_of side {X} {A} {B} {C} {D} e h = (λ x. inr (inr (inl (e, h.0 x))), back)
  where
    back : (((side ≡ 0) × A) ⊎ (((side ≡ 1) × B) ⊎ (((side ≡ 2) × C) ⊎ ((side ≡ 3) × D)))) → X
    back (inl k) = let n = k.0 in absurd (omega arith)
    back (inr (inl k)) = let n = k.0 in absurd (omega arith)
    back (inr (inr (inl k))) = h.1 k.1
    back (inr (inr (inr k))) = let n = k.0 in absurd (omega arith)

second_of : (side : ℕ) {X A B C D : Type 0} → side ≡ 1 → (X ↔ B) → X ↔ (((side ≡ 0) × A) ⊎ (((side ≡ 1) × B) ⊎ (((side ≡ 2) × C) ⊎ ((side ≡ 3) × D))))
second_of side {X} {A} {B} {C} {D} e h = (λ x. inr (inl (e, h.0 x)), back)
  where
    back : (((side ≡ 0) × A) ⊎ (((side ≡ 1) × B) ⊎ (((side ≡ 2) × C) ⊎ ((side ≡ 3) × D)))) → X
    back (inl k) = let n = k.0 in absurd (omega arith)
    back (inr (inl k)) = h.1 k.1
    back (inr (inr (inl k))) = let n = k.0 in absurd (omega arith)
    back (inr (inr (inr k))) = let n = k.0 in absurd (omega arith)

fourth_of : (side : ℕ) {X A B C D : Type 0} → side ≡ 3 → (X ↔ D) → X ↔ (((side ≡ 0) × A) ⊎ (((side ≡ 1) × B) ⊎ (((side ≡ 2) × C) ⊎ ((side ≡ 3) × D))))
fourth_of side {X} {A} {B} {C} {D} e h = (λ x. inr (inr (inr (e, h.0 x))), back)
  where
    back : (((side ≡ 0) × A) ⊎ (((side ≡ 1) × B) ⊎ (((side ≡ 2) × C) ⊎ ((side ≡ 3) × D)))) → X
    back (inl k) = let n = k.0 in absurd (omega arith)
    back (inr (inl k)) = let n = k.0 in absurd (omega arith)
    back (inr (inr (inl k))) = let n = k.0 in absurd (omega arith)
    back (inr (inr (inr k))) = h.1 k.1

pub returns-in-0 : goal.returns-in-0
returns-in-0 c =
    let fits : FitsSigned w64 c.args.place.x = search rules in
    first_of c.args.side c.in-0.is
    (short_of (radius_of c.args.a.now) c.radius-radius.result c.args.rules.now.width c.args.place.x
    (room_across c.args.rules.now c.args.a.now c.requires.checked c.requires.valid.size) c.radius-radius.ensures.value fits)

pub returns-in-2 : goal.returns-in-2
returns-in-2 c =
    let fits : FitsSigned w64 c.args.place.y = search rules in
    third_of c.args.side c.in-2.is
    (short_of (radius_of c.args.a.now) c.radius-radius.result c.args.rules.now.height c.args.place.y
    (room_upwards c.args.rules.now c.args.a.now c.requires.checked c.requires.valid.size) c.radius-radius.ensures.value fits)

pub returns-in-1 : goal.returns-in-1
returns-in-1 c =
    let fits : FitsSigned w64 c.args.place.x = search rules in
    second_of c.args.side c.in-1.is
    (beyond (radius_of c.args.a.now) c.radius-radius.result c.args.rules.now.width c.args.place.x
    (room_across c.args.rules.now c.args.a.now c.requires.checked c.requires.valid.size) c.radius-radius.ensures.value fits)

pub returns-in_default : goal.returns-in_default
returns-in_default c =
    let fits : FitsSigned w64 c.args.place.y = search rules in
    fourth_of c.args.side (omega arith)
    (beyond (radius_of c.args.a.now) c.radius-radius.result c.args.rules.now.height c.args.place.y
    (room_upwards c.args.rules.now c.args.a.now c.requires.checked c.requires.valid.size) c.radius-radius.ensures.value fits)

pub overflow_sub-result : goal.overflow_sub-result
overflow_sub-result c = room_fits (radius_of c.args.a.now) c.radius-radius.result c.args.rules.now.width
    (room_across c.args.rules.now c.args.a.now c.requires.checked c.requires.valid.size) c.radius-radius.ensures.value

pub overflow_sub-result-in_default : goal.overflow_sub-result-in_default
overflow_sub-result-in_default c = room_fits (radius_of c.args.a.now) c.radius-radius.result c.args.rules.now.height
    (room_upwards c.args.rules.now c.args.a.now c.requires.checked c.requires.valid.size) c.radius-radius.ensures.value
