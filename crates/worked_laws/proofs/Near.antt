-- How near the two come, at ticks and between them.
use Rattle.std.proofs.Common.{◌≡◌, ℕ, zero, suc, ◌*◌, ◌<◌, ◌≤◌, refl, subst, arith}
use Rattle.std.specs.Prelude.{ℤ, pos, negsuc, neg_ℤ, nat_abs, ◌+ℤ◌, ◌-ℤ◌, ◌*ℤ◌, ◌<ℤ◌}
use Rattle.std.proofs.lemmas.Int.{ints, by_lt_z}
use Rattle.std.proofs.Math.Nat.{mul-le-mul}
use Rattle.fixed_motion.specs.Motion.{half_of}
use Rattle.event_rules.specs.Moments.{OverlapAt}
use Rattle.real_collisions.specs.Touching.{TouchFrom}
use Rattle.worked_laws.proofs.PairRun.{first, second}

-- a square is at least that of a smaller size
square_least : (x : ℤ) (n : ℕ) → n ≤ nat_abs x → ¬ ((x *ℤ x) <ℤ (pos n *ℤ pos n))
square_least (pos m) n most h = let k : n * n ≤ m * m = mul-le-mul most most in omega (arith, ints)
square_least (negsuc m) n most h = let k : n * n ≤ suc m * suc m = mul-le-mul most most in omega (arith, ints)

square_not_below : (y : ℤ) → (y *ℤ y) <ℤ pos 0 → ⊥
square_not_below (pos n) h = omega (arith, ints)
square_not_below (negsuc n) h = omega (arith, ints)

-- two places this far apart on one axis are no nearer
far : (x y d : ℤ) (n : ℕ) → d ≡ pos n → n ≤ nat_abs x → ((x *ℤ x) +ℤ (y *ℤ y)) <ℤ (d *ℤ d) → ⊥
far x y d n e most h =
    square_least x n most (less (x *ℤ x) (y *ℤ y) (pos n *ℤ pos n) (square_not_below y) (subst (λ (k : ℤ). ((x *ℤ x) +ℤ (y *ℤ y)) <ℤ (k *ℤ k)) e h))
  where
    less : (p q r : ℤ) → ¬ (q <ℤ pos 0) → (p +ℤ q) <ℤ r → p <ℤ r
    less p q r least h = by_lt_z q (pos 0) (λ below. absurd (least below)) (λ not_below. omega (arith, ints))

-- the difference of two places at a part of a tick, of disks that meet at the speed 1
abbrev between : ℤ → ℤ → ℕ → ℕ → ℤ
between x y part whole = ((x *ℤ pos whole) +ℤ (pos 1 *ℤ pos part)) -ℤ ((y *ℤ pos whole) +ℤ (neg_ℤ (pos 1) *ℤ pos part))

-- and of the other coordinates, which are the same
abbrev level : ℕ → ℕ → ℤ
level part whole = ((pos 10 *ℤ pos whole) +ℤ (pos 0 *ℤ pos part)) -ℤ ((pos 10 *ℤ pos whole) +ℤ (pos 0 *ℤ pos part))

-- in the ticks 0, 1 and 2 the pair doesn't overlap
apart_before : (tick part whole : ℕ) → tick < 3 → part ≤ whole → ¬ OverlapAt (record { tick = tick; part = part; whole = whole }) first second
unfolding half_of
apart_before zero p w few most h = far (between (pos 10) (pos 20) p w) (level p w) (pos 4 *ℤ pos w) (4 * w) (omega (arith, ints)) (omega (arith, ints)) h
apart_before (suc zero) p w few most h = far (between (pos 11) (pos 19) p w) (level p w) (pos 4 *ℤ pos w) (4 * w) (omega (arith, ints)) (omega (arith, ints)) h
apart_before (suc (suc zero)) p w few most h = far (between (pos 12) (pos 18) p w) (level p w) (pos 4 *ℤ pos w) (4 * w) (omega (arith, ints)) (omega (arith, ints)) h
apart_before (suc (suc (suc n))) p w few most h = absurd (omega arith)

-- so they don't touch from one of these on
no_touch_before : (tick : ℕ) → tick < 3 → TouchFrom first second tick → ⊥
no_touch_before tick few touch =
    let m = touch.moment in
    apart_before tick m.part m.whole few touch.within.most
    (subst (λ (n : ℕ). OverlapAt (record { tick = n; part = m.part; whole = m.whole }) first second) touch.from touch.overlap)

-- they do from tick 3 on only
pub only_touch : (tick : ℕ) → TouchFrom first second tick → tick ≡ 3
unfolding half_of
only_touch zero touch = absurd (no_touch_before 0 (omega arith) touch)
only_touch (suc zero) touch = absurd (no_touch_before 1 (omega arith) touch)
only_touch (suc (suc zero)) touch = absurd (no_touch_before 2 (omega arith) touch)
only_touch (suc (suc (suc zero))) touch = refl
only_touch (suc (suc (suc (suc zero)))) touch = absurd (touch.apart (omega (arith, ints)))
only_touch (suc (suc (suc (suc (suc n))))) touch =
    absurd (touch.before (record { tick = 4; part = 0; whole = 1 }) (record { some = omega arith; most = omega arith }) (omega arith) (omega arith)
    (omega arith) (omega (arith, ints)))
