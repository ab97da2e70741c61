-- The numbers of a scene have few bits.
use Rattle.std.proofs.Common.{◌≡◌, ◌≤◌, ℕ, max, arith, sym, subst}
use Rattle.std.specs.Prelude.{ℤ, pos, ◌≤ℤ◌}
use Rattle.std.proofs.lemmas.Int.{ints}
use Rattle.plane_vectors.proofs.Sizes.{sent, sent_same}
use Rattle.event_rules.specs.Scale.{bits_past}
use Rattle.event_rules.proofs.Rounding.{few_bits}
use Rattle.event_rules.proofs.scale.Scale.of.Goals as goal

few_speeds : (n : ℤ) (past : ℕ) → pos 1 ≤ℤ n → n ≤ℤ pos 1048576 → past ≡ bits_past 14 (sent n) → past ≤ 7
few_speeds n past h k is =
    let few : bits_past 14 n ≤ 7 = few_bits 14 20 n (omega arith) (omega (arith, ints)) (omega (arith, ints)) in
    subst (λ (m : ℕ). m ≤ 7) (sym is) (subst (λ (m : ℤ). bits_past 14 m ≤ 7) (sym (sent_same n (omega (arith, ints)))) few)

few_places : (n : ℤ) (past : ℕ) → pos 2 ≤ℤ n → n ≤ℤ pos 1073741824 → past ≡ bits_past 15 (sent n) → past ≤ 16
few_places n past h k is =
    let few : bits_past 15 n ≤ 16 = few_bits 15 30 n (omega arith) (omega (arith, ints)) (omega (arith, ints)) in
    subst (λ (m : ℕ). m ≤ 16) (sym is) (subst (λ (m : ℤ). bits_past 15 m ≤ 16) (sym (sent_same n (omega (arith, ints)))) few)

greater : (k m n : ℕ) → k ≡ max m n → m ≤ 16 → n ≤ 16 → k ≤ 16
greater k m n is hm hn = omega arith

pub invariant_of-result : goal.invariant_of-result
invariant_of-result c =
    let checked = c.requires in
    let scene = c.args.rules.now in
    let wide = few_places scene.width c.bits_past-2.result checked.width.0 checked.width.1 c.bits_past-2.ensures in
    let high = few_places scene.height c.bits_past-3.result checked.height.0 checked.height.1 c.bits_past-3.ensures in
    record {
      few_speeds = few_speeds scene.speed_limit c.bits_past.result checked.speed_limit.0 checked.speed_limit.1 c.bits_past.ensures;
      few_places = greater c.max.result c.bits_past-2.result c.bits_past-3.result c.max.ensures wide high;
    }
