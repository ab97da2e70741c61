-- An event of two disks pushes them apart.
use Rattle.std.proofs.Common.{◌≡◌, ◌∙◌, inl, inr, ℕ, ◌<◌, ℤ, pos, nat_abs, ◌+ℤ◌, ◌-ℤ◌, ◌*ℤ◌, Some, List, ap, sym, subst, arith}
use Rattle.std.specs.Prelude.{fold, ◌<ℤ◌}
use Rattle.std.proofs.lemmas.Int.{ints}
use Rattle.std.proofs.lemmas.Option.{none-some, same_Some}
use Rattle.plane_vectors.specs.declared.Vector.{Vector}
use Rattle.plane_vectors.specs.Vectors.{vector, sum, difference, dot}
use Rattle.fixed_motion.specs.declared.rules.Rules.{Rules}
use Rattle.fixed_motion.specs.declared.disk.Disk.{Disk}
use Rattle.fixed_motion.specs.Motion.{centre_of, place_of, velocity_of}
use Rattle.impulse_rounding.proofs.Exact.{recedes}
use Rattle.event_rules.specs.declared.change.Change.{Change}
use Rattle.event_rules.specs.Effect.{impulse_at, pushed, pushed_back}
use Rattle.event_rules.specs.Run.{effect}
use Rattle.event_rules.specs.Conservation.{velocity_if, velocity_at}
use Rattle.event_rules.proofs.Ran.{RanPair, ran}
use Rattle.collision_sums.specs.Sums.{virial_of}
use Rattle.sampled_laws.specs.Laws.{IsPush, VirialsArePushes}
use Rattle.sampled_laws.proofs.Steps.{step_of}

-- what a velocity changed by
gained : (v j : Vector) → difference (sum v j) v ≡ j
gained v j = λ i. vector (back v.x j.x i) (back v.y j.y i)
  where
    back : (m n : ℤ) → (m +ℤ n) -ℤ m ≡ n
    back m n = omega (arith, ints)

positive : (z w : ℤ) → z <ℤ pos 0 → pos 0 <ℤ (z +ℤ (pos 2 *ℤ w)) → pos 0 <ℤ w
positive z w h k = omega (arith, ints)

size_of : (w : ℤ) → pos 0 <ℤ w → pos (nat_abs w) ≡ w
size_of w h = omega (arith, ints)

some_size : (w : ℤ) → pos 0 <ℤ w → 0 < nat_abs w
some_size w h = omega (arith, ints)

pub push : (rules : Rules) (disks : List Disk) (c : Change) (later : Disk) → RanPair rules disks c → c.second ≡ Some later → IsPush disks c later
push rules disks c later p e =
    let s = c.stamp in let a = p.first in let b = p.second in
    let r = difference (place_of a s.tick) (place_of b s.tick) in
    let u = difference (velocity_of a) (velocity_of b) in
    let j = impulse_at s.tick a b in
    let first : c.first ≡ pushed s a j = ap (λ (v : Change). v.first) p.change in
    let second : later ≡ pushed_back s b j =
    same_Some later (pushed_back s b j) (sym e ∙ ap (λ (v : Change). v.second) p.change) in
    let before : velocity_at disks s.first ≡ velocity_of a = ap velocity_if p.first_at in
    let closing = p.event.0.contact.approaching.approaching in
    let apart : pos 0 <ℤ dot r j = positive (dot r u) (dot r j) closing (recedes r u closing) in
    let virial : virial_of (velocity_at disks s.first) c.first later ≡ nat_abs (dot r j) =
    (λ i. virial_of (before i) (first i) (second i))
    ∙ ap (λ (v : Vector). nat_abs (dot r v)) (gained (velocity_of a) j) in
    record {
      first = a;
      second = b;
      first_at = p.first_at;
      second_at = p.second_at;
      first_place = ap centre_of first;
      second_place = ap centre_of second;
      virial = ap pos virial ∙ size_of (dot r j) apart;
      positive = subst (λ (n : ℕ). 0 < n) (sym virial) (some_size (dot r j) apart);
    }

pub virials_are_pushes : VirialsArePushes
virials_are_pushes rules disks before after c later outcome run e =
    let step = step_of rules disks before after c outcome run in
    let state = fold effect disks before in
    elim (ran rules state c step.next.0 step.comes) [
      | inl wall ↦ absurd (none-some later (sym (ap (λ (v : Change). v.second) wall.change) ∙ e))
      | inr pair ↦ push rules state c later pair e
    ]
