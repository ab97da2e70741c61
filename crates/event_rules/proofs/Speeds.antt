-- How fast disks can become in a run.
use Rattle.std.proofs.Common.{◌≡◌, ◌⊎◌, inl, inr, ℕ, zero, suc, ◌+◌, ◌-◌, ◌*◌, ◌<◌, ◌≤◌, Bool, true, false, cond, List, [], ◌∷◌, sym, ap, ◌∙◌, subst, refl, arith, ℤ, pos, nat_abs, ◌-ℤ◌, Option, Some, None, slice_get, slice_set}
use Rattle.std.specs.Prelude.{sum_by, is_some, ◌&&◌, nat_le, length}
use Rattle.std.proofs.lemmas.Int.{ints}
use Rattle.std.proofs.lemmas.Bool.{cases_lt}
use Rattle.std.proofs.lemmas.Bool.Decides.{nat_tests}
use Rattle.std.proofs.lemmas.Option.{none-some, same_Some}
use Rattle.std.proofs.lemmas.List.Sums.{sum_by-cons}
use Rattle.std.proofs.Math.Nat.{mul-le-mul}
use Rattle.impulse_rounding.proofs.Energy.{root_le}
use Rattle.plane_vectors.specs.declared.Vector.{Vector}
use Rattle.plane_vectors.specs.Vectors.{difference}
use Rattle.fixed_motion.specs.declared.rules.Rules.{Rules}
use Rattle.fixed_motion.specs.declared.disk.Disk.{Disk}
use Rattle.fixed_motion.specs.Motion.{velocity_of}
use Rattle.event_stamps.specs.declared.Stamp.{Stamp}
use Rattle.event_stamps.specs.declared.Kind.{Kind}
use Rattle.event_stamps.specs.declared.Kind.TheVariants.{Wall, Pair}
use Rattle.event_rules.specs.declared.change.Change.{Change}
use Rattle.event_rules.specs.declared.change.Limit.{Limit}
use Rattle.event_rules.specs.declared.change.Limit.TheVariants.{Rounds, Speed}
use Rattle.event_rules.specs.declared.outcome.Outcome.TheVariants.{Limit as Passes}
use Rattle.event_rules.specs.Effect.{change_of, keeps_speed, is_slow_disk, pushed, pushed_back, impulse_at}
use Rattle.event_rules.specs.Run.{Runs, Steps, IsWallCandidate, IsPairCandidate, partner_of, effect}
use Rattle.event_rules.specs.Conservation.{square_of, energy, velocity_if, relative_velocity, rounding_of, pairs}
use Rattle.event_rules.specs.Speeds.{IsAtMostSquare, RootOfEnergyNearlyStays, SpeedNeedsCollisions, SpeedLimitSuffices}
use Rattle.event_rules.proofs.Ran.{RanWall, RanPair, ran}
use Rattle.event_rules.proofs.States.{get_same, get_other, applied_err}
use Rattle.event_rules.proofs.Conserved.{event_energy, other_place}
use Rattle.event_rules.proofs.Levels.{few_events_of_a_scene}

-- ---- the parts of a sum
one_part : (f : Disk → ℕ) (disks : List Disk) (i : ℕ) (a : Disk) → slice_get disks i ≡ Some a → f a ≤ sum_by f disks
one_part f [] i a at = absurd (none-some a at)
one_part f (b ∷ disks) zero a at =
    let same : f b ≡ f a = ap f (same_Some b a at) in
    let sum = sum_by-cons f b disks in
    omega arith
one_part f (b ∷ disks) (suc i) a at =
    let rest = one_part f disks i a at in
    let sum = sum_by-cons f b disks in
    omega arith

two_parts : (f : Disk → ℕ) (disks : List Disk) (i j : ℕ) (a b : Disk) → i < j → slice_get disks i ≡ Some a → slice_get disks j ≡ Some b →
    f a + f b ≤ sum_by f disks
two_parts f [] i j a b lt at other = absurd (none-some a at)
two_parts f (c ∷ disks) zero zero a b lt at other = absurd (omega arith)
two_parts f (c ∷ disks) zero (suc j) a b lt at other =
    let same : f c ≡ f a = ap f (same_Some c a at) in
    let rest = one_part f disks j b other in
    let sum = sum_by-cons f c disks in
    omega arith
two_parts f (c ∷ disks) (suc i) zero a b lt at other = absurd (omega arith)
two_parts f (c ∷ disks) (suc i) (suc j) a b lt at other =
    let rest = two_parts f disks i j a b (omega arith) at other in
    let sum = sum_by-cons f c disks in
    omega arith

-- ---- sizes
-- twice a product is at most the sum of the squares
twice_product : (x y : ℕ) → 2 * (x * y) ≤ x * x + y * y
twice_product zero y = omega arith
twice_product (suc x) zero = omega arith
twice_product (suc x) (suc y) = omega (arith, twice_product x y)

-- the sizes of a relative velocity together
relative_square : (a b c d x y sum : ℕ) → x ≤ a + b → y ≤ c + d → (a * a + c * c) + (b * b + d * d) ≤ sum → (x + y) * (x + y) ≤ 4 * sum
relative_square a b c d x y sum hx hy h =
    let le : x + y ≤ a + b + c + d = omega arith in
    let more : (x + y) * (x + y) ≤ (a + b + c + d) * (a + b + c + d) = mul-le-mul le le in
    omega (arith, twice_product a b, twice_product a c, twice_product a d, twice_product b c, twice_product b d, twice_product c d)

size_apart : (m n : ℤ) → nat_abs (m -ℤ n) ≤ nat_abs m + nat_abs n
size_apart m n = grind (arith, ints)

-- ---- one event
-- what an event of two disks changes
record IsNearly (before after : ℕ) : Type 0 where
  pub speed : ℕ
  pub square : speed * speed ≤ 4 * before
  pub more : after ≤ before + (3 * speed + 4)
  pub less : before ≤ after + (3 * speed + 4)

pair_nearly : (rules : Rules) (disks : List Disk) (c : Change) → RanPair rules disks c → IsNearly (energy disks) (energy (effect disks c))
pair_nearly rules disks c p =
    let near = event_energy rules disks c (inr p) in
    let v = velocity_of p.first in
    let w = velocity_of p.second in
    let u = difference v w in
    let relative : relative_velocity disks c.stamp ≡ u = λ i. difference (ap velocity_if p.first_at i) (ap velocity_if p.second_at i) in
    let own : rounding_of disks c ≡ 3 * (nat_abs u.x + nat_abs u.y) + 4 =
    subst (λ (k : Change). rounding_of disks k ≡ 3 * (nat_abs u.x + nat_abs u.y) + 4) (sym p.change)
    (ap (λ (z : Vector). 3 * (nat_abs z.x + nat_abs z.y) + 4) relative) in
    let both : square_of v + square_of w ≤ energy disks =
    two_parts (λ a. square_of (velocity_of a)) disks c.stamp.first c.stamp.second p.first p.second p.order p.first_at p.second_at in
    record {
      speed = nat_abs u.x + nat_abs u.y;
      square = relative_square (nat_abs v.x) (nat_abs w.x) (nat_abs v.y) (nat_abs w.y) (nat_abs u.x) (nat_abs u.y) (energy disks)
          (size_apart v.x w.x) (size_apart v.y w.y) both;
      more = at_most _ _ _ _ near.0 own;
      less = at_most _ _ _ _ near.1 own;
    }
  where
    at_most : (m n k l : ℕ) → m ≤ n + k → k ≡ l → m ≤ n + l
    at_most m n k l h e = omega arith

-- the root of the sum after it, from that before it, and the other way round
root_after : (before after root : ℕ) → IsNearly before after → before ≤ root * root → after ≤ (root + 3) * (root + 3)
root_after before after root h most =
    let square = h.square in
    let speed : h.speed ≤ 2 * root = root_le h.speed (2 * root) (omega arith) in
    let more = h.more in
    omega arith

root_before : (before after root : ℕ) → IsNearly before after → after ≤ root * root → before ≤ (root + 7) * (root + 7)
root_before before after root h most = elim (cases_lt h.speed (2 * root + 14)) [
  | inl slow ↦ (let less = h.less in omega arith)
  | inr fast ↦ absurd (impossible (h.speed - (2 * root + 14)) h.speed before after root (omega arith) h.square h.less most)
]
  where
    impossible : (d speed before after root : ℕ) → speed ≡ (2 * root + 14) + d → speed * speed ≤ 4 * before → before ≤ after + (3 * speed + 4) →
        after ≤ root * root → ⊥
    impossible d speed before after root e square less most =
        let own : ((2 * root + 14) + d) * ((2 * root + 14) + d) ≤ 4 * before = rw (← e) square in
        omega arith

pair_root : (rules : Rules) (disks : List Disk) (c : Change) (p : RanPair rules disks c) (root : ℕ) → IsAtMostSquare disks root →
    IsAtMostSquare (effect disks c) (root + 3)
pair_root rules disks c p root most = root_after (energy disks) (energy (effect disks c)) root (pair_nearly rules disks c p) most

wall_root : (rules : Rules) (disks : List Disk) (c : Change) (w : RanWall rules disks c) (root : ℕ) → IsAtMostSquare disks root →
    IsAtMostSquare (effect disks c) root
wall_root rules disks c w root most =
    let near = event_energy rules disks c (inl w) in
    let own : rounding_of disks c ≡ 0 = subst (λ (k : Change). rounding_of disks k ≡ 0) (sym w.change) refl in
    omega arith

-- one if the change is one of two disks
abbrev pair_count : Change → ℕ
pair_count c = cond (is_some c.second) 1 0

event_root : (rules : Rules) (disks : List Disk) (c : Change) (root : ℕ) → RanWall rules disks c ⊎ RanPair rules disks c →
    IsAtMostSquare disks root → IsAtMostSquare (effect disks c) (root + 3 * pair_count c)
event_root rules disks c root e most = elim e [
  | inl wall ↦
      let none : pair_count c ≡ 0 = ap pair_count wall.change in
      let same : root ≡ root + 3 * pair_count c = omega arith in
      subst (IsAtMostSquare (effect disks c)) same (wall_root rules disks c wall root most)
  | inr pair ↦
      let one : pair_count c ≡ 1 = ap pair_count pair.change in
      let same : root + 3 ≡ root + 3 * pair_count c = omega arith in
      subst (IsAtMostSquare (effect disks c)) same (pair_root rules disks c pair root most)
]

event_root_back : (rules : Rules) (disks : List Disk) (c : Change) (root : ℕ) → RanWall rules disks c ⊎ RanPair rules disks c →
    IsAtMostSquare (effect disks c) root → IsAtMostSquare disks (root + 7 * pair_count c)
event_root_back rules disks c root e most = elim e [
  | inl wall ↦
      let near = event_energy rules disks c (inl wall) in
      let own : rounding_of disks c ≡ 0 = subst (λ (k : Change). rounding_of disks k ≡ 0) (sym wall.change) refl in
      let none : pair_count c ≡ 0 = ap pair_count wall.change in
      let same : root ≡ root + 7 * pair_count c = omega arith in
      subst (IsAtMostSquare disks) same (omega arith)
  | inr pair ↦
      let one : pair_count c ≡ 1 = ap pair_count pair.change in
      let same : root + 7 ≡ root + 7 * pair_count c = omega arith in
      subst (IsAtMostSquare disks) same (root_before (energy disks) (energy (effect disks c)) root (pair_nearly rules disks c pair) most)
]

-- ---- runs
root_grows : (rules : Rules) (disks later : List Disk) (changes : List Change) (root : ℕ) → Steps rules disks changes later →
    IsAtMostSquare disks root → IsAtMostSquare later (root + 3 * pairs changes)
root_grows rules disks later [] root h most =
    let same : energy later ≡ energy disks = ap energy h in
    let own : root ≡ root + 3 * 0 = omega arith in
    subst (IsAtMostSquare later) own (rw same most)
root_grows rules disks later (c ∷ cs) root h most =
    let first = event_root rules disks c root (ran rules disks c h.0.0 h.1) most in
    let rest = root_grows rules (effect disks c) later cs (root + 3 * pair_count c) h.2 first in
    let both : pairs (c ∷ cs) ≡ pair_count c + pairs cs = sum_by-cons pair_count c cs in
    subst (IsAtMostSquare later) (sums root (pair_count c) (pairs cs) (pairs (c ∷ cs)) both) rest
  where
    sums : (root m n k : ℕ) → k ≡ m + n → (root + 3 * m) + 3 * n ≡ root + 3 * k
    sums root m n k e = omega arith

root_shrinks : (rules : Rules) (disks later : List Disk) (changes : List Change) (root : ℕ) → Steps rules disks changes later →
    IsAtMostSquare later root → IsAtMostSquare disks (root + 7 * pairs changes)
root_shrinks rules disks later [] root h most =
    let same : energy disks ≡ energy later = ap energy (sym h) in
    let own : root ≡ root + 7 * 0 = omega arith in
    subst (IsAtMostSquare disks) own (rw same most)
root_shrinks rules disks later (c ∷ cs) root h most =
    let rest = root_shrinks rules (effect disks c) later cs root h.2 most in
    let first = event_root_back rules disks c (root + 7 * pairs cs) (ran rules disks c h.0.0 h.1) rest in
    let both : pairs (c ∷ cs) ≡ pair_count c + pairs cs = sum_by-cons pair_count c cs in
    subst (IsAtMostSquare disks) (sums root (pair_count c) (pairs cs) (pairs (c ∷ cs)) both) first
  where
    sums : (root m n k : ℕ) → k ≡ m + n → (root + 7 * n) + 7 * m ≡ root + 7 * k
    sums root m n k e = omega arith

pub root_of_energy_nearly_stays : RootOfEnergyNearlyStays
root_of_energy_nearly_stays rules disks later changes root h =
    (root_grows rules disks later changes root h, root_shrinks rules disks later changes root h)

-- ---- the event that fails
-- a disk of a state whose sum is at most a square has no greater component
slow_at : (rules : Rules) (xs : List Disk) (i : ℕ) (a : Disk) (root : ℕ) → slice_get xs i ≡ Some a → IsAtMostSquare xs root →
    root ≤ nat_abs rules.speed_limit → is_slow_disk rules a ≡ true
slow_at rules xs i a root at most le =
    let own : square_of (velocity_of a) ≤ energy xs = one_part (λ b. square_of (velocity_of b)) xs i a at in
    let x : nat_abs a.vx ≤ root = root_le (nat_abs a.vx) root (first _ _ _ _ own most) in
    let y : nat_abs a.vy ≤ root = root_le (nat_abs a.vy) root (second _ _ _ _ own most) in
    tested (nat_abs a.vx) (nat_abs a.vy) root (nat_abs rules.speed_limit) x y le
  where
    first : (m n k l : ℕ) → m + n ≤ k → k ≤ l → m ≤ l
    first m n k l h g = omega arith

    second : (m n k l : ℕ) → m + n ≤ k → k ≤ l → n ≤ l
    second m n k l h g = omega arith

    tested : (x y root limit : ℕ) → x ≤ root → y ≤ root → root ≤ limit → (nat_le x limit && nat_le y limit) ≡ true
    tested x y root limit h k le = grind (arith, nat_tests)

-- rules that this event doesn't fail
abbrev loose : Rules → Stamp → ℕ → Rules
loose rules t speed = record {
  width = rules.width;
  height = rules.height;
  diameter = rules.diameter;
  speed_limit = pos speed;
  round_limit = suc t.round;
  end = rules.end;
}

-- the sizes of the new velocities together
abbrev speeds_of : Change → ℕ
speeds_of c = nat_abs c.first.vx + nat_abs c.first.vy + other c.second
  where
    other : Option Disk → ℕ
    other None = 0
    other (Some b) = nat_abs b.vx + nat_abs b.vy

not_next : (n : ℕ) → n ≡ suc n → ⊥
not_next n e = omega arith

wall_fails : (rules : Rules) (xs : List Disk) (t : Stamp) (w : IsWallCandidate rules xs t) (root : ℕ) → IsAtMostSquare xs root →
    keeps_speed rules (change_of t w.0 None) ≡ false → nat_abs rules.speed_limit < root
wall_fails rules xs t w root most fast =
    let c = change_of t w.0 None in
    let more = loose rules t (speeds_of c) in
    let event = w.2 in
    let ran : RanWall more xs c = record {
      disk = w.0;
      at = w.1;
      event = (
        record {
          base = event.0.base;
          inside = record { left = event.0.inside.left; right = event.0.inside.right; bottom = event.0.inside.bottom; top = event.0.inside.top };
          past = event.0.past;
        },
        event.1,
        event.2,
      );
      change = refl;
      round = not_next t.round;
      speed = small (nat_abs c.first.vx) (nat_abs c.first.vy);
    } in
    elim (cases_lt (nat_abs rules.speed_limit) root) [
      | inl lt ↦ lt
      | inr le ↦ absurd (
          let slow = slow_at rules (effect xs c) t.first c.first root (get_same xs t.first c.first w.0 w.1) (wall_root more xs c ran root most) le in
          let keeps : keeps_speed rules c ≡ true = both_slow _ _ slow refl in
          cc)
    ]
  where
    small : (x y : ℕ) → ((nat_le x (x + y + 0) && nat_le y (x + y + 0)) && true) ≡ true
    small x y = grind (arith, nat_tests)

    both_slow : (p q : Bool) → p ≡ true → q ≡ true → (p && q) ≡ true
    both_slow true q e f = f
    both_slow false q e f = cc

apart : (i j : ℕ) → i ≡ j → i < j → ⊥
apart i j e lt = omega arith

pair_fails : (rules : Rules) (xs : List Disk) (t : Stamp) (p : IsPairCandidate rules xs t) (root : ℕ) → IsAtMostSquare xs root →
    keeps_speed rules (change_of t p.1.0 (Some p.1.2.0)) ≡ false → nat_abs rules.speed_limit < root + 3
pair_fails rules xs t p root most fast =
    let a = p.1.0 in
    let b = p.1.2.0 in
    let c = change_of t a (Some b) in
    let more = loose rules t (speeds_of c) in
    let event = p.1.2.2 in
    let contact = event.0 in
    let one = pushed t a (impulse_at t.tick a b) in
    let two = pushed_back t b (impulse_at t.tick a b) in
    let ran : RanPair more xs c = record {
      first = a;
      second = b;
      order = p.0;
      first_at = p.1.1;
      second_at = p.1.2.1;
      event = (
        record {
          first_base = contact.first_base;
          second_base = contact.second_base;
          first_inside = record { left = contact.first_inside.left; right = contact.first_inside.right; bottom = contact.first_inside.bottom; top = contact.first_inside.top };
          second_inside = record { left = contact.second_inside.left; right = contact.second_inside.right; bottom = contact.second_inside.bottom; top = contact.second_inside.top };
          contact = contact.contact;
        },
        event.1,
        event.2,
      );
      change = refl;
      round = not_next t.round;
      speed = small (nat_abs one.vx) (nat_abs one.vy) (nat_abs two.vx) (nat_abs two.vy);
    } in
    let after = pair_root more xs c ran root most in
    elim (cases_lt (nat_abs rules.speed_limit) (root + 3)) [
      | inl lt ↦ lt
      | inr le ↦ absurd (
          let first = slow_at rules (effect xs c) t.first one (root + 3)
          (get_other (slice_set xs t.first one) t.second t.first two (λ e. apart t.first t.second e p.0) ∙ get_same xs t.first one a p.1.1) after le in
          let second = slow_at rules (effect xs c) t.second two (root + 3)
          (get_same (slice_set xs t.first one) t.second two b (other_place xs t.first t.second one b p.0 p.1.2.1)) after le in
          let keeps : keeps_speed rules c ≡ true = both_slow _ _ first second in
          cc)
    ]
  where
    small : (x y u v : ℕ) → ((nat_le x (x + y + (u + v)) && nat_le y (x + y + (u + v))) && (nat_le u (x + y + (u + v)) && nat_le v (x + y + (u + v)))) ≡ true
    small x y u v = grind (arith, nat_tests)

    both_slow : (p q : Bool) → p ≡ true → q ≡ true → (p && q) ≡ true
    both_slow true q e f = f
    both_slow false q e f = cc

speed_fails : (rules : Rules) (xs : List Disk) (s : Stamp) (root : ℕ) → Runs rules xs [] (Passes (Speed s)) → IsAtMostSquare xs root →
    nat_abs rules.speed_limit < root + 3
speed_fails rules xs s root run most =
    let t = run.0 in
    let comes = run.2 in
    let o = partner_of t.kind xs t.second in
    elim (applied_err rules t comes.0 o (Speed s) comes.2) [
      | inl rounds ↦ absurd (no_rounds s t rounds)
      | inr speed ↦ elim run.1.0 [
        | inl wall ↦
            let same : comes.0 ≡ wall.0 = same_Some comes.0 wall.0 (sym comes.1 ∙ wall.1) in
            let kind : t.kind ≡ Wall = ap (λ (v : Stamp). v.kind) wall.2.2 in
            let partner : o ≡ None = ap (λ (k : Kind). partner_of k xs t.second) kind in
            let fast : keeps_speed rules (change_of t wall.0 None) ≡ false =
            (λ i. keeps_speed rules (change_of t (sym same i) (sym partner i))) ∙ speed.1 in
            let lt = wall_fails rules xs t wall root most fast in
            omega arith
        | inr pair ↦
            let same : comes.0 ≡ pair.1.0 = same_Some comes.0 pair.1.0 (sym comes.1 ∙ pair.1.1) in
            let kind : t.kind ≡ Pair = ap (λ (v : Stamp). v.kind) pair.1.2.2.2 in
            let partner : o ≡ Some pair.1.2.0 = ap (λ (k : Kind). partner_of k xs t.second) kind ∙ pair.1.2.1 in
            let fast : keeps_speed rules (change_of t pair.1.0 (Some pair.1.2.0)) ≡ false =
            (λ i. keeps_speed rules (change_of t (sym same i) (sym partner i))) ∙ speed.1 in
            pair_fails rules xs t pair root most fast
      ]
    ]
  where
    no_rounds : (s t : Stamp) → ◌≡◌ {A = Limit} (Speed s) (Rounds t) → ⊥
    no_rounds s t e = cc

pub speed_needs_collisions : SpeedNeedsCollisions
speed_needs_collisions rules disks [] s root run most =
    let lt = speed_fails rules disks s root run most in
    omega arith
speed_needs_collisions rules disks (c ∷ cs) s root run most =
    let first = event_root rules disks c root (ran rules disks c run.0.0 run.1) most in
    let rest = speed_needs_collisions rules (effect disks c) cs s (root + 3 * pair_count c) run.2 first in
    let both : pairs (c ∷ cs) ≡ pair_count c + pairs cs = sum_by-cons pair_count c cs in
    omega arith

few_pairs : (cs : List Change) → pairs cs ≤ length cs
few_pairs [] = omega arith
few_pairs (c ∷ cs) =
    let both : pairs (c ∷ cs) ≡ pair_count c + pairs cs = sum_by-cons pair_count c cs in
    let rest = few_pairs cs in
    let one = at_most (is_some c.second) in
    omega arith
  where
    at_most : (p : Bool) → cond p 1 0 ≤ 1
    at_most true = omega arith
    at_most false = omega arith

pub speed_limit_suffices : SpeedLimitSuffices
speed_limit_suffices scene changes s root valid most enough run =
    let need = speed_needs_collisions scene.rules scene.disks changes s root run most in
    let few = few_events_of_a_scene scene changes (Passes (Speed s)) valid run in
    let less = few_pairs changes in
    omega arith
