-- Runs mirrored: candidates, their order, their results, and states.
use Rattle.std.proofs.Common.{◌≡◌, inl, inr, ℕ, ◌+◌, ◌<◌, Bool, true, false, List, [], ◌∷◌, map, sym, ap, ◌∙◌, subst, refl, arith, Option, Some, None, Result, Ok, Err, slice_get, slice_set}
use Rattle.std.specs.Prelude.{ℤ, neg_ℤ, nat_abs, ◌*ℤ◌, ◌<ℤ◌, ◌==◌, ◌&&◌, nat_lt, nat_le, if◌then◌else◌}
use Rattle.std.specs.Option.{option_map}
use Rattle.std.proofs.lemmas.Bool.Decides.{nat_tests}
use Rattle.std.proofs.lemmas.Option.{none-some, same_Some, slice_get-map}
use Rattle.std.proofs.lemmas.List.{map-set, length-map}
use Rattle.plane_vectors.specs.declared.Vector.{Vector}
use Rattle.plane_vectors.specs.Vectors.{vector, sum, difference, dot}
use Rattle.fixed_motion.specs.declared.rules.Rules.{Rules}
use Rattle.fixed_motion.specs.declared.disk.Disk.{Disk}
use Rattle.fixed_motion.specs.Motion.{place_of, centre_of, velocity_of, contact_distance, is_slow, Overlaps, IsValidDisk}
use Rattle.fixed_motion.specs.Scene.{IsAtStart}
use Rattle.event_stamps.specs.declared.Stamp.{Stamp}
use Rattle.event_stamps.specs.declared.Kind.{Kind}
use Rattle.event_stamps.specs.declared.Kind.TheVariants.{Cross, Wall, Pair}
use Rattle.event_stamps.specs.Order.{Before}
use Rattle.event_rules.specs.declared.change.Change.{Change}
use Rattle.event_rules.specs.declared.change.Limit.{Limit}
use Rattle.event_rules.specs.declared.outcome.Outcome.{Outcome}
use Rattle.event_rules.specs.declared.outcome.Outcome.TheVariants.{Done, Limit as Passes}
use Rattle.impulse_rounding.specs.Impulse.{impulse_of}
use Rattle.event_rules.specs.Events.{IsWallTick}
use Rattle.event_rules.specs.Effect.{applied, change_of, keeps_speed, turned, bounced, impulse_at}
use Rattle.event_rules.specs.Told.{HasDisksOf}
use Rattle.event_rules.specs.Run.{Runs, IsCandidate, IsWallCandidate, IsPairCandidate, IsNext, ComesTo, partner_of, set_some, effect, spot_of, spots_of}
use Rattle.mirrored_runs.specs.Mirror.{Axis, LeftRight, BottomTop, mirrored, mirrored_vector, mirrored_side, mirrored_second, mirrored_stamp, mirrored_if, mirrored_change, mirrored_limit, mirrored_spot, mirrored_outcome, RunsMirror, MirrorsAreValid}
use Rattle.mirrored_runs.proofs.Mirrored.{dot_mirrored, sum_mirrored, difference_mirrored, slow_mirrored, place_mirrored, places_mirrored, mirrored_twice, inside_mirrored, wall_mirrored, AreAcross, not_past_both, separation_mirrored, contact_tick_mirrored, impulse_mirrored}
use Rattle.event_rules.proofs.Ran.{ran, ran_tellable}
use Rattle.alike_runs.proofs.Turned.{neg_size}
use Rattle.alike_runs.proofs.Carried.{order_by, seconds_by, result_by, applied_by}

-- ---- sides
side_twice : (axis : Axis) (n : ℕ) → mirrored_side axis (mirrored_side axis n) ≡ n
side_twice LeftRight n = grind (arith, nat_tests)
side_twice BottomTop n = grind (arith, nat_tests)

second_twice : (axis : Axis) (k : Kind) (n : ℕ) → mirrored_second axis k (mirrored_second axis k n) ≡ n
second_twice axis Cross n = refl
second_twice axis Wall n = side_twice axis n
second_twice axis Pair n = refl

stamp_twice : (axis : Axis) (s : Stamp) → mirrored_stamp axis (mirrored_stamp axis s) ≡ s
stamp_twice axis s = let n = second_twice axis s.kind s.second in
    λ i. record { tick = s.tick; round = s.round; kind = s.kind; first = s.first; second = n i }

-- the order of two sides that don't change places with each other
sides_order : (axis : Axis) (m n : ℕ) → (AreAcross axis m n → ⊥) → (AreAcross axis n m → ⊥) → mirrored_side axis m < mirrored_side axis n → m < n
sides_order LeftRight m n h k lt = grind (arith, nat_tests)
sides_order BottomTop m n h k lt = grind (arith, nat_tests)

side_tested : (axis : Axis) (n : ℕ) → nat_lt (mirrored_side axis n) 2 ≡ nat_lt n 2
side_tested LeftRight n = grind (arith, nat_tests)
side_tested BottomTop n = grind (arith, nat_tests)

second_tested : (axis : Axis) (k : Kind) (n : ℕ) → nat_lt (mirrored_second axis k n) 2 ≡ nat_lt n 2
second_tested axis Cross n = refl
second_tested axis Wall n = side_tested axis n
second_tested axis Pair n = refl

-- ---- velocities
turned_mirrored : (axis : Axis) (k : Kind) (side : ℕ) (v : Vector) →
    turned (mirrored_second axis k side) (mirrored_vector axis v) ≡ mirrored_vector axis (turned side v)
turned_mirrored axis k side v = ap (λ (p : Bool). turned_if p (mirrored_vector axis v)) (second_tested axis k side) ∙ by_test axis (nat_lt side 2)
  where
    turned_if : Bool → Vector → Vector
    turned_if p w = if p then vector (neg_ℤ w.x) w.y else vector w.x (neg_ℤ w.y)

    by_test : (axis : Axis) (p : Bool) → turned_if p (mirrored_vector axis v) ≡ mirrored_vector axis (turned_if p v)
    by_test LeftRight true = refl
    by_test LeftRight false = refl
    by_test BottomTop true = refl
    by_test BottomTop false = refl

is_slow_mirrored : (axis : Axis) (rules : Rules) (v : Vector) → is_slow rules (mirrored_vector axis v) ≡ is_slow rules v
is_slow_mirrored LeftRight rules v = let size = neg_size v.x in
    λ i. nat_le (size i) (nat_abs rules.speed_limit) && nat_le (nat_abs v.y) (nat_abs rules.speed_limit)
is_slow_mirrored BottomTop rules v = let size = neg_size v.y in
    λ i. nat_le (nat_abs v.x) (nat_abs rules.speed_limit) && nat_le (size i) (nat_abs rules.speed_limit)

module _ (axis : Axis) (rules : Rules) where
  bounced_mirrored : (s : Stamp) (a : Disk) → bounced (mirrored_stamp axis s) (mirrored axis rules a) ≡ mirrored axis rules (bounced s a)
  bounced_mirrored s a =
      let p = place_mirrored axis rules a s.tick in
      let v = turned_mirrored axis s.kind s.second (velocity_of a) in
      λ i. record { x = (p i).x; y = (p i).y; vx = (v i).x; vy = (v i).y; size = a.size; base = s.tick; mark = s.round + 1 }

  impulse_at_mirrored : (tick : ℕ) (a b : Disk) →
      impulse_at tick (mirrored axis rules a) (mirrored axis rules b) ≡ mirrored_vector axis (impulse_at tick a b)
  impulse_at_mirrored tick a b =
      by_vectors _ _ _ _ (separation_mirrored axis rules a b tick) (difference_mirrored axis (velocity_of a) (velocity_of b))
    where
      by_vectors : (r u s v : Vector) → s ≡ mirrored_vector axis r → v ≡ mirrored_vector axis u → impulse_of s v ≡ mirrored_vector axis (impulse_of r u)
      by_vectors r u s v p q = rw (p, q) (impulse_mirrored axis r u)

  change_mirrored : (s : Stamp) (a : Disk) (b : Option Disk) →
      change_of (mirrored_stamp axis s) (mirrored axis rules a) (mirrored_if axis rules b) ≡ mirrored_change axis rules (change_of s a b)
  change_mirrored s a None = let first = bounced_mirrored s a in
      λ i. record { stamp = mirrored_stamp axis s; first = first i; second = None }
  change_mirrored s a (Some b) =
      let j = impulse_at_mirrored s.tick a b in
      let p = place_mirrored axis rules a s.tick in
      let q = place_mirrored axis rules b s.tick in
      let v = ap (sum (mirrored_vector axis (velocity_of a))) j ∙ sum_mirrored axis (velocity_of a) (impulse_at s.tick a b) in
      let w = ap (difference (mirrored_vector axis (velocity_of b))) j ∙ difference_mirrored axis (velocity_of b) (impulse_at s.tick a b) in
      λ i. record {
        stamp = mirrored_stamp axis s;
        first = record { x = (p i).x; y = (p i).y; vx = (v i).x; vy = (v i).y; size = a.size; base = s.tick; mark = s.round + 1 };
        second = Some (record { x = (q i).x; y = (q i).y; vx = (w i).x; vy = (w i).y; size = b.size; base = s.tick; mark = s.round + 1 });
      }

  speeds_mirrored : (s : Stamp) (a : Disk) (o : Option Disk) →
      keeps_speed rules (record { stamp = mirrored_stamp axis s; first = mirrored axis rules a; second = mirrored_if axis rules o })
      ≡ keeps_speed rules (record { stamp = s; first = a; second = o })
  speeds_mirrored s a None = ap (λ (p : Bool). p && true) (is_slow_mirrored axis rules (velocity_of a))
  speeds_mirrored s a (Some b) = let first = is_slow_mirrored axis rules (velocity_of a) in let second = is_slow_mirrored axis rules (velocity_of b) in λ i. first i && second i

  abbrev mirrored_result : Result Change Limit → Result Change Limit
  mirrored_result r = result_by (mirrored_change axis rules) (mirrored_limit axis) r

  applied_mirrored : (s : Stamp) (a : Disk) (b : Option Disk) →
      applied rules (mirrored_stamp axis s) (mirrored axis rules a) (mirrored_if axis rules b) ≡ mirrored_result (applied rules s a b)
  applied_mirrored s a b =
      let c = change_of s a b in
      let d = change_of (mirrored_stamp axis s) (mirrored axis rules a) (mirrored_if axis rules b) in
      let same = change_mirrored s a b in
      applied_by (mirrored_change axis rules) (mirrored_limit axis) (s.round == rules.round_limit) (keeps_speed rules c) (keeps_speed rules d)
      s (mirrored_stamp axis s) c d same (ap (keeps_speed rules) same ∙ speeds_mirrored s c.first c.second) refl refl

  -- ---- states
  abbrev pub mirrored_disks : List Disk → List Disk
  mirrored_disks disks = map (mirrored axis rules) disks

  disks_twice : (disks : List Disk) → mirrored_disks (mirrored_disks disks) ≡ disks
  disks_twice [] = refl
  disks_twice (a ∷ disks) = λ i. mirrored_twice axis rules a i ∷ disks_twice disks i

  mapped_if : (o : Option Disk) → option_map (mirrored axis rules) o ≡ mirrored_if axis rules o
  mapped_if None = refl
  mapped_if (Some a) = refl

  disk_mirrored : (disks : List Disk) (i : ℕ) →
      slice_get (mirrored_disks disks) i ≡ mirrored_if axis rules (slice_get disks i)
  disk_mirrored disks i = slice_get-map (mirrored axis rules) disks i ∙ mapped_if (slice_get disks i)

  disk_at : (disks : List Disk) (i : ℕ) (a : Disk) → slice_get disks i ≡ Some a →
      slice_get (mirrored_disks disks) i ≡ Some (mirrored axis rules a)
  disk_at disks i a at = disk_mirrored disks i ∙ ap (mirrored_if axis rules) at

  partner_mirrored : (k : Kind) (disks : List Disk) (n : ℕ) →
      partner_of k (mirrored_disks disks) (mirrored_second axis k n) ≡ mirrored_if axis rules (partner_of k disks n)
  partner_mirrored Cross disks n = refl
  partner_mirrored Wall disks n = refl
  partner_mirrored Pair disks n = disk_mirrored disks n

  comes_mirrored : (disks : List Disk) (s : Stamp) (r : Result Change Limit) → ComesTo rules disks s r →
      ComesTo rules (mirrored_disks disks) (mirrored_stamp axis s) (mirrored_result r)
  comes_mirrored disks s r h =
      let partner = partner_mirrored s.kind disks s.second in (
        mirrored axis rules h.0,
        disk_at disks s.first h.0 h.1,
        ap mirrored_result h.2 ∙ sym (applied_mirrored s h.0 (partner_of s.kind disks s.second))
            ∙ ap (applied rules (mirrored_stamp axis s) (mirrored axis rules h.0)) (sym partner),
      )

  set_some_mirrored : (k : Kind) (n : ℕ) (disks : List Disk) (o : Option Disk) → HasDisksOf k o →
      set_some (mirrored_disks disks) (mirrored_second axis k n) (mirrored_if axis rules o) ≡ mirrored_disks (set_some disks n o)
  set_some_mirrored Cross n disks o h = absurd h
  set_some_mirrored Wall n disks None h = refl
  set_some_mirrored Wall n disks (Some a) h = absurd h
  set_some_mirrored Pair n disks None h = absurd h
  set_some_mirrored Pair n disks (Some a) h = sym (map-set (mirrored axis rules) disks n a)

  pub effect_mirrored : (disks : List Disk) (c : Change) → HasDisksOf c.stamp.kind c.second →
      effect (mirrored_disks disks) (mirrored_change axis rules c) ≡ mirrored_disks (effect disks c)
  effect_mirrored disks c h =
      ap (λ (xs : List Disk). set_some xs (mirrored_second axis c.stamp.kind c.stamp.second) (mirrored_if axis rules c.second))
      (sym (map-set (mirrored axis rules) disks c.stamp.first c.first))
      ∙ set_some_mirrored c.stamp.kind c.stamp.second (slice_set disks c.stamp.first c.first) c.second h

  -- ---- candidates
  wall_candidate : (disks : List Disk) (s : Stamp) → IsWallCandidate rules disks s →
      IsWallCandidate rules (mirrored_disks disks) (mirrored_stamp axis s)
  wall_candidate disks s h =
      subst (λ (t : Stamp). IsWallCandidate rules (mirrored_disks disks) (mirrored_stamp axis t)) (sym h.2.2)
      (mirrored axis rules h.0, disk_at disks s.first h.0 h.1, (wall_mirrored axis rules h.0 s.second s.tick h.2.0, h.2.1, refl))

  pair_candidate : (disks : List Disk) (s : Stamp) → IsPairCandidate rules disks s →
      IsPairCandidate rules (mirrored_disks disks) (mirrored_stamp axis s)
  pair_candidate disks s h =
      let a = h.1.0 in
      let b = h.1.2.0 in
      let event = h.1.2.2 in
      subst (λ (t : Stamp). IsPairCandidate rules (mirrored_disks disks) (mirrored_stamp axis t)) (sym event.2) (
        h.0,
        (
          mirrored axis rules a,
          disk_at disks s.first a h.1.1,
          (mirrored axis rules b, disk_at disks s.second b h.1.2.1, (contact_tick_mirrored axis rules a b s.tick event.0, event.1, refl)),
        ),
      )

  candidate_mirrored : (disks : List Disk) (s : Stamp) → IsCandidate rules disks s →
      IsCandidate rules (mirrored_disks disks) (mirrored_stamp axis s)
  candidate_mirrored disks s h = elim h [
    | inl wall ↦ inl (wall_candidate disks s wall)
    | inr pair ↦ inr (pair_candidate disks s pair)
  ]

  candidate_back : (disks : List Disk) (s : Stamp) → IsCandidate rules (mirrored_disks disks) s →
      IsCandidate rules disks (mirrored_stamp axis s)
  candidate_back disks s h =
      subst (λ (xs : List Disk). IsCandidate rules xs (mirrored_stamp axis s)) (disks_twice disks)
      (candidate_mirrored (mirrored_disks disks) s h)

  -- ---- their order
  walls_order : (disks : List Disk) (s t : Stamp) → IsWallCandidate rules disks s → IsWallCandidate rules disks t →
      s.tick ≡ t.tick → s.first ≡ t.first → mirrored_side axis s.second < mirrored_side axis t.second → s.second < t.second
  walls_order disks s t h k tick first lt =
      let a = h.0 in
      let same : k.0 ≡ a = same_Some k.0 a (sym k.1 ∙ ap (slice_get disks) (sym first) ∙ h.1) in
      let wall : IsWallTick rules a t.second s.tick =
      subst (λ (n : ℕ). IsWallTick rules a t.second n) (sym tick) (subst (λ (b : Disk). IsWallTick rules b t.second t.tick) same k.2.0) in
      let own = h.2.0 in
      sides_order axis s.second t.second
      (not_past_both axis rules a s.second t.second (place_of a s.tick) (place_of a (s.tick + 1)) own.inside own.past wall.past)
      (not_past_both axis rules a t.second s.second (place_of a s.tick) (place_of a (s.tick + 1)) own.inside wall.past own.past) lt

  candidates_order : (disks : List Disk) (s t : Stamp) → IsCandidate rules disks s → IsCandidate rules disks t →
      Before (mirrored_stamp axis s) (mirrored_stamp axis t) → Before s t
  candidates_order disks s t h k before = order_by s t (mirrored_second axis s.kind s.second) (mirrored_second axis t.kind t.second)
      (λ tick kind first. seconds_by (mirrored_second axis) (λ n. refl) rules disks s t h k kind (λ wall other. walls_order disks s t wall other tick first)) before

  next_mirrored : (disks : List Disk) (s : Stamp) → IsNext rules disks s →
      IsNext rules (mirrored_disks disks) (mirrored_stamp axis s)
  next_mirrored disks s next = (
    candidate_mirrored disks s next.0,
    λ t h before.
        let back = candidate_back disks t h in
        next.1 (mirrored_stamp axis t) back
        (candidates_order disks (mirrored_stamp axis t) s back next.0
        (subst (λ (u : Stamp). Before u (mirrored_stamp axis s)) (sym (stamp_twice axis t)) before)),
  )

  -- ---- runs
  spot_mirrored : (tick : ℕ) (a : Disk) → spot_of tick (mirrored axis rules a) ≡ mirrored_spot axis rules (spot_of tick a)
  spot_mirrored tick a = let p = place_mirrored axis rules a tick in
      λ i. record { x = (p i).x; y = (p i).y; vx = (mirrored_vector axis (velocity_of a)).x; vy = (mirrored_vector axis (velocity_of a)).y }

  pub spots_mirrored : (tick : ℕ) (disks : List Disk) →
      map (mirrored_spot axis rules) (spots_of tick disks) ≡ spots_of tick (mirrored_disks disks)
  spots_mirrored tick [] = refl
  spots_mirrored tick (a ∷ disks) = λ i. sym (spot_mirrored tick a) i ∷ spots_mirrored tick disks i

  run_mirrored : (disks : List Disk) (changes : List Change) (outcome : Outcome) → Runs rules disks changes outcome →
      Runs rules (mirrored_disks disks) (map (mirrored_change axis rules) changes) (mirrored_outcome axis rules outcome)
  run_mirrored disks [] (Done spots) run = (
    λ s h. run.0 (mirrored_stamp axis s) (candidate_back disks s h),
    ap (map (mirrored_spot axis rules)) run.1 ∙ spots_mirrored rules.end disks,
  )
  run_mirrored disks [] (Passes limit) run = (
    mirrored_stamp axis run.0,
    next_mirrored disks run.0 run.1,
    comes_mirrored disks run.0 (Err limit) run.2,
  )
  run_mirrored disks (c ∷ cs) outcome run = (
    next_mirrored disks c.stamp run.0,
    comes_mirrored disks c.stamp (Ok c) run.1,
    subst (λ (xs : List Disk). Runs rules xs (map (mirrored_change axis rules) cs) (mirrored_outcome axis rules outcome))
        (sym (effect_mirrored disks c (ran_tellable rules disks c (ran rules disks c run.0.0 run.1))))
        (run_mirrored (effect disks c) cs outcome run.2),
  )

  -- ---- scenes
  -- a disk of the mirrored state is one of the state, mirrored
  record IsMirrorOf (disks : List Disk) (i : ℕ) (d : Disk) : Type 0 where
    pub disk : Disk
    pub at : slice_get disks i ≡ Some disk
    pub same : d ≡ mirrored axis rules disk

  mirror_of : (disks : List Disk) (i : ℕ) (d : Disk) → slice_get (mirrored_disks disks) i ≡ Some d →
      IsMirrorOf disks i d
  mirror_of disks i d at = by_cases (slice_get disks i) refl (sym (disk_mirrored disks i) ∙ at)
    where
      by_cases : (o : Option Disk) → slice_get disks i ≡ o → mirrored_if axis rules o ≡ Some d → IsMirrorOf disks i d
      by_cases None e h = absurd (none-some d h)
      by_cases (Some a) e h = record { disk = a; at = e; same = sym (same_Some (mirrored axis rules a) d h) }

  valid_mirrored : (a : Disk) → IsValidDisk rules a → IsValidDisk rules (mirrored axis rules a)
  valid_mirrored a h = record {
    size = h.size;
    centre = inside_mirrored axis rules a (centre_of a) h.centre;
    velocity = slow_mirrored axis rules (velocity_of a) h.velocity;
    base = h.base;
    mark = h.mark;
  }

  start_mirrored : (a : Disk) → IsAtStart rules a → IsAtStart rules (mirrored axis rules a)
  start_mirrored a h = record { valid = valid_mirrored a h.valid; base = h.base; mark = h.mark }

  overlap_mirrored : (a b : Disk) →
      Overlaps (contact_distance (mirrored axis rules a) (mirrored axis rules b)) (centre_of (mirrored axis rules a)) (centre_of (mirrored axis rules b)) →
      Overlaps (contact_distance a b) (centre_of a) (centre_of b)
  overlap_mirrored a b h =
      let distance = contact_distance a b in
      let r = places_mirrored axis rules (centre_of a) (centre_of b) in
      subst (λ (n : ℤ). n <ℤ (distance *ℤ distance))
      ((λ i. dot (r i) (r i)) ∙ dot_mirrored axis (difference (centre_of a) (centre_of b)) (difference (centre_of a) (centre_of b))) h

-- ---- the laws
pub runs_mirror : RunsMirror
runs_mirror axis scene changes outcome run = run_mirrored axis scene.rules scene.disks changes outcome run

pub mirrors_are_valid : MirrorsAreValid
mirrors_are_valid axis scene valid = record {
  rules = valid.rules;
  count = let same = length-map scene.disks (mirrored axis scene.rules) in let count = valid.count in omega arith;
  disks = λ i d at.
      let m = mirror_of axis scene.rules scene.disks i d at in
      subst (IsAtStart scene.rules) (sym m.same) (start_mirrored axis scene.rules m.disk (valid.disks i m.disk m.at));
  apart = λ i j c d lt at other overlap.
      let m = mirror_of axis scene.rules scene.disks i c at in
      let n = mirror_of axis scene.rules scene.disks j d other in
      valid.apart i j m.disk n.disk lt m.at n.at (overlap_mirrored axis scene.rules m.disk n.disk (in_place c d _ _ m.same n.same overlap));
  every = valid.every;
}
  where
    in_place : (c d e f : Disk) → c ≡ e → d ≡ f → Overlaps (contact_distance c d) (centre_of c) (centre_of d) →
        Overlaps (contact_distance e f) (centre_of e) (centre_of f)
    in_place c d e f p q h = subst (λ (x : Disk). Overlaps (contact_distance e x) (centre_of e) (centre_of x)) q
        (subst (λ (x : Disk). Overlaps (contact_distance x d) (centre_of x) (centre_of d)) p h)
