-- Sides turn disks at their places, or up to a tick's way before them.
use Rattle.std.proofs.Common.{◌≡◌, ◌∙◌, ◌⊎◌, inl, inr, ℕ, ◌+◌, ◌*◌, ◌^◌, ◌≤◌, Bool, true, false, if◌then◌else◌, ℤ, pos, neg_ℤ, nat_abs, ◌+ℤ◌, ◌-ℤ◌, ◌*ℤ◌, List, [], ◌∷◌, length, Option, Some, None, slice_set, ap, refl, sym, subst, arith}
use Rattle.std.specs.Prelude.{◌<ℤ◌, ◌≤ℤ◌}
use Rattle.std.proofs.lemmas.Int.{ints}
use Rattle.std.proofs.Math.IntN.{*ℤ-zero}
use Rattle.std.proofs.Math.Nat.{mul-le-mul_right}
use Rattle.plane_vectors.specs.declared.Vector.{Vector}
use Rattle.plane_vectors.specs.Vectors.{vector, sum, dot, IsWithin}
use Rattle.plane_vectors.proofs.Products.{distributes}
use Rattle.contact_predictor.proofs.Approaching.{place_next}
use Rattle.fixed_motion.specs.declared.rules.Rules.{Rules}
use Rattle.fixed_motion.specs.declared.disk.Disk.{Disk}
use Rattle.fixed_motion.specs.Rules.{IsChecked}
use Rattle.fixed_motion.specs.Motion.{IsSize, IsSlow, centre_of, velocity_of, place_of, radius_of, half_of}
use Rattle.fixed_motion.proofs.Sizes.{radius_least, slow_size}
use Rattle.event_stamps.specs.declared.Stamp.{Stamp}
use Rattle.event_rules.specs.declared.change.Change.{Change}
use Rattle.event_rules.specs.declared.outcome.Outcome.{Outcome}
use Rattle.event_rules.specs.Events.{IsPast, IsWallTick}
use Rattle.event_rules.specs.Effect.{turned, moved, pushed, pushed_back, impulse_at}
use Rattle.event_rules.specs.Counts.{FewEventsOfAScene}
use Rattle.event_rules.specs.Run.{Runs, IsValidState, effect, set_some, spots_of}
use Rattle.event_rules.specs.Conservation.{turned_at, turned_by, velocity_at}
use Rattle.event_rules.proofs.Apart.{KeepPlaces, wall_keeps, pair_keeps}
use Rattle.event_rules.proofs.Fits.{change_fits}
use Rattle.event_rules.proofs.Ran.{RanWall, RanPair, ran, event_valid}
use Rattle.event_rules.proofs.Ranges.{starts_valid}
use Rattle.event_rules.proofs.States.{get_set}
use Rattle.collision_sums.specs.declared.sums.Sums.{Sums}
use Rattle.collision_sums.specs.Sums.{no_sums, added, taken_of, has_middle_in_part, virial_of, after_pair, after_wall, after_change, is_away}
use Rattle.run_samples.specs.declared.sample.Sample.TheVariants.{Sums as Summed}
use Rattle.run_samples.specs.Samples.{sums_after}
use Rattle.sampled_laws.specs.Virial.{AreOfSize, IsWithinAbove, SidesTurnAtTheirPlaces, SidesTellTheVirial, outward, flown, pushed_from_places, taken_by_all, turned_there}
use Rattle.sampled_laws.proofs.Inside.{in_length}
use Rattle.sampled_laws.proofs.Outward.{spread}
use Rattle.sampled_laws.proofs.Sides.{HasRoom, added_is, has_room, towards_least, towards_most, twice_size}
use Rattle.sampled_laws.proofs.Small.{IsSmall, none_small}
use Rattle.sampled_laws.proofs.Virials.{few_changes, step_fits, virial_theorem_at_end_by}

-- ---- products with a side's place
more_at : (at : ℤ) (n m : ℕ) → at *ℤ pos (n + m) ≡ (at *ℤ pos n) +ℤ (at *ℤ pos m)
more_at at n m = ap (λ (z : ℤ). at *ℤ z) (split n m) ∙ spread at (pos n) (pos m)
  where
    split : (n m : ℕ) → pos (n + m) ≡ pos n +ℤ pos m
    split n m = omega (arith, ints)

-- a product with a number from a little above another
farther : (at p : ℤ) (k m : ℕ) → p ≡ at +ℤ pos k → p *ℤ pos m ≡ (at *ℤ pos m) +ℤ pos (k * m)
farther at p k m e = ap (λ (z : ℤ). z *ℤ pos m) e ∙ distributes at (pos k) (pos m)

against : (p u : ℤ) (m : ℕ) → u +ℤ pos m ≡ pos 0 → (p *ℤ u) +ℤ (p *ℤ pos m) ≡ pos 0
against p u m e = sym (spread p u (pos m)) ∙ ap (λ (z : ℤ). p *ℤ z) e ∙ *ℤ-zero p

-- what a side turns at p, a little inside of its place, against what it takes there
lower_turns : (at p v : ℤ) (limit : ℕ) → v <ℤ pos 0 → at ≤ℤ p → (p +ℤ v) <ℤ at → nat_abs v ≤ limit →
    IsWithinAbove (at *ℤ pos (taken_of (neg_ℤ v))) (limit * taken_of (neg_ℤ v)) (p *ℤ (pos 2 *ℤ neg_ℤ v))
lower_turns at p v limit h inside past slow =
    let k = nat_abs (p -ℤ at) in
    let m = taken_of (neg_ℤ v) in
    let twice = ap (λ (z : ℤ). p *ℤ z) (exact v h) ∙ farther at p k m (way at p inside) in
    let less : k * m ≤ limit * m = mul-le-mul_right m (near at p v limit inside past slow) in
    within (p *ℤ (pos 2 *ℤ neg_ℤ v)) (at *ℤ pos m) (k * m) (limit * m) twice less
  where
    exact : (v : ℤ) → v <ℤ pos 0 → pos 2 *ℤ neg_ℤ v ≡ pos (2 * nat_abs (neg_ℤ v))
    exact v h = omega (arith, ints)

    way : (at p : ℤ) → at ≤ℤ p → p ≡ at +ℤ pos (nat_abs (p -ℤ at))
    way at p h = omega (arith, ints)

    near : (at p v : ℤ) (limit : ℕ) → at ≤ℤ p → (p +ℤ v) <ℤ at → nat_abs v ≤ limit → nat_abs (p -ℤ at) ≤ limit
    near at p v limit h k g = omega (arith, ints)

    within : (z x : ℤ) (n l : ℕ) → z ≡ x +ℤ pos n → n ≤ l → IsWithinAbove x l z
    within z x n l e h = (omega (arith, ints), omega (arith, ints))

upper_turns : (at p v : ℤ) (limit : ℕ) → pos 0 <ℤ v → p ≤ℤ at → at <ℤ (p +ℤ v) → nat_abs v ≤ limit →
    IsWithinAbove (pos 0 -ℤ (at *ℤ pos (taken_of (neg_ℤ v)))) (limit * taken_of (neg_ℤ v)) (p *ℤ (pos 2 *ℤ neg_ℤ v))
upper_turns at p v limit h inside past slow =
    let k = nat_abs (at -ℤ p) in
    let m = taken_of (neg_ℤ v) in
    let back = against p (pos 2 *ℤ neg_ℤ v) m (exact v h) in
    let there = farther p at k m (way at p inside) in
    let less : k * m ≤ limit * m = mul-le-mul_right m (near at p v limit inside past slow) in
    within (p *ℤ (pos 2 *ℤ neg_ℤ v)) (p *ℤ pos m) (at *ℤ pos m) (k * m) (limit * m) back there less
  where
    exact : (v : ℤ) → pos 0 <ℤ v → (pos 2 *ℤ neg_ℤ v) +ℤ pos (2 * nat_abs (neg_ℤ v)) ≡ pos 0
    exact v h = omega (arith, ints)

    way : (at p : ℤ) → p ≤ℤ at → at ≡ p +ℤ pos (nat_abs (at -ℤ p))
    way at p h = omega (arith, ints)

    near : (at p v : ℤ) (limit : ℕ) → p ≤ℤ at → at <ℤ (p +ℤ v) → nat_abs v ≤ limit → nat_abs (at -ℤ p) ≤ limit
    near at p v limit h k g = omega (arith, ints)

    within : (z y x : ℤ) (n l : ℕ) → z +ℤ y ≡ pos 0 → x ≡ y +ℤ pos n → n ≤ l → IsWithinAbove (pos 0 -ℤ x) l z
    within z y x n l e f h = (omega (arith, ints), omega (arith, ints))

-- ---- sums
-- from some sums to others, what was turned is what the sides took meanwhile, each times its place, reversed, or a little more
record IsTurned (rules : Rules) (radius : ℤ) (s : Sums) (turned : ℤ) (t : Sums) : Type 0 where
  pub least : pushed_from_places rules radius s ≤ℤ (turned +ℤ pushed_from_places rules radius t)
  pub most : ((turned +ℤ pushed_from_places rules radius t) +ℤ pos (nat_abs rules.speed_limit * taken_by_all s))
      ≤ℤ (pushed_from_places rules radius s +ℤ pos (nat_abs rules.speed_limit * taken_by_all t))

-- one of the four sides takes more
left_more : (w h r z : ℤ) (left right bottom top m l : ℕ) → IsWithinAbove (r *ℤ pos m) (l * m) z →
    ((((w *ℤ pos right) +ℤ (h *ℤ pos top)) -ℤ (r *ℤ pos (left + bottom)))
    ≤ℤ (z +ℤ (((w *ℤ pos right) +ℤ (h *ℤ pos top)) -ℤ (r *ℤ pos ((left + m) + bottom)))))
    × (((z +ℤ (((w *ℤ pos right) +ℤ (h *ℤ pos top)) -ℤ (r *ℤ pos ((left + m) + bottom)))) +ℤ pos (l * (left + right + bottom + top)))
    ≤ℤ ((((w *ℤ pos right) +ℤ (h *ℤ pos top)) -ℤ (r *ℤ pos (left + bottom))) +ℤ pos (l * ((left + m) + right + bottom + top))))
left_more w h r z left right bottom top m l own =
    joined (w *ℤ pos right) (h *ℤ pos top) (r *ℤ pos (left + bottom)) (r *ℤ pos m) (r *ℤ pos ((left + m) + bottom)) z
    (l * (left + right + bottom + top)) (l * m) (l * ((left + m) + right + bottom + top))
    (ap (λ (n : ℕ). r *ℤ pos n) (sorted left m bottom) ∙ more_at r (left + bottom) m) (all l left m right bottom top) own
  where
    sorted : (a b c : ℕ) → (a + b) + c ≡ (a + c) + b
    sorted a b c = omega arith

    all : (l a m b c d : ℕ) → l * ((a + m) + b + c + d) ≡ l * (a + b + c + d) + l * m
    all l a m b c d = omega arith

    joined : (x y a b c z : ℤ) (n m k : ℕ) → c ≡ a +ℤ b → k ≡ n + m → IsWithinAbove b m z →
        (((x +ℤ y) -ℤ a) ≤ℤ (z +ℤ ((x +ℤ y) -ℤ c))) × (((z +ℤ ((x +ℤ y) -ℤ c)) +ℤ pos n) ≤ℤ (((x +ℤ y) -ℤ a) +ℤ pos k))
    joined x y a b c z n m k e f h =
        let low = h.0 in let high = h.1 in (omega (arith, ints), omega (arith, ints))

bottom_more : (w h r z : ℤ) (left right bottom top m l : ℕ) → IsWithinAbove (r *ℤ pos m) (l * m) z →
    ((((w *ℤ pos right) +ℤ (h *ℤ pos top)) -ℤ (r *ℤ pos (left + bottom)))
    ≤ℤ (z +ℤ (((w *ℤ pos right) +ℤ (h *ℤ pos top)) -ℤ (r *ℤ pos (left + (bottom + m))))))
    × (((z +ℤ (((w *ℤ pos right) +ℤ (h *ℤ pos top)) -ℤ (r *ℤ pos (left + (bottom + m))))) +ℤ pos (l * (left + right + bottom + top)))
    ≤ℤ ((((w *ℤ pos right) +ℤ (h *ℤ pos top)) -ℤ (r *ℤ pos (left + bottom))) +ℤ pos (l * (left + right + (bottom + m) + top))))
bottom_more w h r z left right bottom top m l own =
    joined (w *ℤ pos right) (h *ℤ pos top) (r *ℤ pos (left + bottom)) (r *ℤ pos m) (r *ℤ pos (left + (bottom + m))) z
    (l * (left + right + bottom + top)) (l * m) (l * (left + right + (bottom + m) + top))
    (ap (λ (n : ℕ). r *ℤ pos n) (sorted left m bottom) ∙ more_at r (left + bottom) m) (all l left m right bottom top) own
  where
    sorted : (a b c : ℕ) → a + (c + b) ≡ (a + c) + b
    sorted a b c = omega arith

    all : (l a m b c d : ℕ) → l * (a + b + (c + m) + d) ≡ l * (a + b + c + d) + l * m
    all l a m b c d = omega arith

    joined : (x y a b c z : ℤ) (n m k : ℕ) → c ≡ a +ℤ b → k ≡ n + m → IsWithinAbove b m z →
        (((x +ℤ y) -ℤ a) ≤ℤ (z +ℤ ((x +ℤ y) -ℤ c))) × (((z +ℤ ((x +ℤ y) -ℤ c)) +ℤ pos n) ≤ℤ (((x +ℤ y) -ℤ a) +ℤ pos k))
    joined x y a b c z n m k e f h =
        let low = h.0 in let high = h.1 in (omega (arith, ints), omega (arith, ints))

right_more : (w h r z : ℤ) (left right bottom top m l : ℕ) → IsWithinAbove (pos 0 -ℤ (w *ℤ pos m)) (l * m) z →
    ((((w *ℤ pos right) +ℤ (h *ℤ pos top)) -ℤ (r *ℤ pos (left + bottom)))
    ≤ℤ (z +ℤ (((w *ℤ pos (right + m)) +ℤ (h *ℤ pos top)) -ℤ (r *ℤ pos (left + bottom)))))
    × (((z +ℤ (((w *ℤ pos (right + m)) +ℤ (h *ℤ pos top)) -ℤ (r *ℤ pos (left + bottom)))) +ℤ pos (l * (left + right + bottom + top)))
    ≤ℤ ((((w *ℤ pos right) +ℤ (h *ℤ pos top)) -ℤ (r *ℤ pos (left + bottom))) +ℤ pos (l * (left + (right + m) + bottom + top))))
right_more w h r z left right bottom top m l own =
    joined (w *ℤ pos right) (h *ℤ pos top) (r *ℤ pos (left + bottom)) (w *ℤ pos m) (w *ℤ pos (right + m)) z
    (l * (left + right + bottom + top)) (l * m) (l * (left + (right + m) + bottom + top))
    (more_at w right m) (all l left m right bottom top) own
  where
    all : (l a m b c d : ℕ) → l * (a + (b + m) + c + d) ≡ l * (a + b + c + d) + l * m
    all l a m b c d = omega arith

    joined : (x y a b c z : ℤ) (n m k : ℕ) → c ≡ x +ℤ b → k ≡ n + m → IsWithinAbove (pos 0 -ℤ b) m z →
        (((x +ℤ y) -ℤ a) ≤ℤ (z +ℤ ((c +ℤ y) -ℤ a))) × (((z +ℤ ((c +ℤ y) -ℤ a)) +ℤ pos n) ≤ℤ (((x +ℤ y) -ℤ a) +ℤ pos k))
    joined x y a b c z n m k e f h =
        let low = h.0 in let high = h.1 in (omega (arith, ints), omega (arith, ints))

top_more : (w h r z : ℤ) (left right bottom top m l : ℕ) → IsWithinAbove (pos 0 -ℤ (h *ℤ pos m)) (l * m) z →
    ((((w *ℤ pos right) +ℤ (h *ℤ pos top)) -ℤ (r *ℤ pos (left + bottom)))
    ≤ℤ (z +ℤ (((w *ℤ pos right) +ℤ (h *ℤ pos (top + m))) -ℤ (r *ℤ pos (left + bottom)))))
    × (((z +ℤ (((w *ℤ pos right) +ℤ (h *ℤ pos (top + m))) -ℤ (r *ℤ pos (left + bottom)))) +ℤ pos (l * (left + right + bottom + top)))
    ≤ℤ ((((w *ℤ pos right) +ℤ (h *ℤ pos top)) -ℤ (r *ℤ pos (left + bottom))) +ℤ pos (l * (left + right + bottom + (top + m)))))
top_more w h r z left right bottom top m l own =
    joined (w *ℤ pos right) (h *ℤ pos top) (r *ℤ pos (left + bottom)) (h *ℤ pos m) (h *ℤ pos (top + m)) z
    (l * (left + right + bottom + top)) (l * m) (l * (left + right + bottom + (top + m)))
    (more_at h top m) (all l left m right bottom top) own
  where
    all : (l a m b c d : ℕ) → l * (a + b + c + (d + m)) ≡ l * (a + b + c + d) + l * m
    all l a m b c d = omega arith

    joined : (x y a b c z : ℤ) (n m k : ℕ) → c ≡ y +ℤ b → k ≡ n + m → IsWithinAbove (pos 0 -ℤ b) m z →
        (((x +ℤ y) -ℤ a) ≤ℤ (z +ℤ ((x +ℤ c) -ℤ a))) × (((z +ℤ ((x +ℤ c) -ℤ a)) +ℤ pos n) ≤ℤ (((x +ℤ y) -ℤ a) +ℤ pos k))
    joined x y a b c z n m k e f h =
        let low = h.0 in let high = h.1 in (omega (arith, ints), omega (arith, ints))

-- ---- an event at a side
-- what a side turns, along one axis alone
across_alone : (p v : ℤ) (q : ℤ) → (p *ℤ v) +ℤ (q *ℤ pos 0) ≡ p *ℤ v
across_alone p v q = nothing (p *ℤ v) (q *ℤ pos 0) (*ℤ-zero q)
  where
    nothing : (m n : ℤ) → n ≡ pos 0 → m +ℤ n ≡ m
    nothing m n e = omega (arith, ints)

upwards_alone : (p v : ℤ) (q : ℤ) → (q *ℤ pos 0) +ℤ (p *ℤ v) ≡ p *ℤ v
upwards_alone p v q = nothing (p *ℤ v) (q *ℤ pos 0) (*ℤ-zero q)
  where
    nothing : (m n : ℤ) → n ≡ pos 0 → n +ℤ m ≡ m
    nothing m n e = omega (arith, ints)

abbrev IsTurnedAt : Rules → Stamp → Disk → Sums → ℕ → Type 0
IsTurnedAt rules s a sums side =
    let v = turned side (velocity_of a) in
    IsTurned rules (radius_of a) sums (dot (place_of a s.tick) (turned_at side v)) (after_wall rules 0 sums side (moved s a v))

wall_turns : (rules : Rules) (s : Stamp) (a : Disk) (sums : Sums) → IsSize rules a.size → IsSlow rules (velocity_of a) → IsWithin (2 ^ 20) (velocity_of a) → HasRoom sums →
    IsWallTick rules a s.second s.tick → IsTurnedAt rules s a sums s.second
wall_turns rules s a sums size slow small room h = by_side h.past
  where
    p : Vector
    p = place_of a s.tick

    limit : ℕ
    limit = nat_abs rules.speed_limit

    least : pos 1 ≤ℤ radius_of a
    least = radius_least rules a size

    upwards : is_away 0 rules.height p.y ≡ true
    upwards = in_length rules.height p.y (radius_of a) least h.inside.bottom h.inside.top

    across : is_away 0 rules.width p.x ≡ true
    across = in_length rules.width p.x (radius_of a) least h.inside.left h.inside.right

    next : place_of a (s.tick + 1) ≡ sum p (velocity_of a)
    next = place_next (centre_of a) (velocity_of a) a.base s.tick h.base

    by_side : IsPast rules a s.second (place_of a (s.tick + 1)) → IsTurnedAt rules s a sums s.second
    by_side (inl left) =
        let past : (p.x +ℤ a.vx) <ℤ radius_of a = subst (λ (q : Vector). q.x <ℤ radius_of a) next left.1 in
        let v : a.vx <ℤ pos 0 = towards_least (radius_of a) p.x a.vx h.inside.left past in
        let turns = lower_turns (radius_of a) p.x a.vx limit v h.inside.left past slow.x in
        let alone = subst (IsWithinAbove (radius_of a *ℤ pos (taken_of (neg_ℤ a.vx))) (limit * taken_of (neg_ℤ a.vx))) (sym (across_alone p.x (pos 2 *ℤ neg_ℤ a.vx) p.y)) turns in
        let more = left_more (rules.width -ℤ radius_of a) (rules.height -ℤ radius_of a) (radius_of a) (dot p (vector (pos 2 *ℤ neg_ℤ a.vx) (pos 0)))
        sums.left sums.right sums.bottom sums.top (taken_of (neg_ℤ a.vx)) limit alone in
        subst (IsTurnedAt rules s a sums) (sym left.0)
        (subst (λ (b : Bool). IsTurned rules (radius_of a) sums (dot p (vector (pos 2 *ℤ neg_ℤ a.vx) (pos 0)))
        (if b then record sums { walls = added sums.walls 1; left = added sums.left (taken_of (neg_ℤ a.vx)) } else sums)) (sym upwards)
        (subst (λ (n : ℕ). IsTurned rules (radius_of a) sums (dot p (vector (pos 2 *ℤ neg_ℤ a.vx) (pos 0))) (record sums { walls = added sums.walls 1; left = n }))
        (sym (added_is sums.left (taken_of (neg_ℤ a.vx)) room.left (twice_size a.vx small.x)))
        (record { least = more.0; most = more.1 })))
    by_side (inr (inl right)) =
        let past : (rules.width -ℤ radius_of a) <ℤ (p.x +ℤ a.vx) = subst (λ (q : Vector). (rules.width -ℤ radius_of a) <ℤ q.x) next right.1 in
        let v : pos 0 <ℤ a.vx = towards_most (rules.width -ℤ radius_of a) p.x a.vx h.inside.right past in
        let turns = upper_turns (rules.width -ℤ radius_of a) p.x a.vx limit v h.inside.right past slow.x in
        let alone = subst (IsWithinAbove (pos 0 -ℤ ((rules.width -ℤ radius_of a) *ℤ pos (taken_of (neg_ℤ a.vx)))) (limit * taken_of (neg_ℤ a.vx))) (sym (across_alone p.x (pos 2 *ℤ neg_ℤ a.vx) p.y)) turns in
        let more = right_more (rules.width -ℤ radius_of a) (rules.height -ℤ radius_of a) (radius_of a) (dot p (vector (pos 2 *ℤ neg_ℤ a.vx) (pos 0)))
        sums.left sums.right sums.bottom sums.top (taken_of (neg_ℤ a.vx)) limit alone in
        subst (IsTurnedAt rules s a sums) (sym right.0)
        (subst (λ (b : Bool). IsTurned rules (radius_of a) sums (dot p (vector (pos 2 *ℤ neg_ℤ a.vx) (pos 0)))
        (if b then record sums { walls = added sums.walls 1; right = added sums.right (taken_of (neg_ℤ a.vx)) } else sums)) (sym upwards)
        (subst (λ (n : ℕ). IsTurned rules (radius_of a) sums (dot p (vector (pos 2 *ℤ neg_ℤ a.vx) (pos 0))) (record sums { walls = added sums.walls 1; right = n }))
        (sym (added_is sums.right (taken_of (neg_ℤ a.vx)) room.right (twice_size a.vx small.x)))
        (record { least = more.0; most = more.1 })))
    by_side (inr (inr (inl bottom))) =
        let past : (p.y +ℤ a.vy) <ℤ radius_of a = subst (λ (q : Vector). q.y <ℤ radius_of a) next bottom.1 in
        let v : a.vy <ℤ pos 0 = towards_least (radius_of a) p.y a.vy h.inside.bottom past in
        let turns = lower_turns (radius_of a) p.y a.vy limit v h.inside.bottom past slow.y in
        let alone = subst (IsWithinAbove (radius_of a *ℤ pos (taken_of (neg_ℤ a.vy))) (limit * taken_of (neg_ℤ a.vy))) (sym (upwards_alone p.y (pos 2 *ℤ neg_ℤ a.vy) p.x)) turns in
        let more = bottom_more (rules.width -ℤ radius_of a) (rules.height -ℤ radius_of a) (radius_of a) (dot p (vector (pos 0) (pos 2 *ℤ neg_ℤ a.vy)))
        sums.left sums.right sums.bottom sums.top (taken_of (neg_ℤ a.vy)) limit alone in
        subst (IsTurnedAt rules s a sums) (sym bottom.0)
        (subst (λ (b : Bool). IsTurned rules (radius_of a) sums (dot p (vector (pos 0) (pos 2 *ℤ neg_ℤ a.vy)))
        (if b then record sums { walls = added sums.walls 1; bottom = added sums.bottom (taken_of (neg_ℤ a.vy)) } else sums)) (sym across)
        (subst (λ (n : ℕ). IsTurned rules (radius_of a) sums (dot p (vector (pos 0) (pos 2 *ℤ neg_ℤ a.vy))) (record sums { walls = added sums.walls 1; bottom = n }))
        (sym (added_is sums.bottom (taken_of (neg_ℤ a.vy)) room.bottom (twice_size a.vy small.y)))
        (record { least = more.0; most = more.1 })))
    by_side (inr (inr (inr top))) =
        let past : (rules.height -ℤ radius_of a) <ℤ (p.y +ℤ a.vy) = subst (λ (q : Vector). (rules.height -ℤ radius_of a) <ℤ q.y) next top.1 in
        let v : pos 0 <ℤ a.vy = towards_most (rules.height -ℤ radius_of a) p.y a.vy h.inside.top past in
        let turns = upper_turns (rules.height -ℤ radius_of a) p.y a.vy limit v h.inside.top past slow.y in
        let alone = subst (IsWithinAbove (pos 0 -ℤ ((rules.height -ℤ radius_of a) *ℤ pos (taken_of (neg_ℤ a.vy)))) (limit * taken_of (neg_ℤ a.vy))) (sym (upwards_alone p.y (pos 2 *ℤ neg_ℤ a.vy) p.x)) turns in
        let more = top_more (rules.width -ℤ radius_of a) (rules.height -ℤ radius_of a) (radius_of a) (dot p (vector (pos 0) (pos 2 *ℤ neg_ℤ a.vy)))
        sums.left sums.right sums.bottom sums.top (taken_of (neg_ℤ a.vy)) limit alone in
        subst (IsTurnedAt rules s a sums) (sym top.0)
        (subst (λ (b : Bool). IsTurned rules (radius_of a) sums (dot p (vector (pos 0) (pos 2 *ℤ neg_ℤ a.vy)))
        (if b then record sums { walls = added sums.walls 1; top = added sums.top (taken_of (neg_ℤ a.vy)) } else sums)) (sym across)
        (subst (λ (n : ℕ). IsTurned rules (radius_of a) sums (dot p (vector (pos 0) (pos 2 *ℤ neg_ℤ a.vy))) (record sums { walls = added sums.walls 1; top = n }))
        (sym (added_is sums.top (taken_of (neg_ℤ a.vy)) room.top (twice_size a.vy small.y)))
        (record { least = more.0; most = more.1 })))

-- nothing is turned and taken
none_turned : (rules : Rules) (radius : ℤ) (s t : Sums) (z : ℤ) → z ≡ pos 0 → pushed_from_places rules radius t ≡ pushed_from_places rules radius s →
    taken_by_all t ≡ taken_by_all s → IsTurned rules radius s z t
none_turned rules radius s t z e f g =
    let all = ap (λ (n : ℕ). nat_abs rules.speed_limit * n) g in
    let is = of_same (pushed_from_places rules radius s) (pushed_from_places rules radius t) z (nat_abs rules.speed_limit * taken_by_all s) (nat_abs rules.speed_limit * taken_by_all t) e f all in
    record { least = is.0; most = is.1 }
  where
    of_same : (x y z : ℤ) (m n : ℕ) → z ≡ pos 0 → y ≡ x → n ≡ m → (x ≤ℤ (z +ℤ y)) × (((z +ℤ y) +ℤ pos m) ≤ℤ (x +ℤ pos n))
    of_same x y z m n h k g = (omega (arith, ints), omega (arith, ints))

pair_turns : (rules : Rules) (radius : ℤ) (sums : Sums) (v p : Vector) (a b : Disk) → IsTurned rules radius sums (dot p (vector (pos 0) (pos 0))) (after_pair rules 0 sums v a b)
pair_turns rules radius sums v p a b = by_test (has_middle_in_part rules 0 (centre_of a) (centre_of b))
  where
    none : dot p (vector (pos 0) (pos 0)) ≡ pos 0
    none = λ i. *ℤ-zero p.x i +ℤ *ℤ-zero p.y i

    by_test : (t : Bool) → IsTurned rules radius sums (dot p (vector (pos 0) (pos 0)))
        (if t then record sums { pairs = added sums.pairs 1; virial = added sums.virial (virial_of v a b) } else sums)
    by_test true = none_turned rules radius sums _ (dot p (vector (pos 0) (pos 0))) none refl refl
    by_test false = none_turned rules radius sums sums (dot p (vector (pos 0) (pos 0))) none refl refl

event_turns : (rules : Rules) (size : ℤ) (disks : List Disk) (sums : Sums) (c : Change) → IsChecked rules → IsValidState rules disks → AreOfSize size disks → HasRoom sums →
    RanWall rules disks c ⊎ RanPair rules disks c → IsTurned rules (half_of size) sums (dot (centre_of c.first) (turned_by c)) (after_change rules 0 disks sums c)
event_turns rules size disks sums c checked state sizes room event = elim event [
  | inl wall ↦
      let a = wall.disk in
      let valid = state.valid c.stamp.first a wall.at in
      let turns = wall_turns rules c.stamp a sums valid.size valid.velocity (slow_size rules (velocity_of a) checked valid.velocity) room wall.event.0 in
      subst (λ (k : Change). IsTurned rules (half_of size) sums (dot (centre_of k.first) (turned_by k)) (after_change rules 0 disks sums k)) (sym wall.change)
      (subst (λ (n : ℤ). IsTurned rules (half_of n) sums (dot (place_of a c.stamp.tick) (turned_at c.stamp.second (turned c.stamp.second (velocity_of a))))
      (after_wall rules 0 sums c.stamp.second (moved c.stamp a (turned c.stamp.second (velocity_of a))))) (sizes c.stamp.first a wall.at) turns)
  | inr pair ↦
      let s = c.stamp in let j = impulse_at s.tick pair.first pair.second in
      subst (λ (k : Change). IsTurned rules (half_of size) sums (dot (centre_of k.first) (turned_by k)) (after_change rules 0 disks sums k)) (sym pair.change)
      (pair_turns rules (half_of size) sums (velocity_at disks s.first) (place_of pair.first s.tick) (pushed s pair.first j) (pushed_back s pair.second j))
]

-- ---- sizes stay
set_sizes : (size : ℤ) (disks : List Disk) (i : ℕ) (v : Disk) → AreOfSize size disks → v.size ≡ size → AreOfSize size (slice_set disks i v)
set_sizes size disks i v all own j a at = elim (get_set disks i j v a at) [
  | inl same ↦ ap (λ (d : Disk). d.size) same.1 ∙ own
  | inr other ↦ all j a other.1
]

set_some_sizes : (size : ℤ) (disks : List Disk) (i : ℕ) (o : Option Disk) → AreOfSize size disks → ((d : Disk) → o ≡ Some d → d.size ≡ size) →
    AreOfSize size (set_some disks i o)
set_some_sizes size disks i None all own = all
set_some_sizes size disks i (Some d) all own = set_sizes size disks i d all (own d refl)

event_sizes : (rules : Rules) (size : ℤ) (disks : List Disk) (c : Change) → AreOfSize size disks → RanWall rules disks c ⊎ RanPair rules disks c →
    AreOfSize size (effect disks c)
event_sizes rules size disks c sizes event =
    let keep : KeepPlaces disks c = elim event [
      | inl wall ↦ wall_keeps rules disks c wall
      | inr pair ↦ pair_keeps rules disks c pair
    ] in
    set_some_sizes size (slice_set disks c.stamp.first c.first) c.stamp.second c.second
    (set_sizes size disks c.stamp.first c.first sizes (keep.first.size ∙ sizes c.stamp.first keep.first.old keep.first.at))
    (λ d e. let own = keep.second d e in own.size ∙ sizes c.stamp.second own.old own.at)

-- ---- a run
turned_on : (rules : Rules) (radius : ℤ) (s t u : Sums) (x y : ℤ) → IsTurned rules radius s x t → IsTurned rules radius t y u → IsTurned rules radius s (x +ℤ y) u
turned_on rules radius s t u x y h k =
    let is = joined (pushed_from_places rules radius s) (pushed_from_places rules radius t) (pushed_from_places rules radius u) x y
    (nat_abs rules.speed_limit * taken_by_all s) (nat_abs rules.speed_limit * taken_by_all t) (nat_abs rules.speed_limit * taken_by_all u) h.least h.most k.least k.most in
    record { least = is.0; most = is.1 }
  where
    joined : (a b c x y : ℤ) (m n k : ℕ) → a ≤ℤ (x +ℤ b) → ((x +ℤ b) +ℤ pos m) ≤ℤ (a +ℤ pos n) → b ≤ℤ (y +ℤ c) → ((y +ℤ c) +ℤ pos n) ≤ℤ (b +ℤ pos k) →
        (a ≤ℤ ((x +ℤ y) +ℤ c)) × ((((x +ℤ y) +ℤ c) +ℤ pos m) ≤ℤ (a +ℤ pos k))
    joined a b c x y m n k h g e f = (omega (arith, ints), omega (arith, ints))

turned_from : (rules : Rules) (size : ℤ) (w : ℕ) (disks : List Disk) (s : Sums) (cs : List Change) (outcome : Outcome) → IsChecked rules →
    IsValidState rules disks → AreOfSize size disks → Runs rules disks cs outcome → IsSmall w w s → w + length cs ≤ 2 ^ 72 →
    IsTurned rules (half_of size) s (turned_there cs) (sums_after (Summed 0) rules disks s cs)
turned_from rules size w disks s [] outcome checked state sizes run small few = none_turned rules (half_of size) s s (pos 0) refl refl refl
turned_from rules size w disks s (c ∷ cs) outcome checked state sizes run small few =
    let event = ran rules disks c run.0.0 run.1 in
    let next = after_change rules 0 disks s c in
    let own = event_turns rules size disks s c checked state sizes (has_room w w s (omega arith) small) event in
    let rest = turned_from rules size (w + 1) (effect disks c) next cs outcome checked (event_valid rules disks c state run.0.0 run.1)
    (event_sizes rules size disks c sizes event) run.2
    (step_fits rules 0 w disks s c checked state (change_fits rules disks c state run.0.0 run.1) small) (omega arith) in
    turned_on rules (half_of size) s next (sums_after (Summed 0) rules (effect disks c) next cs) (dot (centre_of c.first) (turned_by c)) (turned_there cs) own rest

pub sides_turn_at_their_places_by : FewEventsOfAScene → SidesTurnAtTheirPlaces
sides_turn_at_their_places_by few scene changes outcome size valid run sizes =
    let count = few_changes few scene changes outcome valid run in
    let all = turned_from scene.rules size 0 scene.disks no_sums changes outcome valid.rules (starts_valid scene valid) sizes run none_small (omega arith) in
    let sums = sums_after (Summed 0) scene.rules scene.disks no_sums changes in
    from_none (pushed_from_places scene.rules (half_of size) no_sums) (pushed_from_places scene.rules (half_of size) sums) (turned_there changes)
    (nat_abs scene.rules.speed_limit * taken_by_all no_sums) (nat_abs scene.rules.speed_limit * taken_by_all sums)
    (nothing (scene.rules.width -ℤ half_of size) (scene.rules.height -ℤ half_of size) (half_of size) (*ℤ-zero (scene.rules.width -ℤ half_of size)) (*ℤ-zero (scene.rules.height -ℤ half_of size)) (*ℤ-zero (half_of size))) all.least all.most
  where
    nothing : (w h r : ℤ) → w *ℤ pos 0 ≡ pos 0 → h *ℤ pos 0 ≡ pos 0 → r *ℤ pos 0 ≡ pos 0 → ((w *ℤ pos 0) +ℤ (h *ℤ pos 0)) -ℤ (r *ℤ pos 0) ≡ pos 0
    nothing w h r a b c = rw (a, b, c) refl

    from_none : (x y z : ℤ) (m n : ℕ) → x ≡ pos 0 → x ≤ℤ (z +ℤ y) → ((z +ℤ y) +ℤ pos m) ≤ℤ (x +ℤ pos n) → IsWithinAbove (pos 0 -ℤ y) n z
    from_none x y z m n e h k = (omega (arith, ints), omega (arith, ints))

pub sides_tell_the_virial_by : FewEventsOfAScene → SidesTellTheVirial
sides_tell_the_virial_by few scene changes spots size valid run sizes =
    let theorem = virial_theorem_at_end_by few scene changes spots valid run in
    let sides = sides_turn_at_their_places_by few scene changes _ size valid run sizes in
    let sums = sums_after (Summed 0) scene.rules scene.disks no_sums changes in
    told (outward spots) (outward (spots_of 0 scene.disks)) (turned_there changes) (pushed_from_places scene.rules (half_of size) sums)
    (flown scene.disks changes scene.rules.end) sums.virial (nat_abs scene.rules.speed_limit * taken_by_all sums) theorem sides
  where
    told : (end start turned push : ℤ) (f v most : ℕ) → end ≡ ((start +ℤ pos f) +ℤ pos v) +ℤ turned → IsWithinAbove (pos 0 -ℤ push) most turned →
        IsWithinAbove (pos (f + v) +ℤ (start -ℤ end)) most push
    told end start turned push f v most h k = let low = k.0 in let high = k.1 in (omega (arith, ints), omega (arith, ints))
