-- How the sum of r·v over disks changes on their ways, and by an event.
use Rattle.std.proofs.Common.{◌≡◌, ◌∙◌, ℕ, zero, suc, ◌+◌, ◌*◌, ◌^◌, ◌<◌, ◌≤◌, Bool, true, false, if◌then◌else◌, ℤ, pos, neg_ℤ, ◌+ℤ◌, ◌-ℤ◌, ◌*ℤ◌, List, [], ◌∷◌, Some, slice_get, slice_set, ap, refl, sym, subst, arith}
use Rattle.std.specs.Prelude.{nat_lt, ◌==◌, ◌≤ℤ◌}
use Rattle.std.proofs.lemmas.Int.{ints}
use Rattle.std.proofs.lemmas.Option.{same_Some}
use Rattle.std.proofs.lemmas.List.Sums.{sum_by-cons}
use Rattle.std.proofs.Math.IntN.{*ℤ_comm, *ℤ-zero}
use native.Mathlib.Nat.{le_refl}
use Rattle.plane_vectors.specs.declared.Vector.{Vector}
use Rattle.plane_vectors.specs.Vectors.{vector, sum, difference, dot}
use Rattle.plane_vectors.proofs.Directions.{length_is}
use Rattle.plane_vectors.proofs.Products.{distributes}
use Rattle.plane_vectors.proofs.Ring.{of, sum_of, less_of, times_of, same_of}
use Rattle.contact_predictor.proofs.Approaching.{place_next, dot_next}
use Rattle.fixed_motion.specs.declared.rules.Rules.{Rules}
use Rattle.fixed_motion.specs.declared.disk.Disk.{Disk}
use Rattle.fixed_motion.specs.Motion.{IsInside, IsSize, centre_of, velocity_of, place_of, radius_of}
use Rattle.fixed_motion.proofs.Sizes.{radius_least}
use Rattle.event_stamps.specs.declared.Stamp.{Stamp}
use Rattle.event_rules.specs.declared.change.Change.{Change}
use Rattle.event_rules.specs.Effect.{turned, bounced, moved, pushed, pushed_back, impulse_at}
use Rattle.event_rules.specs.Run.{IsValidState, effect, spots_of}
use Rattle.event_rules.specs.Conservation.{energy, square_of, turned_at, turned_by, velocity_at}
use Rattle.event_rules.proofs.Conserved.{total, replaced, replaced_both}
use Rattle.event_rules.proofs.OneTick.{place_at_base}
use Rattle.event_rules.proofs.Ran.{RanWall, RanPair}
use Rattle.collision_sums.specs.declared.sums.Sums.{Sums}
use Rattle.collision_sums.specs.Sums.{added, taken_of, across_of, has_middle_in_part, is_along, virial_of, with_taken, after_pair, after_wall, after_change, is_away}
use Rattle.sampled_laws.specs.Virial.{outward}
use Rattle.sampled_laws.proofs.Inside.{at_most, both}
use Rattle.sampled_laws.proofs.Pushes.{push}

-- ---- r·v of one disk, and sums
abbrev pub reach : ℕ → Disk → ℤ
reach tick a = dot (place_of a tick) (velocity_of a)

outward_is : (tick : ℕ) (disks : List Disk) → outward (spots_of tick disks) ≡ total (reach tick) disks
unfolding total
outward_is tick [] = refl
outward_is tick (a ∷ disks) = ap (λ (z : ℤ). reach tick a +ℤ z) (outward_is tick disks)

outward_replaced : (tick : ℕ) (disks : List Disk) (i : ℕ) (old new : Disk) → slice_get disks i ≡ Some old →
    outward (spots_of tick (slice_set disks i new)) ≡ outward (spots_of tick disks) +ℤ (reach tick new -ℤ reach tick old)
outward_replaced tick disks i old new at =
    outward_is tick (slice_set disks i new) ∙ replaced (reach tick) disks i old new at
    ∙ ap (λ (z : ℤ). z +ℤ (reach tick new -ℤ reach tick old)) (sym (outward_is tick disks))

outward_replaced_both : (tick : ℕ) (disks : List Disk) (i j : ℕ) (a b c d : Disk) → i < j →
    slice_get disks i ≡ Some a → slice_get disks j ≡ Some b →
    outward (spots_of tick (slice_set (slice_set disks i c) j d))
    ≡ outward (spots_of tick disks) +ℤ ((reach tick c +ℤ reach tick d) -ℤ (reach tick a +ℤ reach tick b))
outward_replaced_both tick disks i j a b c d lt first second =
    outward_is tick (slice_set (slice_set disks i c) j d) ∙ replaced_both (reach tick) disks i j a b c d lt first second
    ∙ ap (λ (z : ℤ). z +ℤ ((reach tick c +ℤ reach tick d) -ℤ (reach tick a +ℤ reach tick b))) (sym (outward_is tick disks))

-- ---- on their ways
-- the ways of all disks have begun
abbrev pub AllBegun : ℕ → List Disk → Type 0
AllBegun tick disks = (i : ℕ) (a : Disk) → slice_get disks i ≡ Some a → a.base ≤ tick

reach_next : (tick : ℕ) (a : Disk) → a.base ≤ tick →
    reach (tick + 1) a ≡ reach tick a +ℤ pos (square_of (velocity_of a))
reach_next tick a le =
    let v = velocity_of a in
    let p = place_of a tick in
    ap (λ (q : Vector). dot q v) (place_next (centre_of a) v a.base tick le) ∙ dot_next p v ∙ ap (λ (z : ℤ). dot p v +ℤ z) (length_is v)

-- a tick's way adds the squared speeds
pub fly : (tick : ℕ) (disks : List Disk) → AllBegun tick disks →
    outward (spots_of (tick + 1) disks) ≡ outward (spots_of tick disks) +ℤ pos (energy disks)
fly tick [] begun = refl
fly tick (a ∷ disks) begun =
    let own = reach_next tick a (begun 0 a refl) in
    let rest = fly tick disks (λ i b at. begun (suc i) b at) in
    let all : energy (a ∷ disks) ≡ square_of (velocity_of a) + energy disks =
    sum_by-cons (λ (b : Disk). square_of (velocity_of b)) a disks in
    joined (reach (tick + 1) a) (reach tick a) (outward (spots_of (tick + 1) disks)) (outward (spots_of tick disks))
    (square_of (velocity_of a)) (energy disks) (energy (a ∷ disks)) own rest all
  where
    joined : (z x w y : ℤ) (m n k : ℕ) → z ≡ x +ℤ pos m → w ≡ y +ℤ pos n → k ≡ m + n → z +ℤ w ≡ (x +ℤ y) +ℤ pos k
    joined z x w y m n k h g e = omega (arith, ints)

-- ---- at an event
-- a record that an event made is at the place of the old one
made_reach : (s : Stamp) (a : Disk) (v : Vector) → reach s.tick (moved s a v) ≡ dot (place_of a s.tick) v
made_reach s a v = ap (λ (p : Vector). dot p v) (place_at_base (moved s a v) s.tick (le_refl s.tick))

pub spread : (c a b : ℤ) → c *ℤ (a +ℤ b) ≡ (c *ℤ a) +ℤ (c *ℤ b)
spread c a b = *ℤ_comm c (a +ℤ b) ∙ distributes a b c ∙ (λ i. *ℤ_comm a c i +ℤ *ℤ_comm b c i)

-- a product with a number that is turned
turned_product : (p v : ℤ) → p *ℤ neg_ℤ v ≡ (p *ℤ v) +ℤ (p *ℤ (pos 2 *ℤ neg_ℤ v))
turned_product p v =
    let two : p *ℤ (pos 2 *ℤ neg_ℤ v) ≡ (p *ℤ neg_ℤ v) +ℤ (p *ℤ neg_ℤ v) =
    ap (λ (z : ℤ). p *ℤ z) (twice v) ∙ spread p (neg_ℤ v) (neg_ℤ v) in
    let nothing : (p *ℤ v) +ℤ (p *ℤ neg_ℤ v) ≡ pos 0 =
    sym (spread p v (neg_ℤ v)) ∙ ap (λ (z : ℤ). p *ℤ z) (none v) ∙ *ℤ-zero p in
    joined (p *ℤ neg_ℤ v) (p *ℤ v) (p *ℤ (pos 2 *ℤ neg_ℤ v)) two nothing
  where
    twice : (v : ℤ) → pos 2 *ℤ neg_ℤ v ≡ neg_ℤ v +ℤ neg_ℤ v
    twice v = omega (arith, ints)

    none : (v : ℤ) → v +ℤ neg_ℤ v ≡ pos 0
    none v = omega (arith, ints)

    joined : (u v z : ℤ) → z ≡ u +ℤ u → v +ℤ u ≡ pos 0 → u ≡ v +ℤ z
    joined u v z h k = omega (arith, ints)

-- what a side adds to the product of a place and a velocity
turn_there : (side : ℕ) (p v : Vector) → dot p (turned side v) ≡ dot p v +ℤ dot p (turned_at side (turned side v))
turn_there side p v = by_test (nat_lt side 2)
  where
    first : (u n w t z : ℤ) → t ≡ u +ℤ z → n ≡ pos 0 → t +ℤ w ≡ (u +ℤ w) +ℤ (z +ℤ n)
    first u n w t z h k = omega (arith, ints)

    second : (u n w t z : ℤ) → t ≡ u +ℤ z → n ≡ pos 0 → w +ℤ t ≡ (w +ℤ u) +ℤ (n +ℤ z)
    second u n w t z h k = omega (arith, ints)

    by_test : (t : Bool) → dot p (if t then vector (neg_ℤ v.x) v.y else vector v.x (neg_ℤ v.y))
        ≡ dot p v +ℤ dot p (if t then vector (pos 2 *ℤ (if t then vector (neg_ℤ v.x) v.y else vector v.x (neg_ℤ v.y)).x) (pos 0)
        else vector (pos 0) (pos 2 *ℤ (if t then vector (neg_ℤ v.x) v.y else vector v.x (neg_ℤ v.y)).y))
    by_test true = first (p.x *ℤ v.x) (p.y *ℤ pos 0) (p.y *ℤ v.y) (p.x *ℤ neg_ℤ v.x) (p.x *ℤ (pos 2 *ℤ neg_ℤ v.x)) (turned_product p.x v.x) (*ℤ-zero p.y)
    by_test false = second (p.y *ℤ v.y) (p.x *ℤ pos 0) (p.x *ℤ v.x) (p.y *ℤ neg_ℤ v.y) (p.y *ℤ (pos 2 *ℤ neg_ℤ v.y)) (turned_product p.y v.y) (*ℤ-zero p.x)

-- what an impulse that one gains and the other loses adds
push_along : (p q v w j : ℤ) → (p *ℤ (v +ℤ j)) +ℤ (q *ℤ (w -ℤ j)) ≡ ((p *ℤ v) +ℤ (q *ℤ w)) +ℤ ((p -ℤ q) *ℤ j)
push_along p q v w j = rw (of p, of q, of v, of w, of j) (simp (times_of, sum_of, less_of) (same_of _ _ _ _ (omega arith)))

push_there : (p q v w j : Vector) → (dot p (sum v j) +ℤ dot q (difference w j)) -ℤ (dot p v +ℤ dot q w) ≡ dot (difference p q) j
push_there p q v w j =
    joined (p.x *ℤ (v.x +ℤ j.x)) (q.x *ℤ (w.x -ℤ j.x)) (p.x *ℤ v.x) (q.x *ℤ w.x) ((p.x -ℤ q.x) *ℤ j.x)
    (p.y *ℤ (v.y +ℤ j.y)) (q.y *ℤ (w.y -ℤ j.y)) (p.y *ℤ v.y) (q.y *ℤ w.y) ((p.y -ℤ q.y) *ℤ j.y)
    (push_along p.x q.x v.x w.x j.x) (push_along p.y q.y v.y w.y j.y)
  where
    joined : (a b c d e f g h k l : ℤ) → a +ℤ b ≡ (c +ℤ d) +ℤ e → f +ℤ g ≡ (h +ℤ k) +ℤ l →
        ((a +ℤ f) +ℤ (b +ℤ g)) -ℤ ((c +ℤ h) +ℤ (d +ℤ k)) ≡ e +ℤ l
    joined a b c d e f g h k l m n = omega (arith, ints)

-- ---- what an event adds
pub record IsAdded (tick : ℕ) (disks : List Disk) (s : Sums) (c : Change) (t : Sums) : Type 0 where
  pub added : outward (spots_of tick (effect disks c)) +ℤ pos s.virial
      ≡ (outward (spots_of tick disks) +ℤ pos t.virial) +ℤ dot (centre_of c.first) (turned_by c)

-- a side leaves the virial
wall_virial : (rules : Rules) (s : Sums) (side : ℕ) (a : Disk) → (after_wall rules 0 s side a).virial ≡ s.virial
wall_virial rules s side a = by_test (is_along rules 0 side a)
  where
    by_tests : (n : ℕ) (t u v : Bool) → (if t then record s { walls = added s.walls 1; left = added s.left n }
        else if u then record s { walls = added s.walls 1; right = added s.right n }
        else if v then record s { walls = added s.walls 1; bottom = added s.bottom n }
        else record s { walls = added s.walls 1; top = added s.top n }).virial ≡ s.virial
    by_tests n true u v = refl
    by_tests n false true v = refl
    by_tests n false false true = refl
    by_tests n false false false = refl

    by_test : (t : Bool) → (if t then with_taken s side (taken_of (across_of side a)) else s).virial ≡ s.virial
    by_test true = by_tests (taken_of (across_of side a)) (side == 0) (side == 1) (side == 2)
    by_test false = refl

pub wall_adds : (rules : Rules) (disks : List Disk) (s : Sums) (c : Change) → RanWall rules disks c →
    IsAdded c.stamp.tick disks s c (after_change rules 0 disks s c)
wall_adds rules disks s c w =
    let stamp = c.stamp in
    let a = w.disk in
    let v = velocity_of a in
    let p = place_of a stamp.tick in
    let new = bounced stamp a in
    let set = outward_replaced stamp.tick disks stamp.first a new w.at in
    let own = made_reach stamp a (turned stamp.second v) in
    let turn = turn_there stamp.second p v in
    let same = wall_virial rules s stamp.second new in
    subst (λ (k : Change). IsAdded stamp.tick disks s k (after_change rules 0 disks s k)) (sym w.change)
    (record {
      added = joined (outward (spots_of stamp.tick (slice_set disks stamp.first new))) (outward (spots_of stamp.tick disks))
          (reach stamp.tick new) (reach stamp.tick a) (dot p (turned stamp.second v)) (dot p (turned_at stamp.second (turned stamp.second v)))
          s.virial (after_wall rules 0 s stamp.second new).virial set own turn same;
    })
  where
    joined : (after before new old turned more : ℤ) (m n : ℕ) → after ≡ before +ℤ (new -ℤ old) → new ≡ turned → turned ≡ old +ℤ more → n ≡ m →
        after +ℤ pos m ≡ (before +ℤ pos n) +ℤ more
    joined after before new old turned more m n h k g e = omega (arith, ints)

-- the middle between two disks in the box is in the box
middle_away : (length a b r q : ℤ) → pos 1 ≤ℤ r → pos 1 ≤ℤ q → r ≤ℤ a → a ≤ℤ (length -ℤ r) → q ≤ℤ b → b ≤ℤ (length -ℤ q) →
    is_away (2 * 0) (pos 2 *ℤ length) (a +ℤ b) ≡ true
middle_away length a b r q some also al ah bl bh = both _ _ (at_most (pos 0) (a +ℤ b) (low a b r q some also al bl))
    (at_most (a +ℤ b) ((pos 2 *ℤ length) -ℤ pos 0) (high length a b r q some also ah bh))
  where
    low : (a b r q : ℤ) → pos 1 ≤ℤ r → pos 1 ≤ℤ q → r ≤ℤ a → q ≤ℤ b → pos 0 ≤ℤ (a +ℤ b)
    low a b r q some also h k = omega (arith, ints)

    high : (length a b r q : ℤ) → pos 1 ≤ℤ r → pos 1 ≤ℤ q → a ≤ℤ (length -ℤ r) → b ≤ℤ (length -ℤ q) → (a +ℤ b) ≤ℤ ((pos 2 *ℤ length) -ℤ pos 0)
    high length a b r q some also h k = omega (arith, ints)

middle_in_box : (rules : Rules) (a b : Disk) (p q : Vector) → IsSize rules a.size → IsSize rules b.size → IsInside rules a p → IsInside rules b q →
    has_middle_in_part rules 0 p q ≡ true
middle_in_box rules a b p q first second in_a in_b =
    let r = radius_least rules a first in
    let s = radius_least rules b second in
    both _ _ (middle_away rules.width p.x q.x (radius_of a) (radius_of b) r s in_a.left in_a.right in_b.left in_b.right)
    (middle_away rules.height p.y q.y (radius_of a) (radius_of b) r s in_a.bottom in_a.top in_b.bottom in_b.top)

-- two disks add their push to the virial
pair_virial : (rules : Rules) (s : Sums) (v : Vector) (a b : Disk) → has_middle_in_part rules 0 (centre_of a) (centre_of b) ≡ true →
    s.virial + virial_of v a b < 2 ^ 128 → (after_pair rules 0 s v a b).virial ≡ s.virial + virial_of v a b
pair_virial rules s v a b inside small =
    ap (λ (t : Bool). (if t then record s { pairs = added s.pairs 1; virial = added s.virial (virial_of v a b) } else s).virial) inside
    ∙ whole s.virial (virial_of v a b) small
  where
    whole : (m n : ℕ) → m + n < 2 ^ 128 → added m n ≡ m + n
    whole m n h = omega arith

pub pair_adds : (rules : Rules) (disks : List Disk) (s : Sums) (c : Change) → IsValidState rules disks → (p : RanPair rules disks c) →
    s.virial + virial_of (velocity_at disks c.stamp.first) (pushed c.stamp p.first (impulse_at c.stamp.tick p.first p.second))
    (pushed_back c.stamp p.second (impulse_at c.stamp.tick p.first p.second)) < 2 ^ 128 →
    IsAdded c.stamp.tick disks s c (after_change rules 0 disks s c)
pair_adds rules disks s c valid h small =
    let stamp = c.stamp in
    let a = h.first in
    let b = h.second in
    let p = place_of a stamp.tick in
    let q = place_of b stamp.tick in
    let j = impulse_at stamp.tick a b in
    let new = pushed stamp a j in
    let later = pushed_back stamp b j in
    let before = velocity_at disks stamp.first in
    let set = outward_replaced_both stamp.tick disks stamp.first stamp.second a b new later h.order h.first_at h.second_at in
    let first = made_reach stamp a (sum (velocity_of a) j) in
    let second = made_reach stamp b (difference (velocity_of b) j) in
    let adds = push_there p q (velocity_of a) (velocity_of b) j in
    let own : c.first ≡ new = ap (λ (k : Change). k.first) h.change in
    let is : c.second ≡ Some later = ap (λ (k : Change). k.second) h.change in
    let pushes = push rules disks c later h is in
    let virial : pos (virial_of before new later) ≡ dot (difference p q) j =
    ap (λ (d : Disk). pos (virial_of before d later)) (sym own) ∙ pushes.virial
    ∙ (λ i. dot (difference (place_of (same_Some pushes.first a (sym pushes.first_at ∙ h.first_at) i) stamp.tick)
    (place_of (same_Some pushes.second b (sym pushes.second_at ∙ h.second_at) i) stamp.tick))
    (impulse_at stamp.tick (same_Some pushes.first a (sym pushes.first_at ∙ h.first_at) i) (same_Some pushes.second b (sym pushes.second_at ∙ h.second_at) i))) in
    let middle = middle_in_box rules a b p q (valid.valid stamp.first a h.first_at).size (valid.valid stamp.second b h.second_at).size
    h.event.0.first_inside h.event.0.second_inside in
    let grown = pair_virial rules s before new later middle small in
    let none : dot p (vector (pos 0) (pos 0)) ≡ pos 0 = (λ i. *ℤ-zero p.x i +ℤ *ℤ-zero p.y i) in
    subst (λ (k : Change). IsAdded stamp.tick disks s k (after_change rules 0 disks s k)) (sym h.change)
    (record {
      added = joined (outward (spots_of stamp.tick (slice_set (slice_set disks stamp.first new) stamp.second later))) (outward (spots_of stamp.tick disks))
          (reach stamp.tick new) (reach stamp.tick later) (reach stamp.tick a) (reach stamp.tick b)
          (dot p (sum (velocity_of a) j)) (dot q (difference (velocity_of b) j)) (dot (difference p q) j) (dot p (vector (pos 0) (pos 0)))
          s.virial (virial_of before new later) (after_pair rules 0 s before new later).virial set first second adds virial grown none;
    })
  where
    joined : (after before c d a b e f push none : ℤ) (m n t : ℕ) → after ≡ before +ℤ ((c +ℤ d) -ℤ (a +ℤ b)) → c ≡ e → d ≡ f →
        (e +ℤ f) -ℤ (a +ℤ b) ≡ push → pos n ≡ push → t ≡ m + n → none ≡ pos 0 → after +ℤ pos m ≡ (before +ℤ pos t) +ℤ none
    joined after before c d a b e f push none m n t h k g i j l o = omega (arith, ints)
