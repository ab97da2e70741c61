-- The run of the rest, with its ticks raised, goes on with the run.
use Rattle.std.proofs.Common.{◌≡◌, ◌⊎◌, inl, inr, ℕ, zero, suc, ◌+◌, ◌-◌, ◌<◌, ◌≤◌, Bool, true, false, List, [], ◌∷◌, sym, ap, ◌∙◌, subst, refl, arith, Option, Some, None, Result, Ok, Err, slice_get, slice_set, option_map}
use Rattle.std.specs.Prelude.{◌==◌, if◌then◌else◌, ⊤}
use Rattle.std.specs.Ordering.{nat_cmp, ordering_then}
use Rattle.std.specs.declared.cmp.Ordering.{Ordering}
use Rattle.std.specs.declared.cmp.Ordering.TheVariants.{Less, Equal, Greater}
use Rattle.plane_vectors.specs.declared.Vector.{Vector}
use Rattle.plane_vectors.specs.Vectors.{sum, difference}
use Rattle.impulse_rounding.specs.Impulse.{impulse_of}
use Rattle.fixed_motion.specs.declared.rules.Rules.{Rules}
use Rattle.fixed_motion.specs.declared.disk.Disk.{Disk}
use Rattle.fixed_motion.specs.Motion.{place_of, velocity_of}
use Rattle.event_stamps.specs.declared.Stamp.{Stamp}
use Rattle.event_stamps.specs.declared.Kind.{Kind}
use Rattle.event_stamps.specs.declared.Kind.TheVariants.{Cross, Wall, Pair}
use Rattle.event_stamps.specs.Order.{Before, kind_number}
use Rattle.event_stamps.proofs.StampOrder.{tick_not_after, not_before_itself, before_trans}
use Rattle.event_rules.specs.declared.change.Change.{Change}
use Rattle.event_rules.specs.declared.change.Limit.{Limit}
use Rattle.event_rules.specs.declared.change.Limit.TheVariants.{Rounds, Speed}
use Rattle.event_rules.specs.declared.outcome.Outcome.{Outcome}
use Rattle.event_rules.specs.declared.outcome.Outcome.TheVariants.{Done, Limit as Passes}
use Rattle.event_rules.specs.Effect.{applied, change_of, keeps_speed, impulse_at, moved, turned}
use Rattle.event_rules.specs.Run.{Runs, IsCandidate, IsNext, ComesTo, partner_of, effect, set_some, spot_of, spots_of}
use Rattle.event_rules.proofs.Rise.{candidate_rises}
use Rattle.resume.specs.Shift.{later_stamp, later_disk, later_change, shifted, later_limit, later_outcome}
use Rattle.resume.specs.Parts.{ending_at}
use Rattle.resume.proofs.Rebased.{IsRebased, same_velocity, rebased_later, rest_rules, wall_later, wall_earlier, pair_later, pair_earlier}

-- ---- states
-- the records of the same disks, one by one
unfoldable pub AreRebased : ℕ → List Disk → List Disk → Type 0
AreRebased at [] [] = ⊤
AreRebased at [] (y ∷ ys) = ⊥
AreRebased at (x ∷ xs) [] = ⊥
AreRebased at (x ∷ xs) (y ∷ ys) = IsRebased at x y × AreRebased at xs ys

abbrev HasRebased : ℕ → List Disk → ℕ → Disk → Type 0
HasRebased at xs i b = (a : Disk) × (slice_get xs i ≡ Some a) × IsRebased at a b

abbrev IsRebasedIn : ℕ → List Disk → ℕ → Disk → Type 0
IsRebasedIn at ys i a = (b : Disk) × (slice_get ys i ≡ Some b) × IsRebased at a b

pub found_later : (at : ℕ) (xs ys : List Disk) → AreRebased at xs ys → (i : ℕ) (b : Disk) →
    slice_get ys i ≡ Some b → HasRebased at xs i b
unfolding AreRebased
found_later at [] [] h i b e = cc
found_later at [] (y ∷ ys) h i b e = absurd h
found_later at (x ∷ xs) [] h i b e = absurd h
found_later at (x ∷ xs) (y ∷ ys) h zero b e =
    (x, refl, subst (IsRebased at x) (let same : y ≡ b = cc in same) h.0)
found_later at (x ∷ xs) (y ∷ ys) h (suc i) b e = found_later at xs ys h.1 i b e

found_earlier : (at : ℕ) (xs ys : List Disk) → AreRebased at xs ys → (i : ℕ) (a : Disk) →
    slice_get xs i ≡ Some a → IsRebasedIn at ys i a
unfolding AreRebased
found_earlier at [] [] h i a e = cc
found_earlier at [] (y ∷ ys) h i a e = absurd h
found_earlier at (x ∷ xs) [] h i a e = absurd h
found_earlier at (x ∷ xs) (y ∷ ys) h zero a e =
    (y, refl, subst (λ (v : Disk). IsRebased at v y) (let same : x ≡ a = cc in same) h.0)
found_earlier at (x ∷ xs) (y ∷ ys) h (suc i) a e = found_earlier at xs ys h.1 i a e

none_later : (at : ℕ) (xs ys : List Disk) → AreRebased at xs ys → (i : ℕ) →
    slice_get ys i ≡ None → slice_get xs i ≡ None
unfolding AreRebased
none_later at [] [] h i e = refl
none_later at [] (y ∷ ys) h i e = absurd h
none_later at (x ∷ xs) [] h i e = absurd h
none_later at (x ∷ xs) (y ∷ ys) h zero e = cc
none_later at (x ∷ xs) (y ∷ ys) h (suc i) e = none_later at xs ys h.1 i e

set_rebased : (at : ℕ) (xs ys : List Disk) (i : ℕ) (a b : Disk) → AreRebased at xs ys → IsRebased at a b →
    AreRebased at (slice_set xs i a) (slice_set ys i b)
unfolding AreRebased
set_rebased at [] [] i a b h k = tt
set_rebased at [] (y ∷ ys) i a b h k = absurd h
set_rebased at (x ∷ xs) [] i a b h k = absurd h
set_rebased at (x ∷ xs) (y ∷ ys) zero a b h k = (k, h.1)
set_rebased at (x ∷ xs) (y ∷ ys) (suc i) a b h k = (h.0, set_rebased at xs ys i a b h.1 k)

set_some_rebased : (at : ℕ) (xs ys : List Disk) (i : ℕ) (o : Option Disk) → AreRebased at xs ys →
    AreRebased at (set_some xs i (option_map (later_disk at) o)) (set_some ys i o)
set_some_rebased at xs ys i None h = h
set_some_rebased at xs ys i (Some b) h =
    set_rebased at xs ys i (later_disk at b) b h (rebased_later at b)

-- a change, and the same change some ticks later
effect_rebased : (at : ℕ) (xs ys : List Disk) (c : Change) → AreRebased at xs ys →
    AreRebased at (effect xs (later_change at c)) (effect ys c)
effect_rebased at xs ys c h =
    set_some_rebased at _ _ c.stamp.second c.second
    (set_rebased at xs ys c.stamp.first (later_disk at c.first) c.first h (rebased_later at c.first))

-- ---- candidates
candidate_later : (rules : Rules) (at : ℕ) (xs ys : List Disk) (s : Stamp) → AreRebased at xs ys →
    IsCandidate (rest_rules rules at) ys s → IsCandidate rules xs (later_stamp at s)
candidate_later rules at xs ys s h candidate = elim candidate [
  | inl wall ↦
      let a = found_later at xs ys h s.first wall.0 wall.1 in
      inl (a.0, a.1, wall_later rules at s.first a.0 wall.0 s.second s a.2 wall.2)
  | inr pair ↦
      let a = found_later at xs ys h s.first pair.1.0 pair.1.1 in
      let b = found_later at xs ys h s.second pair.1.2.0 pair.1.2.1 in
      inr (
        pair.0,
        (
          a.0,
          a.1,
          (
            b.0,
            b.1,
            pair_later rules at s.first s.second a.0 b.0 pair.1.0 pair.1.2.0 s a.2 b.2 pair.1.2.2,
          ),
        ),
      )
]

candidate_earlier : (rules : Rules) (at : ℕ) (xs ys : List Disk) (s : Stamp) → AreRebased at xs ys →
    IsCandidate rules xs (later_stamp at s) → IsCandidate (rest_rules rules at) ys s
candidate_earlier rules at xs ys s h candidate = elim candidate [
  | inl wall ↦
      let b = found_earlier at xs ys h s.first wall.0 wall.1 in
      inl (b.0, b.1, wall_earlier rules at s.first wall.0 b.0 s.second s b.2 wall.2)
  | inr pair ↦
      let a = found_earlier at xs ys h s.first pair.1.0 pair.1.1 in
      let b = found_earlier at xs ys h s.second pair.1.2.0 pair.1.2.1 in
      inr (
        pair.0,
        (
          a.0,
          a.1,
          (
            b.0,
            b.1,
            pair_earlier rules at s.first s.second pair.1.0 pair.1.2.0 a.0 b.0 s a.2 b.2 pair.1.2.2,
          ),
        ),
      )
]

earlier_stamp : ℕ → Stamp → Stamp
earlier_stamp by s = record s { tick = s.tick - by }

again : (at : ℕ) (t : Stamp) → at ≤ t.tick → later_stamp at (earlier_stamp at t) ≡ t
unfolding earlier_stamp
again at t le = let e : (t.tick - at) + at ≡ t.tick = omega arith in
    ap (λ (n : ℕ). record t { tick = n }) e

less : (x y : ℕ) → x < y → nat_cmp x y ≡ Less
less x y lt = grind arith

equal : (x y : ℕ) → x ≡ y → nat_cmp x y ≡ Equal
equal x y e = grind arith

greater : (x y : ℕ) → y < x → nat_cmp x y ≡ Greater
greater x y lt = grind arith

three_ways : (a b : ℕ) → (a < b) ⊎ (a ≡ b) ⊎ (b < a)
three_ways a b = grind arith

shifted_cmp : (m n k : ℕ) → nat_cmp (m + k) (n + k) ≡ nat_cmp m n
shifted_cmp m n k = elim (three_ways m n) [
  | inl lt ↦ less (m + k) (n + k) (omega arith) ∙ sym (less m n lt)
  | inr (inl e) ↦ equal (m + k) (n + k) (omega arith) ∙ sym (equal m n e)
  | inr (inr gt) ↦ greater (m + k) (n + k) (omega arith) ∙ sym (greater m n gt)
]

same_order : (at : ℕ) (s t : Stamp) → Before (later_stamp at s) (later_stamp at t) → Before s t
same_order at s t h =
    let rest = ordering_then (nat_cmp s.round t.round)
    (ordering_then (nat_cmp (kind_number s.kind) (kind_number t.kind))
    (ordering_then (nat_cmp s.first t.first) (nat_cmp s.second t.second))) in
    ap (λ (o : Ordering). ordering_then o rest) (sym (shifted_cmp s.tick t.tick at)) ∙ h

-- no event comes before the tick
unfoldable pub NoneBefore : Rules → List Disk → ℕ → Type 0
NoneBefore rules disks at = (t : Stamp) → IsCandidate rules disks t → at ≤ t.tick

next_later : (rules : Rules) (at : ℕ) (xs ys : List Disk) (s : Stamp) → AreRebased at xs ys →
    NoneBefore rules xs at → IsNext (rest_rules rules at) ys s → IsNext rules xs (later_stamp at s)
unfolding NoneBefore
next_later rules at xs ys s h none next = (
  candidate_later rules at xs ys s h next.0,
  λ t candidate before.
      let back = again at t (none t candidate) in
      let u = earlier_stamp at t in
      next.1 u (candidate_earlier rules at xs ys u h (subst (IsCandidate rules xs) (sym back) candidate))
      (same_order at u s (subst (λ (v : Stamp). Before v (later_stamp at s)) (sym back) before)),
)

none_at_all : (rules : Rules) (at : ℕ) (xs ys : List Disk) → AreRebased at xs ys →
    NoneBefore rules xs at → ((s : Stamp) → ¬ IsCandidate (rest_rules rules at) ys s) →
    (s : Stamp) → ¬ IsCandidate rules xs s
unfolding NoneBefore
none_at_all rules at xs ys h none never t candidate =
    let back = again at t (none t candidate) in
    let u = earlier_stamp at t in
    never u (candidate_earlier rules at xs ys u h (subst (IsCandidate rules xs) (sym back) candidate))

-- ---- the result of an event
later_result : ℕ → Result Change Limit → Result Change Limit
later_result at (Ok c) = Ok (later_change at c)
later_result at (Err limit) = Err (later_limit at limit)

-- the partners of two disks
IsPartner : ℕ → Option Disk → Option Disk → Type 0
IsPartner at None None = ⊤
IsPartner at None (Some b) = ⊥
IsPartner at (Some a) None = ⊥
IsPartner at (Some a) (Some b) = IsRebased at a b

moved_later : (at : ℕ) (s : Stamp) (a b : Disk) (v w : Vector) → IsRebased at a b →
    v ≡ w → moved (later_stamp at s) a v ≡ later_disk at (moved s b w)
moved_later at s a b v w h same =
    let place = h.place s.tick in
    λ i. record {
      x = (place i).x;
      y = (place i).y;
      vx = (same i).x;
      vy = (same i).y;
      size = h.size i;
      base = s.tick + at;
      mark = s.round + 1;
    }

change_later : (at : ℕ) (s : Stamp) (a b : Disk) (o p : Option Disk) → IsRebased at a b →
    IsPartner at o p →
    change_of (later_stamp at s) a o ≡ later_change at (change_of s b p)
unfolding IsPartner
change_later at s a b None None h k =
    let first =
    moved_later at s a b _ _ h (ap (turned s.second) (same_velocity at a b h)) in
    λ i. record { stamp = later_stamp at s; first = first i; second = None }
change_later at s a b None (Some d) h k = absurd k
change_later at s a b (Some c) None h k = absurd k
change_later at s a b (Some c) (Some d) h k =
    let v = same_velocity at a b h in
    let w = same_velocity at c d k in
    let p = h.place s.tick in
    let q = k.place s.tick in
    let j : impulse_at (s.tick + at) a c ≡ impulse_at s.tick b d =
    λ i. impulse_of (difference (p i) (q i)) (difference (v i) (w i)) in
    let first =
    moved_later at s a b (sum (velocity_of a) (impulse_at (s.tick + at) a c))
    (sum (velocity_of b) (impulse_at s.tick b d)) h (λ i. sum (v i) (j i)) in
    let second =
    moved_later at s c d (difference (velocity_of c) (impulse_at (s.tick + at) a c))
    (difference (velocity_of d) (impulse_at s.tick b d)) k (λ i. difference (w i) (j i)) in
    λ i. record { stamp = later_stamp at s; first = first i; second = Some (second i) }

speed_later : (rules : Rules) (e at : ℕ) (c : Change) →
    keeps_speed rules (later_change at c) ≡ keeps_speed (ending_at e rules) c
speed_later rules e at c = by_second c.second
  where
    by_second : (o : Option Disk) → keeps_speed rules (later_change at (record c { second = o }))
        ≡ keeps_speed (ending_at e rules) (record c { second = o })
    by_second None = refl
    by_second (Some d) = refl

applied_later : (rules : Rules) (e at : ℕ) (s : Stamp) (a b : Disk) (o p : Option Disk) → IsRebased at a b →
    IsPartner at o p →
    applied rules (later_stamp at s) a o ≡ later_result at (applied (ending_at e rules) s b p)
unfolding later_result
applied_later rules e at s a b o p h k =
    let c = change_of s b p in
    let own = change_later at s a b o p h k in
    let speed : keeps_speed rules (change_of (later_stamp at s) a o) ≡ keeps_speed (ending_at e rules) c =
    ap (keeps_speed rules) own ∙ speed_later rules e at c in
    (λ i. if s.round == rules.round_limit then Err (Rounds (later_stamp at s))
    else if speed i then Ok (own i) else Err (Speed (later_stamp at s)))
    ∙ by_tests (s.round == rules.round_limit) (keeps_speed (ending_at e rules) c) c
  where
    by_tests : (p q : Bool) (c : Change) →
        ◌≡◌ {A = Result Change Limit}
        (if p then Err (Rounds (later_stamp at s)) else if q then Ok (later_change at c) else Err (Speed (later_stamp at s)))
        (later_result at (if p then Err (Rounds s) else if q then Ok c else Err (Speed s)))
    by_tests true q c = refl
    by_tests false true c = refl
    by_tests false false c = refl

-- ---- the next event
-- the result of the event of a state whose disks have begun
partner_later : (at : ℕ) (xs ys : List Disk) → AreRebased at xs ys → (k : Kind) (i : ℕ) →
    IsPartner at (partner_of k xs i) (partner_of k ys i)
unfolding IsPartner
partner_later at xs ys h Cross i = tt
partner_later at xs ys h Wall i = tt
partner_later at xs ys h Pair i = by_lookup (slice_get ys i) refl
  where
    by_lookup : (o : Option Disk) → slice_get ys i ≡ o → IsPartner at (slice_get xs i) o
    by_lookup None e = subst (λ (v : Option Disk). IsPartner at v None) (sym (none_later at xs ys h i e)) tt
    by_lookup (Some b) e =
        let a = found_later at xs ys h i b e in
        subst (λ (v : Option Disk). IsPartner at v (Some b)) (sym a.1) a.2

comes_later : (rules : Rules) (at : ℕ) (xs ys : List Disk) (s : Stamp) (r : Result Change Limit) →
    AreRebased at xs ys → ComesTo (rest_rules rules at) ys s r →
    ComesTo rules xs (later_stamp at s) (later_result at r)
comes_later rules at xs ys s r h comes =
    let a = found_later at xs ys h s.first comes.0 comes.1 in (
      a.0,
      a.1,
      ap (later_result at) comes.2
          ∙ sym (applied_later rules (rules.end - at) at s a.0 comes.0 (partner_of s.kind xs s.second)
          (partner_of s.kind ys s.second) a.2 (partner_later at xs ys h s.kind s.second)),
    )

none_before_after : (rules : Rules) (disks : List Disk) (at : ℕ) (c : Change) → IsNext rules disks c.stamp →
    ComesTo rules disks c.stamp (Ok c) → NoneBefore rules disks at → NoneBefore rules (effect disks c) at
unfolding NoneBefore
none_before_after rules disks at c next comes none t h =
    let first : at ≤ c.stamp.tick = none c.stamp next.0 in
    let later = candidate_rises rules disks c t next comes h in
    let tick : c.stamp.tick ≤ t.tick =
    tick_not_after c.stamp t (λ before. not_before_itself t (before_trans t c.stamp t before later)) in
    omega arith

spot_later : (at e : ℕ) (a b : Disk) → at ≤ e → IsRebased at a b → spot_of (e - at) b ≡ spot_of e a
spot_later at e a b le h =
    let same : e ≡ (e - at) + at = omega arith in
    let place = ap (place_of a) same ∙ h.place (e - at) in
    sym (λ i. record { x = (place i).x; y = (place i).y; vx = h.vx i; vy = h.vy i })

pub spots_later : (at e : ℕ) (xs ys : List Disk) → at ≤ e → AreRebased at xs ys →
    spots_of (e - at) ys ≡ spots_of e xs
unfolding AreRebased
spots_later at e [] [] le h = refl
spots_later at e [] (y ∷ ys) le h = absurd h
spots_later at e (x ∷ xs) [] le h = absurd h
spots_later at e (x ∷ xs) (y ∷ ys) le h =
    let first = spot_later at e x y le h.0 in
    let rest = spots_later at e xs ys le h.1 in
    λ i. first i ∷ rest i

pub resumed : (rules : Rules) (at : ℕ) (xs ys : List Disk) (cs : List Change) (outcome : Outcome) →
    at ≤ rules.end → AreRebased at xs ys → NoneBefore rules xs at →
    Runs (rest_rules rules at) ys cs outcome → Runs rules xs (shifted at cs) (later_outcome at outcome)
unfolding later_result
resumed rules at xs ys [] (Done spots) le h none run =
    (none_at_all rules at xs ys h none run.0, run.1 ∙ spots_later at rules.end xs ys le h)
resumed rules at xs ys [] (Passes limit) le h none run = (
  later_stamp at run.0,
  next_later rules at xs ys run.0 h none run.1,
  comes_later rules at xs ys run.0 (Err limit) h run.2,
)
resumed rules at xs ys (c ∷ cs) outcome le h none run =
    let d = later_change at c in
    let next = next_later rules at xs ys c.stamp h none run.0 in
    let comes = comes_later rules at xs ys c.stamp (Ok c) h run.1 in (
      next,
      comes,
      resumed rules at (effect xs d) (effect ys c) cs outcome le (effect_rebased at xs ys c h)
          (none_before_after rules xs at d next comes none) run.2,
    )
