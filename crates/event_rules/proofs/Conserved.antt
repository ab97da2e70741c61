-- What runs conserve.
use Rattle.std.proofs.Common.{◌≡◌, ◌⊎◌, inl, inr, ℕ, zero, suc, ◌+◌, ◌*◌, ◌<◌, ◌≤◌, Bool, true, false, cond, List, [], ◌∷◌, map, sym, ap, ◌∙◌, subst, refl, arith, ℤ, pos, nat_abs, ◌+ℤ◌, ◌-ℤ◌, ◌*ℤ◌, Some, None, slice_get, slice_set, get_or}
use Rattle.std.specs.Prelude.{fold, sum_by, neg_ℤ, nat_lt, is_some, if◌then◌else◌}
use Rattle.std.proofs.lemmas.Int.{ints}
use Rattle.std.proofs.lemmas.Option.{none-some, same_Some, slice_get_within, get_or_from_slice_get}
use Rattle.std.proofs.lemmas.List.Sums.{sum_by-cons, sum_by-set}
use Rattle.plane_vectors.specs.declared.Vector.{Vector}
use Rattle.plane_vectors.specs.Vectors.{vector, sum, difference, dot}
use Rattle.plane_vectors.proofs.Directions.{length_is}
use Rattle.fixed_motion.specs.declared.rules.Rules.{Rules}
use Rattle.fixed_motion.specs.declared.disk.Disk.{Disk}
use Rattle.fixed_motion.specs.Motion.{velocity_of, place_of}
use Rattle.impulse_rounding.proofs.Change.{energy_kept}
use Rattle.event_rules.specs.declared.change.Change.{Change}
use Rattle.event_rules.specs.declared.outcome.Spot.{Spot}
use Rattle.event_rules.specs.declared.outcome.Outcome.TheVariants.{Done}
use Rattle.event_rules.specs.Effect.{change_of, turned, impulse_at, pushed, pushed_back}
use Rattle.event_rules.specs.Run.{Steps, Runs, IsValidState, effect, spot_of, spots_of}
use Rattle.event_rules.specs.Conservation.{total_of, square_of, energy_of, energy, spot_velocity, turned_at, turned_by, velocity_if, relative_velocity, rounding_of, roundings, pairs, most_rounded, DifferByAtMost, MomentumTurnsAtSides, EnergyStaysButForRoundings, EnergyNearlyStays, RunsConserve}
use Rattle.event_rules.proofs.Ran.{RanWall, RanPair, ran, event_valid}
use Rattle.event_rules.proofs.Effects.{energy_by}
use Rattle.event_rules.proofs.Ranges.{starts_valid}

-- ---- sums of whole numbers
unfoldable pub total : {A : Type 0} → (A → ℤ) → List A → ℤ
total f [] = pos 0
total f (x ∷ xs) = f x +ℤ total f xs

-- a vector's sums are those of its components
abbrev totals : {A : Type 0} → (A → Vector) → List A → Vector
totals velocity items = vector (total (λ item. (velocity item).x) items) (total (λ item. (velocity item).y) items)

total_from : {A : Type 0} (velocity : A → Vector) (start : Vector) (items : List A) →
    fold (λ t item. sum t (velocity item)) start items ≡ sum start (totals velocity items)
unfolding total
total_from velocity start [] = λ i. vector (no_more start.x i) (no_more start.y i)
  where
    no_more : (m : ℤ) → m ≡ m +ℤ pos 0
    no_more m = omega (arith, ints)
total_from velocity start (item ∷ items) =
    let v = velocity item in
    let rest = totals velocity items in
    total_from velocity (sum start v) items
    ∙ (λ i. vector (again start.x v.x rest.x i) (again start.y v.y rest.y i))
  where
    again : (m n k : ℤ) → (m +ℤ n) +ℤ k ≡ m +ℤ (n +ℤ k)
    again m n k = omega (arith, ints)

total_is : {A : Type 0} (velocity : A → Vector) (items : List A) →
    total_of velocity items ≡ totals velocity items
total_is velocity items =
    total_from velocity (vector (pos 0) (pos 0)) items
    ∙ (λ i. vector (none_before (total (λ item. (velocity item).x) items) i) (none_before (total (λ item. (velocity item).y) items) i))
  where
    none_before : (m : ℤ) → pos 0 +ℤ m ≡ m
    none_before m = omega (arith, ints)

-- a disk's part is put in the place of another's
pub replaced : (f : Disk → ℤ) (disks : List Disk) (i : ℕ) (old new : Disk) → slice_get disks i ≡ Some old →
    total f (slice_set disks i new) ≡ total f disks +ℤ (f new -ℤ f old)
unfolding total
replaced f [] i old new at = absurd (none-some old at)
replaced f (a ∷ disks) zero old new at =
    let same : f a ≡ f old = ap f (same_Some a old at) in
    omega (arith, ints)
replaced f (a ∷ disks) (suc i) old new at =
    let rest = replaced f disks i old new at in
    omega (arith, ints)

-- a write leaves what stands at another place
pub other_place : (disks : List Disk) (i j : ℕ) (new a : Disk) → i < j → slice_get disks j ≡ Some a →
    slice_get (slice_set disks i new) j ≡ Some a
other_place [] i j new a lt at = absurd (none-some a at)
other_place (b ∷ disks) i zero new a lt at = absurd (omega arith)
other_place (b ∷ disks) zero (suc j) new a lt at = at
other_place (b ∷ disks) (suc i) (suc j) new a lt at = other_place disks i j new a (omega arith) at

pub replaced_both : (f : Disk → ℤ) (disks : List Disk) (i j : ℕ) (a b c d : Disk) → i < j →
    slice_get disks i ≡ Some a → slice_get disks j ≡ Some b →
    total f (slice_set (slice_set disks i c) j d) ≡ total f disks +ℤ ((f c +ℤ f d) -ℤ (f a +ℤ f b))
replaced_both f disks i j a b c d lt first second =
    let one = replaced f disks i a c first in
    let two = replaced f (slice_set disks i c) j b d (other_place disks i j c b lt second) in
    omega (arith, ints)

-- ---- momentum
-- the events of a run together add to a sum what each of them adds
over_run : (rules : Rules) (f : Disk → ℤ) (g : Change → ℤ) →
    ((disks : List Disk) (c : Change) → RanWall rules disks c ⊎ RanPair rules disks c →
    total f (effect disks c) ≡ total f disks +ℤ g c) →
    (disks later : List Disk) (changes : List Change) → Steps rules disks changes later →
    total f later ≡ total f disks +ℤ total g changes
unfolding total
over_run rules f g step disks later [] h =
    let same : total f later ≡ total f disks = ap (total f) h in
    omega (arith, ints)
over_run rules f g step disks later (c ∷ cs) h =
    let first = step disks c (ran rules disks c h.0.0 h.1) in
    let rest = over_run rules f g step (effect disks c) later cs h.2 in
    omega (arith, ints)

-- what a side adds to a velocity, given the velocity after it
turn_is : (side : ℕ) (v : Vector) → difference (turned side v) v ≡ turned_at side (turned side v)
turn_is side v = by_test (nat_lt side 2)
  where
    twice : (m : ℤ) → neg_ℤ m -ℤ m ≡ pos 2 *ℤ neg_ℤ m
    twice m = omega (arith, ints)

    nothing : (m : ℤ) → m -ℤ m ≡ pos 0
    nothing m = omega (arith, ints)

    by_test : (p : Bool) →
        difference (if p then vector (neg_ℤ v.x) v.y else vector v.x (neg_ℤ v.y)) v
        ≡ (if p then vector (pos 2 *ℤ (if p then vector (neg_ℤ v.x) v.y else vector v.x (neg_ℤ v.y)).x) (pos 0)
        else vector (pos 0) (pos 2 *ℤ (if p then vector (neg_ℤ v.x) v.y else vector v.x (neg_ℤ v.y)).y))
    by_test true = λ i. vector (twice v.x i) (nothing v.y i)
    by_test false = λ i. vector (nothing v.x i) (twice v.y i)

-- an event adds to each component of the momentum what it turned
wall_adds : (rules : Rules) (component : Vector → ℤ) (disks : List Disk) (c : Change) →
    ((v w : Vector) → component (difference v w) ≡ component v -ℤ component w) → RanWall rules disks c →
    total (λ a. component (velocity_of a)) (effect disks c)
    ≡ total (λ a. component (velocity_of a)) disks +ℤ component (turned_by c)
wall_adds rules component disks c parts w =
    let f = λ (a : Disk). component (velocity_of a) in
    let own = change_of c.stamp w.disk None in
    let v = velocity_of w.disk in
    let turn : component (turned c.stamp.second v) -ℤ component v ≡ component (turned_by own) =
    sym (parts (turned c.stamp.second v) v) ∙ ap component (turn_is c.stamp.second v) in
    subst (λ (k : Change). total f (effect disks k) ≡ total f disks +ℤ component (turned_by k)) (sym w.change)
    (replaced f disks c.stamp.first w.disk own.first w.at ∙ ap (λ z. total f disks +ℤ z) turn)

pair_adds : (rules : Rules) (component : Vector → ℤ) (disks : List Disk) (c : Change) →
    ((v w j : Vector) → (component (sum v j) +ℤ component (difference w j)) -ℤ (component v +ℤ component w) ≡ component (vector (pos 0) (pos 0))) →
    RanPair rules disks c →
    total (λ a. component (velocity_of a)) (effect disks c)
    ≡ total (λ a. component (velocity_of a)) disks +ℤ component (turned_by c)
pair_adds rules component disks c parts p =
    let f = λ (a : Disk). component (velocity_of a) in
    let j = impulse_at c.stamp.tick p.first p.second in
    subst (λ (k : Change). total f (effect disks k) ≡ total f disks +ℤ component (turned_by k)) (sym p.change)
    (replaced_both f disks c.stamp.first c.stamp.second p.first p.second (pushed c.stamp p.first j) (pushed_back c.stamp p.second j)
    p.order p.first_at p.second_at
    ∙ ap (λ z. total f disks +ℤ z) (parts (velocity_of p.first) (velocity_of p.second) j))

kept_part : (v w j : ℤ) → ((v +ℤ j) +ℤ (w -ℤ j)) -ℤ (v +ℤ w) ≡ pos 0
kept_part v w j = omega (arith, ints)

pub momentum_turns_at_sides : MomentumTurnsAtSides
momentum_turns_at_sides rules disks later changes h =
    let x = over_run rules (λ a. a.vx) (λ c. (turned_by c).x) (λ state c e. across state c e) disks later changes h in
    let y = over_run rules (λ a. a.vy) (λ c. (turned_by c).y) (λ state c e. upwards state c e) disks later changes h in
    total_is velocity_of later ∙ (λ i. vector (x i) (y i))
    ∙ (λ i. sum (sym (total_is velocity_of disks) i) (sym (total_is turned_by changes) i))
  where
    across : (state : List Disk) (c : Change) → RanWall rules state c ⊎ RanPair rules state c →
        total (λ a. a.vx) (effect state c) ≡ total (λ a. a.vx) state +ℤ (turned_by c).x
    across state c e = elim e [
      | inl wall ↦ wall_adds rules (λ v. v.x) state c (λ v w. refl) wall
      | inr pair ↦ pair_adds rules (λ v. v.x) state c (λ v w j. kept_part v.x w.x j.x) pair
    ]

    upwards : (state : List Disk) (c : Change) → RanWall rules state c ⊎ RanPair rules state c →
        total (λ a. a.vy) (effect state c) ≡ total (λ a. a.vy) state +ℤ (turned_by c).y
    upwards state c e = elim e [
      | inl wall ↦ wall_adds rules (λ v. v.y) state c (λ v w. refl) wall
      | inr pair ↦ pair_adds rules (λ v. v.y) state c (λ v w j. kept_part v.y w.y j.y) pair
    ]

-- ---- energy
pub part_replaced : (f : Disk → ℕ) (disks : List Disk) (i : ℕ) (old new : Disk) → slice_get disks i ≡ Some old →
    sum_by f (slice_set disks i new) + f old ≡ sum_by f disks + f new
part_replaced f disks i old new at =
    let same : f (get_or disks i old) ≡ f old = ap f (get_or_from_slice_get disks i old old at) in
    let set = sum_by-set f disks i new old (slice_get_within disks i old at) in
    omega arith

energy_replaced : (disks : List Disk) (i : ℕ) (old new : Disk) → slice_get disks i ≡ Some old →
    energy (slice_set disks i new) + square_of (velocity_of old)
    ≡ energy disks + square_of (velocity_of new)
energy_replaced disks i old new at = part_replaced (λ a. square_of (velocity_of a)) disks i old new at

-- a side keeps a disk's speed
turned_square : (side : ℕ) (v : Vector) → square_of (turned side v) ≡ square_of v
turned_square side v = by_test (nat_lt side 2)
  where
    size : (m : ℤ) → nat_abs (neg_ℤ m) ≡ nat_abs m
    size m = grind (arith, ints)

    by_test : (p : Bool) → square_of (if p then vector (neg_ℤ v.x) v.y else vector v.x (neg_ℤ v.y)) ≡ square_of v
    by_test true = ap (λ n. n * n + nat_abs v.y * nat_abs v.y) (size v.x)
    by_test false = ap (λ n. nat_abs v.x * nat_abs v.x + n * n) (size v.y)

wall_energy : (rules : Rules) (disks : List Disk) (c : Change) → RanWall rules disks c →
    DifferByAtMost (rounding_of disks c) (energy (effect disks c)) (energy disks)
wall_energy rules disks c w =
    let own = change_of c.stamp w.disk None in
    let set = energy_replaced disks c.stamp.first w.disk own.first w.at in
    let same = turned_square c.stamp.second (velocity_of w.disk) in
    subst (λ (k : Change). DifferByAtMost (rounding_of disks k) (energy (effect disks k)) (energy disks))
    (sym w.change) (omega arith, omega arith)

-- of numbers, from whole numbers
within_of : (p q r s most : ℕ) → nat_abs ((pos p +ℤ pos q) -ℤ (pos r +ℤ pos s)) ≤ most →
    (p + q ≤ r + s + most) × (r + s ≤ p + q + most)
within_of p q r s most h = (grind (arith, ints), grind (arith, ints))

pair_squares : (rules : Rules) (disks : List Disk) (c : Change) (p : RanPair rules disks c) →
    let j = impulse_at c.stamp.tick p.first p.second in
    let v = velocity_of p.first in
    let w = velocity_of p.second in
    let u = difference v w in
    nat_abs ((dot (sum v j) (sum v j) +ℤ dot (difference w j) (difference w j)) -ℤ (dot v v +ℤ dot w w)) ≤ 3 * (nat_abs u.x + nat_abs u.y) + 4
pair_squares rules disks c p =
    let r = difference (place_of p.first c.stamp.tick) (place_of p.second c.stamp.tick) in
    let u = difference (velocity_of p.first) (velocity_of p.second) in
    energy_by c.stamp p.first p.second r u (impulse_at c.stamp.tick p.first p.second)
    (record { separation = refl; relative = refl; value = refl })
    (energy_kept r u p.event.0.contact.approaching.approaching)

-- the relative velocity of the state before is that of the two disks
relative_is : (rules : Rules) (disks : List Disk) (c : Change) (p : RanPair rules disks c) →
    relative_velocity disks c.stamp ≡ difference (velocity_of p.first) (velocity_of p.second)
relative_is rules disks c p =
    λ i. difference (ap velocity_if p.first_at i) (ap velocity_if p.second_at i)

pair_energy : (rules : Rules) (disks : List Disk) (c : Change) → RanPair rules disks c →
    DifferByAtMost (rounding_of disks c) (energy (effect disks c)) (energy disks)
pair_energy rules disks c p =
    let j = impulse_at c.stamp.tick p.first p.second in
    let v = velocity_of p.first in
    let w = velocity_of p.second in
    let u = difference v w in
    let one = energy_replaced disks c.stamp.first p.first (pushed c.stamp p.first j) p.first_at in
    let two =
    energy_replaced (slice_set disks c.stamp.first (pushed c.stamp p.first j)) c.stamp.second p.second (pushed_back c.stamp p.second j)
    (other_place disks c.stamp.first c.stamp.second (pushed c.stamp p.first j) p.second p.order p.second_at) in
    let near : nat_abs ((pos (square_of (sum v j)) +ℤ pos (square_of (difference w j))) -ℤ (pos (square_of v) +ℤ pos (square_of w)))
    ≤ 3 * (nat_abs u.x + nat_abs u.y) + 4 =
    subst (λ (z : ℤ). nat_abs z ≤ 3 * (nat_abs u.x + nat_abs u.y) + 4)
    (λ i. (length_is (sum v j) i +ℤ length_is (difference w j) i) -ℤ (length_is v i +ℤ length_is w i))
    (pair_squares rules disks c p) in
    let within =
    within_of (square_of (sum v j)) (square_of (difference w j)) (square_of v) (square_of w) (3 * (nat_abs u.x + nat_abs u.y) + 4) near in
    let most : rounding_of disks (change_of c.stamp p.first (Some p.second)) ≡ 3 * (nat_abs u.x + nat_abs u.y) + 4 =
    ap (λ (z : Vector). 3 * (nat_abs z.x + nat_abs z.y) + 4) (relative_is rules disks c p) in
    subst (λ (k : Change). DifferByAtMost (rounding_of disks k) (energy (effect disks k)) (energy disks))
    (sym p.change)
    (differ_by (square_of v) (square_of w) (square_of (sum v j)) (square_of (difference w j)) _ _ _ _ _ one two within most)
  where
    differ_by : (a b c d before between after most own : ℕ) → between + a ≡ before + c → after + b ≡ between + d →
        (c + d ≤ a + b + most) × (a + b ≤ c + d + most) → own ≡ most → DifferByAtMost own after before
    differ_by a b c d before between after most own one two within e = (omega arith, omega arith)

pub event_energy : (rules : Rules) (disks : List Disk) (c : Change) → RanWall rules disks c ⊎ RanPair rules disks c →
    DifferByAtMost (rounding_of disks c) (energy (effect disks c)) (energy disks)
event_energy rules disks c e = elim e [
  | inl wall ↦ wall_energy rules disks c wall
  | inr pair ↦ pair_energy rules disks c pair
]

energy_over_run : (rules : Rules) (disks later : List Disk) (changes : List Change) → Steps rules disks changes later →
    DifferByAtMost (roundings disks changes) (energy later) (energy disks)
energy_over_run rules disks later [] h =
    let same : energy later ≡ energy disks = ap energy h in
    (omega arith, omega arith)
energy_over_run rules disks later (c ∷ cs) h =
    both _ _ _ _ _ (event_energy rules disks c (ran rules disks c h.0.0 h.1)) (energy_over_run rules (effect disks c) later cs h.2)
  where
    both : (first rest before between after : ℕ) → DifferByAtMost first between before → DifferByAtMost rest after between →
        DifferByAtMost (first + rest) after before
    both first rest before between after p q = (omega arith, omega arith)

pub energy_stays_but_for_roundings : EnergyStaysButForRoundings
energy_stays_but_for_roundings = energy_over_run

-- ---- how much the roundings are
-- one if the change is one of two disks
abbrev pair_count : Change → ℕ
pair_count c = cond (is_some c.second) 1 0

apart : (m n : ℤ) (limit : ℕ) → nat_abs m ≤ limit → nat_abs n ≤ limit → nat_abs (m -ℤ n) ≤ 2 * limit
apart m n limit h k = omega (arith, ints)

small : (own x y limit : ℕ) → own ≡ 3 * (x + y) + 4 → x ≤ 2 * limit → y ≤ 2 * limit → own ≤ 1 * (12 * limit + 4)
small own x y limit e h k = omega arith

pair_rounds : (rules : Rules) (disks : List Disk) (c : Change) → IsValidState rules disks → RanPair rules disks c →
    rounding_of disks c ≤ most_rounded rules (pair_count c)
pair_rounds rules disks c valid p =
    let v = (valid.valid c.stamp.first p.first p.first_at).velocity in
    let w = (valid.valid c.stamp.second p.second p.second_at).velocity in
    let x : nat_abs (p.first.vx -ℤ p.second.vx) ≤ 2 * nat_abs rules.speed_limit = apart p.first.vx p.second.vx (nat_abs rules.speed_limit) v.x w.x in
    let y : nat_abs (p.first.vy -ℤ p.second.vy) ≤ 2 * nat_abs rules.speed_limit = apart p.first.vy p.second.vy (nat_abs rules.speed_limit) v.y w.y in
    let own : rounding_of disks (change_of c.stamp p.first (Some p.second)) ≡ 3 * (nat_abs (p.first.vx -ℤ p.second.vx) + nat_abs (p.first.vy -ℤ p.second.vy)) + 4 =
    ap (λ (z : Vector). 3 * (nat_abs z.x + nat_abs z.y) + 4) (relative_is rules disks c p) in
    subst (λ (k : Change). rounding_of disks k ≤ most_rounded rules (pair_count k)) (sym p.change) (small _ _ _ _ own x y)

event_rounds : (rules : Rules) (disks : List Disk) (c : Change) → IsValidState rules disks → RanWall rules disks c ⊎ RanPair rules disks c →
    rounding_of disks c ≤ most_rounded rules (pair_count c)
event_rounds rules disks c valid e = elim e [
  | inl wall ↦ subst (λ (k : Change). rounding_of disks k ≤ most_rounded rules (pair_count k)) (sym wall.change) (omega arith)
  | inr pair ↦ pair_rounds rules disks c valid pair
]

roundings_small : (rules : Rules) (disks later : List Disk) (changes : List Change) → IsValidState rules disks →
    Steps rules disks changes later → roundings disks changes ≤ most_rounded rules (pairs changes)
roundings_small rules disks later [] valid h = omega arith
roundings_small rules disks later (c ∷ cs) valid h =
    both _ _ (pair_count c) (pairs cs) _ _ (sum_by-cons pair_count c cs)
    (event_rounds rules disks c valid (ran rules disks c h.0.0 h.1))
    (roundings_small rules (effect disks c) later cs (event_valid rules disks c valid h.0.0 h.1) h.2)
  where
    both : (r s m n limit count : ℕ) → count ≡ m + n → r ≤ m * limit → s ≤ n * limit → r + s ≤ count * limit
    both r s m n limit count e h k = rw e (omega arith)

pub energy_nearly_stays : EnergyNearlyStays
energy_nearly_stays rules disks later changes valid h =
    let small = roundings_small rules disks later changes valid h in
    wider _ _ _ _ small (energy_over_run rules disks later changes h)
  where
    wider : (less more m n : ℕ) → less ≤ more → DifferByAtMost less m n → DifferByAtMost more m n
    wider less more m n le h = (omega arith, omega arith)

-- ---- whole runs
-- the state of a run's end, whose spots its outcome has
ran_to_end : (rules : Rules) (disks : List Disk) (changes : List Change) (spots : List Spot) →
    Runs rules disks changes (Done spots) →
    (later : List Disk) × Steps rules disks changes later × (spots ≡ spots_of rules.end later)
ran_to_end rules disks [] spots run = (disks, refl, run.1)
ran_to_end rules disks (c ∷ cs) spots run =
    let rest = ran_to_end rules (effect disks c) cs spots run.2 in
    (rest.0, (run.0, run.1, rest.1), rest.2)

spots_momentum : (tick : ℕ) (start : Vector) (disks : List Disk) →
    fold (λ t spot. sum t (spot_velocity spot)) start (map (spot_of tick) disks)
    ≡ fold (λ t a. sum t (velocity_of a)) start disks
spots_momentum tick start [] = refl
spots_momentum tick start (a ∷ disks) = spots_momentum tick (sum start (velocity_of a)) disks

spots_energy : (tick start : ℕ) (disks : List Disk) →
    fold (λ n spot. n + square_of (spot_velocity spot)) start (map (spot_of tick) disks)
    ≡ fold (λ n a. n + square_of (velocity_of a)) start disks
spots_energy tick start [] = refl
spots_energy tick start (a ∷ disks) = spots_energy tick (start + square_of (velocity_of a)) disks

pub runs_conserve : RunsConserve
runs_conserve scene changes spots valid run =
    let ran = ran_to_end scene.rules scene.disks changes spots run in
    let tick = scene.rules.end in
    let near = energy_nearly_stays scene.rules scene.disks ran.0 changes (starts_valid scene valid) ran.1 in
    let same : energy_of spot_velocity spots ≡ energy ran.0 =
    ap (energy_of spot_velocity) ran.2 ∙ spots_energy tick 0 ran.0 in
    record {
      momentum_at_end = ap (total_of spot_velocity) ran.2 ∙ spots_momentum tick (vector (pos 0) (pos 0)) ran.0
          ∙ momentum_turns_at_sides scene.rules scene.disks ran.0 changes ran.1;
      energy_at_end = subst (λ (n : ℕ). DifferByAtMost (most_rounded scene.rules (pairs changes)) n (energy scene.disks))
          (sym same) near;
    }
