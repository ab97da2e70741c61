-- How great the sums of a run can become.
use Rattle.std.proofs.Common.{◌≡◌, ℕ, ◌+◌, ◌*◌, ◌^◌, ◌≤◌, Bool, true, false, cond, if◌then◌else◌, ℤ, nat_abs, ◌-ℤ◌, List, [], ◌∷◌, length, Option, Some, None, refl, arith}
use Rattle.std.specs.Prelude.{◌==◌, is_some, nat_lt, slice_get}
use Rattle.std.proofs.lemmas.Int.{ints}
use Rattle.std.proofs.lemmas.List.Sums.{sum_by-cons, count_by-le-length}
use Rattle.std.proofs.Math.Nat.{mul-le-mul}
use Rattle.plane_vectors.specs.declared.Vector.{Vector}
use Rattle.plane_vectors.specs.Vectors.{IsWithin, difference}
use Rattle.plane_vectors.proofs.Sizes.{dot_size}
use Rattle.fixed_motion.specs.declared.rules.Rules.{Rules}
use Rattle.fixed_motion.specs.declared.disk.Disk.{Disk}
use Rattle.fixed_motion.specs.Rules.{IsChecked}
use Rattle.fixed_motion.specs.Motion.{IsValidDisk, centre_of, velocity_of}
use Rattle.fixed_motion.proofs.Sizes.{difference_size, inside_in_box, slow_size}
use Rattle.event_stamps.specs.declared.Stamp.{Stamp}
use Rattle.event_rules.specs.declared.change.Change.{Change}
use Rattle.event_rules.specs.declared.outcome.Outcome.{Outcome}
use Rattle.event_rules.specs.Conservation.{pairs, velocity_if, velocity_at}
use Rattle.event_rules.specs.Counts.{FewEventsOfAScene}
use Rattle.event_rules.specs.Outcomes.{IsChangeOf, IsRecordOf}
use Rattle.event_rules.specs.Run.{Runs, IsValidState, effect}
use Rattle.event_rules.proofs.Fits.{change_fits}
use Rattle.event_rules.proofs.Ran.{event_valid}
use Rattle.event_rules.proofs.Ranges.{starts_valid, ticks, rounds}
use Rattle.collision_sums.specs.declared.sums.Sums.{Sums}
use Rattle.collision_sums.specs.Sums.{no_sums, added, has_middle_in_part, virial_of, after_pair, after_event, after_change, after_wall, is_along, across_of, taken_of, with_taken}
use Rattle.run_samples.specs.declared.sample.Sample.TheVariants.{Sums as Summed}
use Rattle.run_samples.specs.Samples.{sums_after}
use Rattle.sampled_laws.specs.Laws.{SumsNeverStop}

-- sums over at most this many events of two disks, and this many at sides
pub record IsSmall (p w : ℕ) (s : Sums) : Type 0 where
  pub pairs : s.pairs ≤ p
  pub virial : s.virial ≤ 2 ^ 52 * p
  pub walls : s.walls ≤ w
  pub left : s.left ≤ 2 ^ 21 * w
  pub right : s.right ≤ 2 ^ 21 * w
  pub bottom : s.bottom ≤ 2 ^ 21 * w
  pub top : s.top ≤ 2 ^ 21 * w

pub wider : (p w q x : ℕ) (s : Sums) → p ≤ q → w ≤ x → IsSmall p w s → IsSmall q x s
wider p w q x s h k small =
    let pairs = small.pairs in let virial = small.virial in let walls = small.walls in
    let left = small.left in let right = small.right in let bottom = small.bottom in let top = small.top in
    record {
      pairs = omega arith;
      virial = omega arith;
      walls = omega arith;
      left = omega arith;
      right = omega arith;
      bottom = omega arith;
      top = omega arith;
    }

added_most : (total n m k : ℕ) → total ≤ m → n ≤ k → added total n ≤ m + k
added_most total n m k h g = omega (arith, h, g)

-- ---- one event
pub virial_small : (rules : Rules) (v : Vector) (a b : Disk) → IsChecked rules → IsWithin (2 ^ 20) v → IsValidDisk rules a → IsValidDisk rules b →
    virial_of v a b ≤ 2 ^ 52
virial_small rules v a b checked slow first second =
    let r = difference (centre_of a) (centre_of b) in
    let d = difference (velocity_of a) v in
    let place = difference_size (centre_of a) (centre_of b) (inside_in_box rules a (centre_of a) checked first.size first.centre)
    (inside_in_box rules b (centre_of b) checked second.size second.centre) in
    let own = slow_size rules (velocity_of a) checked first.velocity in
    let x : nat_abs r.x * nat_abs d.x ≤ 2 ^ 30 * 2 ^ 21 = mul-le-mul place.x (apart a.vx v.x own.x slow.x) in
    let y : nat_abs r.y * nat_abs d.y ≤ 2 ^ 30 * 2 ^ 21 = mul-le-mul place.y (apart a.vy v.y own.y slow.y) in
    omega (arith, dot_size r d, x, y)
  where
    apart : (m n : ℤ) → nat_abs m ≤ 2 ^ 20 → nat_abs n ≤ 2 ^ 20 → nat_abs (m -ℤ n) ≤ 2 ^ 21
    apart m n h k = omega (arith, ints)

pair_small : (rules : Rules) (margin p w : ℕ) (s : Sums) (v : Vector) (a b : Disk) → virial_of v a b ≤ 2 ^ 52 → IsSmall p w s →
    IsSmall (p + 1) w (after_pair rules margin s v a b)
pair_small rules margin p w s v a b h small = by_test (has_middle_in_part rules margin (centre_of a) (centre_of b))
  where
    virial : added s.virial (virial_of v a b) ≤ 2 ^ 52 * (p + 1)
    virial = let most = added_most s.virial (virial_of v a b) (2 ^ 52 * p) (2 ^ 52) small.virial h in omega (arith, most)

    by_test : (t : Bool) →
        IsSmall (p + 1) w (if t then record s { pairs = added s.pairs 1; virial = added s.virial (virial_of v a b) } else s)
    by_test true = record {
      pairs = added_most s.pairs 1 p 1 small.pairs (omega arith);
      virial = virial;
      walls = small.walls;
      left = small.left;
      right = small.right;
      bottom = small.bottom;
      top = small.top;
    }
    by_test false = wider p w (p + 1) w s (omega arith) (omega arith) small

-- a side takes at most twice the greatest component
pub taken_most : (rules : Rules) (side : ℕ) (a : Disk) → IsChecked rules → IsValidDisk rules a → taken_of (across_of side a) ≤ 2 ^ 21
taken_most rules side a checked valid =
    let own = slow_size rules (velocity_of a) checked valid.velocity in by_test own.x own.y (nat_lt side 2)
  where
    by_test : nat_abs a.vx ≤ 2 ^ 20 → nat_abs a.vy ≤ 2 ^ 20 → (t : Bool) → 2 * nat_abs (if t then a.vx else a.vy) ≤ 2 ^ 21
    by_test x y true = omega arith
    by_test x y false = omega arith

with_taken_small : (p w : ℕ) (s : Sums) (side push : ℕ) → push ≤ 2 ^ 21 → IsSmall p w s → IsSmall p (w + 1) (with_taken s side push)
with_taken_small p w s side push h small = by_tests (side == 0) (side == 1) (side == 2)
  where
    more : IsSmall p (w + 1) s
    more = wider p w p (w + 1) s (omega arith) (omega arith) small

    one : added s.walls 1 ≤ w + 1
    one = added_most s.walls 1 w 1 small.walls (omega arith)

    most : (taken : ℕ) → taken ≤ 2 ^ 21 * w → added taken push ≤ 2 ^ 21 * (w + 1)
    most taken k = let sum = added_most taken push (2 ^ 21 * w) (2 ^ 21) k h in omega (arith, sum)

    by_tests : (t u v : Bool) → IsSmall p (w + 1) (if t then record s { walls = added s.walls 1; left = added s.left push }
        else if u then record s { walls = added s.walls 1; right = added s.right push }
        else if v then record s { walls = added s.walls 1; bottom = added s.bottom push }
        else record s { walls = added s.walls 1; top = added s.top push })
    by_tests true u v = record { pairs = more.pairs; virial = more.virial; walls = one; left = most s.left small.left; right = more.right; bottom = more.bottom; top = more.top }
    by_tests false true v = record { pairs = more.pairs; virial = more.virial; walls = one; left = more.left; right = most s.right small.right; bottom = more.bottom; top = more.top }
    by_tests false false true = record { pairs = more.pairs; virial = more.virial; walls = one; left = more.left; right = more.right; bottom = most s.bottom small.bottom; top = more.top }
    by_tests false false false = record { pairs = more.pairs; virial = more.virial; walls = one; left = more.left; right = more.right; bottom = more.bottom; top = most s.top small.top }

wall_small : (rules : Rules) (margin p w : ℕ) (s : Sums) (side : ℕ) (a : Disk) → taken_of (across_of side a) ≤ 2 ^ 21 → IsSmall p w s →
    IsSmall p (w + 1) (after_wall rules margin s side a)
wall_small rules margin p w s side a h small = by_test (is_along rules margin side a)
  where
    by_test : (t : Bool) → IsSmall p (w + 1) (if t then with_taken s side (taken_of (across_of side a)) else s)
    by_test true = with_taken_small p w s side (taken_of (across_of side a)) h small
    by_test false = wider p w p (w + 1) s (omega arith) (omega arith) small

pub slow_if : (rules : Rules) (o : Option Disk) → IsChecked rules → ((a : Disk) → o ≡ Some a → IsValidDisk rules a) → IsWithin (2 ^ 20) (velocity_if o)
slow_if rules None checked h = record { x = omega (arith, ints); y = omega (arith, ints) }
slow_if rules (Some a) checked h = slow_size rules (velocity_of a) checked (h a refl).velocity

-- one if the change is one of two disks
abbrev pub pair_count : Change → ℕ
pair_count c = cond (is_some c.second) 1 0

event_small : (rules : Rules) (margin p w count tick : ℕ) (disks : List Disk) (s : Sums) (t : Stamp) (a : Disk) (o : Option Disk) → IsChecked rules →
    IsValidState rules disks → IsValidDisk rules a → IsRecordOf rules count tick t.second o → IsSmall p w s →
    IsSmall (p + cond (is_some o) 1 0) (w + 1) (after_event rules margin disks s t a o)
event_small rules margin p w count tick disks s t a None checked state first second small =
    wider p (w + 1) (p + 0) (w + 1) _ (omega arith) (omega arith)
    (wall_small rules margin p w s t.second a (taken_most rules t.second a checked first) small)
event_small rules margin p w count tick disks s t a (Some b) checked state first second small =
    let slow = slow_if rules (slice_get disks t.first) checked (λ d at. state.valid t.first d at) in
    wider (p + 1) w (p + 1) (w + 1) _ (omega arith) (omega arith)
    (pair_small rules margin p w s (velocity_at disks t.first) a b
    (virial_small rules (velocity_at disks t.first) a b checked slow first second.valid) small)

pub step_small : (rules : Rules) (margin p w : ℕ) (disks : List Disk) (s : Sums) (c : Change) → IsChecked rules → IsValidState rules disks →
    IsChangeOf rules (length disks) c → IsSmall p w s → IsSmall (p + pair_count c) (w + 1) (after_change rules margin disks s c)
step_small rules margin p w disks s c checked state fits small =
    event_small rules margin p w (length disks) c.stamp.tick disks s c.stamp c.first c.second checked state fits.first.valid fits.second small

-- ---- a run
pub small_from : (rules : Rules) (margin p w : ℕ) (disks : List Disk) (s : Sums) (cs : List Change) (outcome : Outcome) → IsChecked rules →
    IsValidState rules disks → Runs rules disks cs outcome → IsSmall p w s →
    IsSmall (p + pairs cs) (w + length cs) (sums_after (Summed margin) rules disks s cs)
small_from rules margin p w disks s [] outcome checked state run small = wider p w (p + 0) (w + 0) s (omega arith) (omega arith) small
small_from rules margin p w disks s (c ∷ cs) outcome checked state run small =
    let first = step_small rules margin p w disks s c checked state (change_fits rules disks c state run.0.0 run.1) small in
    let rest = small_from rules margin (p + pair_count c) (w + 1) (effect disks c) (after_change rules margin disks s c) cs outcome checked
    (event_valid rules disks c state run.0.0 run.1) run.2 first in
    let all : pairs (c ∷ cs) ≡ pair_count c + pairs cs = sum_by-cons pair_count c cs in
    wider ((p + pair_count c) + pairs cs) ((w + 1) + length cs) (p + pairs (c ∷ cs)) (w + length (c ∷ cs)) _ (omega (arith, all)) (omega arith) rest

pub none_small : IsSmall 0 0 no_sums
none_small = record { pairs = omega arith; virial = omega arith; walls = omega arith; left = omega arith; right = omega arith; bottom = omega arith; top = omega arith }

pub sums_never_stop_by : FewEventsOfAScene → SumsNeverStop
sums_never_stop_by few margin scene changes outcome valid run =
    let rules = scene.rules in
    let start = starts_valid scene valid in
    let all = small_from rules margin 0 0 scene.disks no_sums changes outcome valid.rules start run none_small in
    let least = few scene changes outcome valid run in
    let most : rules.end * rules.round_limit * length scene.disks ≤ 1099511627776 * 65536 * 65536 =
    mul-le-mul (mul-le-mul (ticks rules valid.rules) (rounds rules valid.rules)) start.count in
    let some : pairs changes ≤ length changes = count_by-le-length (λ (c : Change). is_some c.second) changes in
    let events : length changes ≤ 2 ^ 72 = omega (arith, least, most) in
    let twos : pairs changes ≤ 2 ^ 71 = omega (arith, least, most, some) in
    let pairs_most = all.pairs in let virial = all.virial in let walls = all.walls in
    let left = all.left in let right = all.right in let bottom = all.bottom in let top = all.top in (
      omega (arith, twos, pairs_most),
      omega (arith, twos, virial),
      omega (arith, events, walls),
      omega (arith, events, left),
      omega (arith, events, right),
      omega (arith, events, bottom),
      omega (arith, events, top),
    )
