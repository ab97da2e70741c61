-- The sums of a run are those of its parts, added.
use Rattle.std.proofs.Common.{◌≡◌, ◌∙◌, ℕ, zero, suc, ◌+◌, ◌-◌, ◌*◌, ◌^◌, ◌<◌, ◌≤◌, Bool, true, false, if◌then◌else◌, pos, List, [], ◌∷◌, ◌++◌, length, map, Option, Some, None, option_map, slice_get, slice_set, ap, refl, sym, subst, arith}
use Rattle.std.specs.Prelude.{fold, zip, is_some, ◌==◌}
use Rattle.std.proofs.lemmas.Option.{slice_get-map}
use Rattle.std.proofs.lemmas.List.Sums.{count_by-le-length}
use Rattle.plane_vectors.specs.declared.Vector.{Vector}
use Rattle.plane_vectors.specs.Vectors.{vector}
use Rattle.fixed_motion.specs.declared.rules.Rules.{Rules}
use Rattle.fixed_motion.specs.declared.disk.Disk.{Disk}
use Rattle.fixed_motion.specs.Rules.{IsChecked}
use Rattle.fixed_motion.specs.Motion.{IsValidDisk, centre_of, velocity_of}
use Rattle.event_stamps.specs.declared.Stamp.{Stamp}
use Rattle.event_rules.specs.declared.change.Change.{Change}
use Rattle.event_rules.specs.declared.outcome.Spot.{Spot}
use Rattle.event_rules.specs.declared.outcome.Outcome.{Outcome}
use Rattle.event_rules.specs.Counts.{FewEventsOfAScene}
use Rattle.event_rules.specs.Outcomes.{IsRecordOf}
use Rattle.event_rules.specs.Run.{Runs, IsValidState, effect, set_some, spots_of}
use Rattle.event_rules.specs.Conservation.{pairs, velocity_if, velocity_at}
use Rattle.event_rules.proofs.Fits.{change_fits}
use Rattle.event_rules.proofs.Ran.{event_valid, length-effect}
use Rattle.event_rules.proofs.Ranges.{starts_valid}
use Rattle.resume.specs.Shift.{later_stamp, later_disk, later_change, shifted}
use Rattle.resume.specs.Parts.{ending_at, before_scene, rest_scene, started, disks_from}
use Rattle.resume.specs.Laws.{PartsMakeRuns}
use Rattle.resume.proofs.InParts.{before_valid}
use Rattle.collision_sums.specs.declared.sums.Sums.{Sums}
use Rattle.collision_sums.specs.Sums.{no_sums, added, after_pair, after_wall, after_event, after_change, has_middle_in_part, is_along, virial_of, taken_of, across_of, with_taken}
use Rattle.run_samples.specs.declared.sample.Sample.TheVariants.{Sums as Summed}
use Rattle.run_samples.specs.Samples.{sums_after}
use Rattle.sampled_laws.specs.InParts.{SumsOfPartsAddUp, together}
use Rattle.sampled_laws.proofs.Small.{IsSmall, small_from, none_small, slow_if, taken_most, virial_small, wider}
use Rattle.sampled_laws.proofs.Steps.{spots_at_end}
use Rattle.sampled_laws.proofs.Virials.{few_changes, step_fits}

-- ---- velocities
vector_if : Option Vector → Vector
vector_if None = vector (pos 0) (pos 0)
vector_if (Some v) = v

velocity_is : (xs : List Disk) (i : ℕ) → velocity_at xs i ≡ vector_if (slice_get (map velocity_of xs) i)
unfolding vector_if
velocity_is xs i = of_option (slice_get xs i) ∙ ap vector_if (sym (slice_get-map velocity_of xs i))
  where
    of_option : (o : Option Disk) → velocity_if o ≡ vector_if (option_map velocity_of o)
    of_option None = refl
    of_option (Some a) = refl

same_velocity : (xs ys : List Disk) (i : ℕ) → map velocity_of xs ≡ map velocity_of ys → velocity_at xs i ≡ velocity_at ys i
same_velocity xs ys i e = velocity_is xs i ∙ ap (λ (l : List Vector). vector_if (slice_get l i)) e ∙ sym (velocity_is ys i)

set_velocities : (xs : List Disk) (i : ℕ) (a : Disk) → map velocity_of (slice_set xs i a) ≡ slice_set (map velocity_of xs) i (velocity_of a)
set_velocities [] i a = refl
set_velocities (x ∷ xs) zero a = refl
set_velocities (x ∷ xs) (suc i) a = ap (λ (l : List Vector). velocity_of x ∷ l) (set_velocities xs i a)

-- the same velocities after records of the same velocity were put in
set_same : (xs ys : List Disk) (i : ℕ) (a b : Disk) → map velocity_of xs ≡ map velocity_of ys → velocity_of a ≡ velocity_of b →
    map velocity_of (slice_set xs i a) ≡ map velocity_of (slice_set ys i b)
set_same xs ys i a b e same =
    set_velocities xs i a ∙ (λ j. slice_set (e j) i (same j)) ∙ sym (set_velocities ys i b)

set_some_same : (at : ℕ) (xs ys : List Disk) (i : ℕ) (o : Option Disk) → map velocity_of xs ≡ map velocity_of ys →
    map velocity_of (set_some xs i (option_map (later_disk at) o)) ≡ map velocity_of (set_some ys i o)
set_some_same at xs ys i None e = e
set_some_same at xs ys i (Some b) e = set_same xs ys i (later_disk at b) b e refl

effect_same : (at : ℕ) (xs ys : List Disk) (c : Change) → map velocity_of xs ≡ map velocity_of ys →
    map velocity_of (effect xs (later_change at c)) ≡ map velocity_of (effect ys c)
effect_same at xs ys c e =
    set_some_same at (slice_set xs c.stamp.first (later_disk at c.first)) (slice_set ys c.stamp.first c.first) c.stamp.second c.second
    (set_same xs ys c.stamp.first (later_disk at c.first) c.first e refl)

-- the disks that start at the spots of others
started_same : (tick : ℕ) (ds xs : List Disk) → length ds ≡ length xs → map velocity_of (map started (zip ds (spots_of tick xs))) ≡ map velocity_of xs
started_same tick [] [] e = refl
started_same tick [] (x ∷ xs) e = absurd (omega (arith, e))
started_same tick (d ∷ ds) [] e = absurd (omega (arith, e))
started_same tick (d ∷ ds) (x ∷ xs) e =
    ap (λ (l : List Vector). velocity_of x ∷ l) (started_same tick ds xs (omega (arith, e)))

length-fold : (disks : List Disk) (cs : List Change) → length (fold effect disks cs) ≡ length disks
length-fold disks [] = refl
length-fold disks (c ∷ cs) = length-fold (effect disks c) cs ∙ length-effect disks c

-- ---- the same events later
same_event : (rules : Rules) (margin end at : ℕ) (xs ys : List Disk) (s : Sums) (t : Stamp) (a : Disk) (o : Option Disk) → map velocity_of xs ≡ map velocity_of ys →
    after_event rules margin xs s (later_stamp at t) (later_disk at a) (option_map (later_disk at) o) ≡ after_event (ending_at end rules) margin ys s t a o
same_event rules margin end at xs ys s t a None e = refl
same_event rules margin end at xs ys s t a (Some b) e =
    ap (λ (v : Vector). after_pair rules margin s v a b) (same_velocity xs ys t.first e)

same_sums : (rules : Rules) (margin end at : ℕ) (xs ys : List Disk) (s : Sums) (cs : List Change) → map velocity_of xs ≡ map velocity_of ys →
    sums_after (Summed margin) rules xs s (shifted at cs) ≡ sums_after (Summed margin) (ending_at end rules) ys s cs
same_sums rules margin end at xs ys s [] e = refl
same_sums rules margin end at xs ys s (c ∷ cs) e =
    ap (λ (t : Sums). sums_after (Summed margin) rules (effect xs (later_change at c)) t (shifted at cs)) (same_event rules margin end at xs ys s c.stamp c.first c.second e)
    ∙ same_sums rules margin end at (effect xs (later_change at c)) (effect ys c) (after_change (ending_at end rules) margin ys s c) cs (effect_same at xs ys c e)

-- another end
other_event : (rules : Rules) (margin end : ℕ) (disks : List Disk) (s : Sums) (t : Stamp) (a : Disk) (o : Option Disk) →
    after_event rules margin disks s t a o ≡ after_event (ending_at end rules) margin disks s t a o
other_event rules margin end disks s t a None = refl
other_event rules margin end disks s t a (Some b) = refl

other_end : (rules : Rules) (margin end : ℕ) (disks : List Disk) (s : Sums) (cs : List Change) →
    sums_after (Summed margin) rules disks s cs ≡ sums_after (Summed margin) (ending_at end rules) disks s cs
other_end rules margin end disks s [] = refl
other_end rules margin end disks s (c ∷ cs) =
    ap (λ (t : Sums). sums_after (Summed margin) rules (effect disks c) t cs) (other_event rules margin end disks s c.stamp c.first c.second)
    ∙ other_end rules margin end (effect disks c) (after_change (ending_at end rules) margin disks s c) cs

-- first some changes, then others
sums_on : (rules : Rules) (margin : ℕ) (disks : List Disk) (s : Sums) (xs ys : List Change) →
    sums_after (Summed margin) rules disks s (xs ++ ys)
    ≡ sums_after (Summed margin) rules (fold effect disks xs) (sums_after (Summed margin) rules disks s xs) ys
sums_on rules margin disks s [] ys = refl
sums_on rules margin disks s (c ∷ xs) ys = sums_on rules margin (effect disks c) (after_change rules margin disks s c) xs ys

-- ---- sums that are added
added_over : (a b n : ℕ) → (a + b) + n < 2 ^ 128 → added (a + b) n ≡ a + added b n
added_over a b n h = omega arith

-- neither of two sums is large
record AreSmall (m w : ℕ) (s t : Sums) : Type 0 where
  pub first : IsSmall m m s
  pub second : IsSmall w w t
  pub few : m ≤ 2 ^ 72
  pub fewer : w ≤ 2 ^ 72

pair_over : (rules : Rules) (margin m w : ℕ) (s t : Sums) (v : Vector) (a b : Disk) → AreSmall m w s t → virial_of v a b ≤ 2 ^ 52 →
    after_pair rules margin (together s t) v a b ≡ together s (after_pair rules margin t v a b)
pair_over rules margin m w s t v a b small push = by_test (has_middle_in_part rules margin (centre_of a) (centre_of b))
  where
    few : m ≤ 2 ^ 72
    few = small.few

    fewer : w ≤ 2 ^ 72
    fewer = small.fewer

    virials : added (s.virial + t.virial) (virial_of v a b) ≡ s.virial + added t.virial (virial_of v a b)
    virials = added_over s.virial t.virial (virial_of v a b) (room s.virial t.virial (virial_of v a b) small.first.virial small.second.virial push)
      where
        room : (x y n : ℕ) → x ≤ 2 ^ 52 * m → y ≤ 2 ^ 52 * w → n ≤ 2 ^ 52 → (x + y) + n < 2 ^ 128
        room x y n h k g = omega arith

    counts : added (s.pairs + t.pairs) 1 ≡ s.pairs + added t.pairs 1
    counts = added_over s.pairs t.pairs 1 (room s.pairs t.pairs small.first.pairs small.second.pairs)
      where
        room : (x y : ℕ) → x ≤ m → y ≤ w → (x + y) + 1 < 2 ^ 128
        room x y h k = omega arith

    by_test : (b' : Bool) → (if b' then record (together s t) { pairs = added (s.pairs + t.pairs) 1; virial = added (s.virial + t.virial) (virial_of v a b) } else together s t)
        ≡ together s (if b' then record t { pairs = added t.pairs 1; virial = added t.virial (virial_of v a b) } else t)
    by_test true = λ i. record (together s t) { pairs = counts i; virial = virials i }
    by_test false = refl

wall_over : (rules : Rules) (margin m w : ℕ) (s t : Sums) (side : ℕ) (a : Disk) → AreSmall m w s t → taken_of (across_of side a) ≤ 2 ^ 21 →
    after_wall rules margin (together s t) side a ≡ together s (after_wall rules margin t side a)
wall_over rules margin m w s t side a small push = by_test (is_along rules margin side a)
  where
    n : ℕ
    n = taken_of (across_of side a)

    few : m ≤ 2 ^ 72
    few = small.few

    fewer : w ≤ 2 ^ 72
    fewer = small.fewer

    taken : (x y : ℕ) → x ≤ 2 ^ 21 * m → y ≤ 2 ^ 21 * w → added (x + y) n ≡ x + added y n
    taken x y h k = added_over x y n (room x y n h k push)
      where
        room : (x y n : ℕ) → x ≤ 2 ^ 21 * m → y ≤ 2 ^ 21 * w → n ≤ 2 ^ 21 → (x + y) + n < 2 ^ 128
        room x y n h k g = omega arith

    counts : added (s.walls + t.walls) 1 ≡ s.walls + added t.walls 1
    counts = added_over s.walls t.walls 1 (room s.walls t.walls small.first.walls small.second.walls)
      where
        room : (x y : ℕ) → x ≤ m → y ≤ w → (x + y) + 1 < 2 ^ 128
        room x y h k = omega arith

    by_tests : (p q r : Bool) → (if p then record (together s t) { walls = added (s.walls + t.walls) 1; left = added (s.left + t.left) n }
        else if q then record (together s t) { walls = added (s.walls + t.walls) 1; right = added (s.right + t.right) n }
        else if r then record (together s t) { walls = added (s.walls + t.walls) 1; bottom = added (s.bottom + t.bottom) n }
        else record (together s t) { walls = added (s.walls + t.walls) 1; top = added (s.top + t.top) n })
        ≡ together s (if p then record t { walls = added t.walls 1; left = added t.left n }
        else if q then record t { walls = added t.walls 1; right = added t.right n }
        else if r then record t { walls = added t.walls 1; bottom = added t.bottom n }
        else record t { walls = added t.walls 1; top = added t.top n })
    by_tests true q r = λ i. record (together s t) { walls = counts i; left = taken s.left t.left small.first.left small.second.left i }
    by_tests false true r = λ i. record (together s t) { walls = counts i; right = taken s.right t.right small.first.right small.second.right i }
    by_tests false false true = λ i. record (together s t) { walls = counts i; bottom = taken s.bottom t.bottom small.first.bottom small.second.bottom i }
    by_tests false false false = λ i. record (together s t) { walls = counts i; top = taken s.top t.top small.first.top small.second.top i }

    by_test : (b : Bool) → (if b then with_taken (together s t) side n else together s t) ≡ together s (if b then with_taken t side n else t)
    by_test true = by_tests (side == 0) (side == 1) (side == 2)
    by_test false = refl

event_over : (rules : Rules) (margin m w count tick : ℕ) (disks : List Disk) (s t : Sums) (stamp : Stamp) (a : Disk) (o : Option Disk) → IsChecked rules →
    IsValidState rules disks → IsValidDisk rules a → IsRecordOf rules count tick stamp.second o → AreSmall m w s t →
    after_event rules margin disks (together s t) stamp a o ≡ together s (after_event rules margin disks t stamp a o)
event_over rules margin m w count tick disks s t stamp a None checked state first second small =
    wall_over rules margin m w s t stamp.second a small (taken_most rules stamp.second a checked first)
event_over rules margin m w count tick disks s t stamp a (Some b) checked state first second small =
    let slow = slow_if rules (slice_get disks stamp.first) checked (λ d at. state.valid stamp.first d at) in
    pair_over rules margin m w s t (velocity_at disks stamp.first) a b small (virial_small rules (velocity_at disks stamp.first) a b checked slow first second.valid)

-- of a run that begins with some sums already, the sums are these and its own
run_over : (rules : Rules) (margin m w : ℕ) (disks : List Disk) (s t : Sums) (cs : List Change) (outcome : Outcome) → IsChecked rules →
    IsValidState rules disks → Runs rules disks cs outcome → IsSmall m m s → IsSmall w w t → m ≤ 2 ^ 72 → w + length cs ≤ 2 ^ 72 →
    sums_after (Summed margin) rules disks (together s t) cs ≡ together s (sums_after (Summed margin) rules disks t cs)
run_over rules margin m w disks s t [] outcome checked state run first second few fewer = refl
run_over rules margin m w disks s t (c ∷ cs) outcome checked state run first second few fewer =
    let fits = change_fits rules disks c state run.0.0 run.1 in
    let small : AreSmall m w s t = record { first = first; second = second; few = few; fewer = omega arith } in
    ap (λ (u : Sums). sums_after (Summed margin) rules (effect disks c) u cs)
    (event_over rules margin m w (length disks) c.stamp.tick disks s t c.stamp c.first c.second checked state fits.first.valid fits.second small)
    ∙ run_over rules margin m (w + 1) (effect disks c) s (after_change rules margin disks t c) cs outcome checked
    (event_valid rules disks c state run.0.0 run.1) run.2 first (step_fits rules margin w disks t c checked state fits second) few (omega arith)

with_none : (s : Sums) → s ≡ together s no_sums
with_none s = λ i. record {
  pairs = more s.pairs i;
  virial = more s.virial i;
  walls = more s.walls i;
  left = more s.left i;
  right = more s.right i;
  bottom = more s.bottom i;
  top = more s.top i;
}
  where
    more : (n : ℕ) → n ≡ n + 0
    more n = omega arith

-- the sums of a run are no greater than its number of events lets them be
small_run : (rules : Rules) (margin : ℕ) (disks : List Disk) (cs : List Change) (outcome : Outcome) → IsChecked rules → IsValidState rules disks →
    Runs rules disks cs outcome → IsSmall (length cs) (length cs) (sums_after (Summed margin) rules disks no_sums cs)
small_run rules margin disks cs outcome checked state run =
    let some : pairs cs ≤ length cs = count_by-le-length (λ (c : Change). is_some c.second) cs in
    wider (0 + pairs cs) (0 + length cs) (length cs) (length cs) _ (omega arith) (omega arith)
    (small_from rules margin 0 0 disks no_sums cs outcome checked state run none_small)

pub sums_of_parts_add_up_by : FewEventsOfAScene → PartsMakeRuns → SumsOfPartsAddUp
sums_of_parts_add_up_by few_events parts margin at scene first more spots outcome valid le run rest_run =
    let rules = scene.rules in
    let front = before_scene scene at in
    let front_valid = before_valid scene at le valid in
    let rest = rest_scene scene at spots in
    let rest_valid = (parts scene at first spots valid le run).0 in
    let middle = fold effect scene.disks first in
    let own = sums_after (Summed margin) rules scene.disks no_sums first in
    let here : own ≡ sums_after (Summed margin) front.rules scene.disks no_sums first = other_end rules margin at scene.disks no_sums first in
    let places : spots ≡ spots_of at middle = spots_at_end front.rules scene.disks first spots run in
    let same : map velocity_of middle ≡ map velocity_of rest.disks =
    sym (started_same at scene.disks middle (sym (length-fold scene.disks first))) ∙ ap (λ (l : List Spot). map velocity_of (disks_from scene.disks l)) (sym places) in
    let small = subst (IsSmall (length first) (length first)) (sym here)
    (small_run front.rules margin scene.disks first _ front_valid.rules (starts_valid front front_valid) run) in
    sums_on rules margin scene.disks no_sums first (shifted at more)
    ∙ same_sums rules margin (rules.end - at) at middle rest.disks own more same
    ∙ ap (λ (s : Sums). sums_after (Summed margin) rest.rules rest.disks s more) (with_none own)
    ∙ run_over rest.rules margin (length first) 0 rest.disks own no_sums more outcome rest_valid.rules (starts_valid rest rest_valid) rest_run small none_small
    (few_changes few_events front first _ front_valid run) (let few = few_changes few_events rest more outcome rest_valid rest_run in omega arith)
    ∙ ap (λ (s : Sums). together s (sums_after (Summed margin) rest.rules rest.disks no_sums more)) here
