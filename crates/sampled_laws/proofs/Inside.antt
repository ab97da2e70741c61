-- At each tick of a run all disks are in the box.
use Rattle.std.proofs.Common.{◌≡◌, ◌∙◌, ℕ, suc, ◌+◌, Bool, true, false, ◌&&◌, int_le, if◌then◌else◌, ℤ, pos, ◌-ℤ◌, ◌≤ℤ◌, List, [], ◌∷◌, length, slice_get, Some, ap, refl, sym, arith}
use Rattle.std.proofs.lemmas.Int.{ints}
use Rattle.std.proofs.lemmas.List.Sums.{sum_by-cons}
use Rattle.plane_vectors.specs.declared.Vector.{Vector}
use Rattle.fixed_motion.specs.declared.rules.Rules.{Rules}
use Rattle.fixed_motion.specs.declared.disk.Disk.{Disk}
use Rattle.fixed_motion.specs.Motion.{IsInside, IsSize, place_of, radius_of, velocity_of}
use Rattle.fixed_motion.proofs.Sizes.{radius_least}
use Rattle.event_rules.specs.declared.outcome.Spot.{Spot}
use Rattle.event_rules.specs.Run.{spot_of, spots_of, state_at}
use Rattle.event_rules.specs.Conservation.{energy, energy_of, square_of, spot_velocity}
use Rattle.event_rules.proofs.Apart.{never_overlaps}
use Rattle.event_rules.proofs.Ranges.{starts_valid}
use Rattle.collision_sums.specs.Sums.{is_away, is_in_part, disk_in, disks_in, square_in, squares_in}
use Rattle.sampled_laws.specs.Laws.{SquaresAreEnergy, LastSquaresAreEnergy}
use Rattle.sampled_laws.proofs.Steps.{state_at_tick, state_at_end, spots_at_end}
use native.Mathlib.Nat.{le_refl}

pub both : (a b : Bool) → a ≡ true → b ≡ true → (a && b) ≡ true
both true b h k = k
both false b h k = cc

pub at_most : (m n : ℤ) → m ≤ℤ n → int_le m n ≡ true
at_most m n h = grind (arith, ints)

-- from side to side
pub in_length : (length n radius : ℤ) → pos 1 ≤ℤ radius → radius ≤ℤ n → n ≤ℤ (length -ℤ radius) → is_away 0 length n ≡ true
in_length length n radius least low high =
    both (int_le (pos 0) n) (int_le n (length -ℤ pos 0)) (at_most (pos 0) n (omega (arith, ints))) (at_most n (length -ℤ pos 0) (omega (arith, ints)))

in_box : (rules : Rules) (a : Disk) (p : Vector) → IsSize rules a.size → IsInside rules a p → is_in_part rules 0 p ≡ true
in_box rules a p size inside =
    let least = radius_least rules a size in
    both (is_away 0 rules.width p.x) (is_away 0 rules.height p.y)
    (in_length rules.width p.x (radius_of a) least inside.left inside.right)
    (in_length rules.height p.y (radius_of a) least inside.bottom inside.top)

-- all disks of a state are in the box at the tick
abbrev AreInBox : Rules → ℕ → List Disk → Type 0
AreInBox rules tick disks = (i : ℕ) (a : Disk) → slice_get disks i ≡ Some a → is_in_part rules 0 (place_of a tick) ≡ true

all_count : (rules : Rules) (tick : ℕ) (disks : List Disk) → AreInBox rules tick disks → disks_in rules 0 (spots_of tick disks) ≡ length disks
all_count rules tick [] h = refl
all_count rules tick (a ∷ disks) h =
    let one : disk_in rules 0 (spot_of tick a) ≡ 1 = ap (λ (b : Bool). if b then 1 else 0) (h 0 a refl) in
    let rest = all_count rules tick disks (λ i b at. h (suc i) b at) in
    let all = sum_by-cons (disk_in rules 0) (spot_of tick a) (spots_of tick disks) in
    all ∙ ap (λ (n : ℕ). n + disks_in rules 0 (spots_of tick disks)) one ∙ ap (λ (n : ℕ). 1 + n) rest ∙ (let e : 1 + length disks ≡ suc (length disks) = omega arith in e)

all_squares : (rules : Rules) (tick : ℕ) (disks : List Disk) → AreInBox rules tick disks → squares_in rules 0 (spots_of tick disks) ≡ energy disks
all_squares rules tick [] h = refl
all_squares rules tick (a ∷ disks) h =
    let one : square_in rules 0 (spot_of tick a) ≡ square_of (velocity_of a) =
    ap (λ (b : Bool). if b then square_of (velocity_of a) else 0) (h 0 a refl) in
    let rest = all_squares rules tick disks (λ i b at. h (suc i) b at) in
    sum_by-cons (square_in rules 0) (spot_of tick a) (spots_of tick disks)
    ∙ ap (λ (n : ℕ). n + squares_in rules 0 (spots_of tick disks)) one ∙ ap (λ (n : ℕ). square_of (velocity_of a) + n) rest
    ∙ sym (sum_by-cons (λ (b : Disk). square_of (velocity_of b)) a disks)

-- spots are as fast as their disks
spots_energy : (tick : ℕ) (disks : List Disk) → energy_of spot_velocity (spots_of tick disks) ≡ energy disks
spots_energy tick [] = refl
spots_energy tick (a ∷ disks) =
    sum_by-cons (λ (spot : Spot). square_of (spot_velocity spot)) (spot_of tick a) (spots_of tick disks)
    ∙ ap (λ (n : ℕ). square_of (velocity_of a) + n) (spots_energy tick disks)
    ∙ sym (sum_by-cons (λ (b : Disk). square_of (velocity_of b)) a disks)

pub squares_are_energy : SquaresAreEnergy
squares_are_energy scene changes outcome tick valid run to =
    let state = state_at scene.disks changes tick in
    let is = state_at_tick scene.rules (length scene.disks) scene.disks changes outcome tick
    (record { valid = starts_valid scene valid; count_is = refl }) run in
    let apart = never_overlaps scene changes outcome valid run tick to in
    let inside : AreInBox scene.rules tick state =
    λ i a at. in_box scene.rules a (place_of a tick) (is.valid.valid i a at).size (apart.inside i a at) in
    (all_count scene.rules tick state inside ∙ is.count_is, all_squares scene.rules tick state inside)

pub last_squares_are_energy : LastSquaresAreEnergy
last_squares_are_energy scene changes spots valid run =
    let end = scene.rules.end in
    let state = state_at scene.disks changes end in
    let same : spots ≡ spots_of end state =
    spots_at_end scene.rules scene.disks changes spots run
    ∙ ap (spots_of end) (sym (state_at_end scene.rules scene.disks changes _ run)) in
    let here = squares_are_energy scene changes _ end valid run (le_refl end) in (
      ap (disks_in scene.rules 0) same ∙ here.0,
      ap (squares_in scene.rules 0) same ∙ here.1 ∙ sym (ap (energy_of spot_velocity) same ∙ spots_energy end state),
    )
