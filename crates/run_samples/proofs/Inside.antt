-- Sums over the disks of a state, one disk after another.
use Rattle.std.proofs.Common.{◌≡◌, ℕ, ◌+◌, ◌<◌, ◌≤◌, pos, List, length, take, get_or, arith, ap, sym, ◌∙◌}
use Rattle.std.specs.Prelude.{sum_by}
use Rattle.std.proofs.lemmas.Grind.{common_steps}
use Rattle.std.proofs.lemmas.List.{get_or-map}
use Rattle.std.proofs.lemmas.List.Sums.{sum_by_more}
use Rattle.fixed_motion.specs.declared.disk.Disk.{Disk}
use Rattle.event_rules.specs.declared.outcome.Spot.{Spot}
use Rattle.event_rules.specs.Run.{spot_of, spots_of}

abbrev pub still : Disk
still = record { x = pos 0; y = pos 0; vx = pos 0; vy = pos 0; size = pos 0; base = 0; mark = 0 }

abbrev pub nowhere : Spot
nowhere = record { x = pos 0; y = pos 0; vx = pos 0; vy = pos 0 }

within : (tick i : ℕ) (disks : List Disk) → i < length disks → i < length (spots_of tick disks)
within tick i disks h = grind (arith, common_steps)

pub none_left : (tick i : ℕ) (disks : List Disk) → length disks ≤ i → length (spots_of tick disks) ≤ i
none_left tick i disks h = grind (arith, common_steps)

-- one spot more
pub more_of_spots : (f : Spot → ℕ) (spots : List Spot) (i total next : ℕ) (spot : Spot) → i < length spots →
    total ≡ sum_by f (take i spots) → spot ≡ get_or spots i nowhere → next ≡ total + f spot → next ≡ sum_by f (take (i + 1) spots)
more_of_spots f spots i total next spot h e is m =
    let all = sum_by_more f spots i nowhere h in let same = ap f is in omega (arith, e, m, same, all)

-- one disk more
pub more_of_disks : (f : Spot → ℕ) (tick : ℕ) (disks : List Disk) (i total next : ℕ) (spot : Spot) → i < length disks →
    total ≡ sum_by f (take i (spots_of tick disks)) → spot ≡ spot_of tick (get_or disks i still) → next ≡ total + f spot →
    next ≡ sum_by f (take (i + 1) (spots_of tick disks))
more_of_disks f tick disks i total next spot h e is m =
    more_of_spots f (spots_of tick disks) i total next spot (within tick i disks h) e
    (is ∙ sym (get_or-map (spot_of tick) disks i still nowhere h)) m
