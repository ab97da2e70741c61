-- The bound is 100 for one collision, and 0 for none.
use Rattle.std.proofs.Common.{◌≡◌, ℕ, ◌≤◌, ◌+◌, subst, arith}
use Rattle.event_rules.specs.Conservation.{energy, most_rounded, DifferByAtMost}
use Rattle.event_rules.proofs.Ranges.{starts_valid}
use Rattle.worked_laws.specs.Rows.{box_until, scene_until}
use Rattle.worked_laws.specs.Pair.{pair_rules, pair_disks, pair_scene}
use Rattle.worked_laws.specs.Bounce.{bounce_disks}
use Rattle.worked_laws.proofs.ValidRows.{pair_valid, bounce_valid}
use Rattle.worked_laws.proofs.conserved.energy_in_the_rows.Goals as goal

pub returns-clause-pair : goal.returns-clause-pair
returns-clause-pair c changes later steps one =
    subst (λ (n : ℕ). DifferByAtMost (most_rounded pair_rules n) (energy later) (energy pair_disks)) one
    (c.energy_nearly_stays.ensures pair_rules pair_disks later changes (starts_valid pair_scene pair_valid) steps)

pub returns-clause-side : goal.returns-clause-side
returns-clause-side c changes later steps none =
    let k = subst (λ (n : ℕ). DifferByAtMost (most_rounded (box_until 5) n) (energy later) (energy bounce_disks)) none
    (c.energy_nearly_stays.ensures (box_until 5) bounce_disks later changes (starts_valid (scene_until 5 bounce_disks) bounce_valid) steps) in
    equal (energy later) k.0 k.1
  where
    equal : (n : ℕ) → n ≤ 4 + 0 → 4 ≤ n + 0 → n ≡ 4
    equal n h k = omega arith
