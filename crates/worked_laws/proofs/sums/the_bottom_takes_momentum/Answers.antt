-- Only the bottom took something.
use Rattle.std.proofs.Common.{◌≡◌, List, ap, ◌∙◌, arith}
use Rattle.std.specs.Prelude.{pos, ◌+ℤ◌}
use Rattle.std.proofs.lemmas.Int.{ints}
use Rattle.plane_vectors.specs.declared.Vector.{Vector}
use Rattle.plane_vectors.specs.Vectors.{vector}
use Rattle.event_rules.specs.declared.outcome.Spot.{Spot}
use Rattle.event_rules.specs.Conservation.{total_of, spot_velocity}
use Rattle.worked_laws.specs.Glance.{glance_scene, glance_changes, glance_end}
use Rattle.worked_laws.proofs.GlanceRun.{glance_run, only_spots}
use Rattle.worked_laws.proofs.ValidRows.{glance_valid}
use Rattle.worked_laws.proofs.sums.the_bottom_takes_momentum.Goals as goal

-- (2, 0), and 2 more upwards
taken : (v : Vector) → v.x +ℤ pos 0 ≡ pos 2 +ℤ pos 0 → v.y +ℤ pos 0 ≡ pos 0 +ℤ pos 2 → v ≡ vector (pos 2) (pos 2)
taken v h k =
    let x : v.x ≡ pos 2 = omega (arith, ints) in
    let y : v.y ≡ pos 2 = omega (arith, ints) in
    λ i. vector (x i) (y i)

pub returns : goal.returns
returns c changes spots run =
    let law = c.sides_take_momentum.ensures glance_scene glance_changes glance_end glance_valid glance_run in
    ap (λ (s : List Spot). total_of spot_velocity s) (only_spots changes spots run) ∙ taken (total_of spot_velocity glance_end) law.0 law.1
