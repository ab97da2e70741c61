-- The lines of sums.
use Rattle.std.specs.Prelude.{ℕ, List, [], ◌∷◌, ◌++◌, codes, decimal}
use Rattle.fixed_motion.specs.declared.rules.Rules.{Rules}
use Rattle.event_rules.specs.declared.outcome.Spot.{Spot}
use Rattle.text_lines.specs.Lines.{line_of}
use Rattle.collision_sums.specs.declared.sums.Sums.{Sums}
use Rattle.collision_sums.specs.Sums.{disks_in, squares_in}

-- inside TICK DISKS SQUARES PAIRS VIRIAL
abbrev pub inside_line : ℕ → ℕ → ℕ → Sums → List ℕ
inside_line tick disks squares sums =
    line_of (codes "inside" ∷ decimal tick ∷ decimal disks ∷ decimal squares ∷ decimal sums.pairs ∷ decimal sums.virial ∷ [])

-- sides TICK WALLS LEFT RIGHT BOTTOM TOP
abbrev pub sides_line : ℕ → Sums → List ℕ
sides_line tick sums =
    line_of (codes "sides" ∷ decimal tick ∷ decimal sums.walls ∷ decimal sums.left ∷ decimal sums.right
    ∷ decimal sums.bottom ∷ decimal sums.top ∷ [])

-- both lines of a tick, at which the disks are at these spots
abbrev pub sums_block : Rules → ℕ → Sums → ℕ → List Spot → List ℕ
sums_block rules margin sums tick spots =
    inside_line tick (disks_in rules margin spots) (squares_in rules margin spots) sums ++ sides_line tick sums
