-- When the samples that are due begin, and what the last sums are.
use Rattle.std.proofs.Common.{◌≡◌, ℕ, ◌+◌, ◌*◌, ◌/◌, ◌≤◌, List, ◌++◌, Some, sym, subst, ◌∙◌}
use Rattle.fixed_motion.specs.declared.rules.Rules.{Rules}
use Rattle.fixed_motion.specs.declared.disk.Disk.{Disk}
use Rattle.fixed_motion.specs.Scene.{SceneData}
use Rattle.event_rules.specs.declared.outcome.Spot.{Spot}
use Rattle.collision_report.specs.Bounds.{AllHaveBegun}
use Rattle.collision_report.specs.Meaning.{TableData, IsTable}
use Rattle.collision_report.proofs.Tables.{due_begun, all_begun_later}
use Rattle.collision_sums.specs.declared.sums.Sums.{Sums}
use Rattle.collision_sums.specs.Sums.{disks_in, squares_in}
use Rattle.collision_sums.specs.SumLines.{inside_line, sides_line, sums_block}

pub due_from : (t : TableData) (every shown tick : ℕ) (rules : Rules) (disks : List Disk) → IsTable t → t.every ≡ Some every → shown ≡ t.shown → rules ≡ t.rules → disks ≡ t.disks →
    (shown / every + 1) * every ≤ tick → AllHaveBegun rules tick disks
due_from t every shown tick rules disks table e s r d later =
    subst (λ (these : Rules). AllHaveBegun these tick disks) (sym r)
    (subst (λ (ds : List Disk). AllHaveBegun t.rules tick ds) (sym d)
    (all_begun_later t.rules ((t.shown / every + 1) * every) tick t.disks (subst (λ (n : ℕ). (n / every + 1) * every ≤ tick) s later)
    (due_begun t every table e)))

-- the lines of the end, of the scene behind its view
pub last_is : (inside scene : SceneData) (margin : ℕ) (sums : Sums) (slice spots : List Spot) (d s : ℕ) → inside ≡ scene → slice ≡ spots →
    d ≡ disks_in inside.rules margin slice → s ≡ squares_in inside.rules margin slice →
    inside_line inside.rules.end d s sums ++ sides_line inside.rules.end sums ≡ sums_block scene.rules margin sums scene.rules.end spots
last_is inside scene margin sums slice spots d s v e f g =
    (λ i. inside_line inside.rules.end (f i) (g i) sums ++ sides_line inside.rules.end sums)
    ∙ (λ i. sums_block (v i).rules margin sums (v i).rules.end (e i))
