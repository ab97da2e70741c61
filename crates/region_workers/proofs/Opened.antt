-- The regions with which a run begins.
use Rattle.std.proofs.Common.{ℕ, List, refl}
use Rattle.fixed_motion.specs.Scene.{SceneData, IsValidScene}
use Rattle.cell_grid.specs.Grid.{IsAsked}
use Rattle.cell_sequence.specs.State.{opening_state}
use Rattle.cell_sequence.proofs.Followed.{start_is}
use Rattle.local_run.specs.Opening.{RegionData}
use Rattle.run_floors.specs.Regions.{AllStand, StandOfRun}

-- they stand on the state with which it begins
pub opened_of_run : (scene : SceneData) (asked : ℕ) (regions : List RegionData) → IsValidScene scene → IsAsked asked →
    AllStand (opening_state scene asked) regions → StandOfRun (opening_state scene asked) regions
opened_of_run scene asked regions valid some stand = record {
  state = opening_state scene asked;
  at = record { is = start_is scene asked valid some; past = tt };
  one = record { rules = refl; grid = refl; opening = refl };
  stand = stand;
}
