-- Laws of the scenes that are made.
use Rattle.std.specs.Prelude.{◌≡◌, ℕ, ◌≤◌}
use Rattle.fixed_motion.specs.declared.scene.TheConstants.{MAX_DISKS}
use Rattle.fixed_motion.specs.Scene.{SceneData, IsValidScene}
use Rattle.scene_maker.specs.Made.{IsMade}

-- for each number and number of disks exactly one scene is made, and it is valid
abbrev pub OneScene : Type 0
OneScene = (number count : ℕ) → count ≤ MAX_DISKS →
    (scene : SceneData) × IsMade number count scene × IsValidScene scene
    × ((other : SceneData) → IsMade number count other → other ≡ scene)
