-- Canonical texts say their scenes.
use Rattle.std.specs.Prelude.{◌≡◌, Ok}
use Rattle.fixed_motion.specs.Scene.{SceneData, IsValidScene}
use Rattle.scene_reader.specs.Says.{says}
use Rattle.scene_maker.specs.Canonical.{canonical_text}

-- the canonical text of a valid scene says that scene
abbrev pub CanonicalTextsSay : Type 0
CanonicalTextsSay = (scene : SceneData) → IsValidScene scene → says (canonical_text scene) ≡ Ok scene
