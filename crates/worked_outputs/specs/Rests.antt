-- What is left of the pair's scene after a tick before they meet, worked out by hand.
use Rattle.std.specs.Prelude.{pos, neg_ℤ, [], ◌∷◌}
use Rattle.fixed_motion.specs.Scene.{SceneData}
use Rattle.worked_laws.specs.Rows.{disk_at, scene_until}

-- after tick 1 they are at x = 11 and 19, and four ticks are left
abbrev pub rest_at_one : SceneData
rest_at_one = scene_until 4 (disk_at (pos 11) (pos 1) 0 0 ∷ disk_at (pos 19) (neg_ℤ (pos 1)) 0 0 ∷ [])

-- after tick 2 they are at x = 12 and 18, and three ticks are left
abbrev pub rest_at_two : SceneData
rest_at_two = scene_until 3 (disk_at (pos 12) (pos 1) 0 0 ∷ disk_at (pos 18) (neg_ℤ (pos 1)) 0 0 ∷ [])
