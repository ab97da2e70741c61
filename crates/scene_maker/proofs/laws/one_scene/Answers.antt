use Rattle.scene_maker.proofs.Scenes.{one_scene}
use Rattle.scene_maker.proofs.laws.one_scene.Goals as goal

pub returns : goal.returns
returns c = one_scene
