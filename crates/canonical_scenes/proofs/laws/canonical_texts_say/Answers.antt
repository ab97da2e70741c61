use Rattle.canonical_scenes.proofs.Stated.{canonical_texts_say}
use Rattle.canonical_scenes.proofs.laws.canonical_texts_say.Goals as goal

pub returns : goal.returns
returns c = canonical_texts_say
