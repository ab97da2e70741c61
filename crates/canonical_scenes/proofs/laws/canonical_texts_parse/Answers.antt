use Rattle.canonical_scenes.proofs.Readable.{canonical_texts_parse}
use Rattle.canonical_scenes.proofs.laws.canonical_texts_parse.Goals as goal

pub returns : goal.returns
returns c = canonical_texts_parse
