-- The pieces, one after another.
use Rattle.std.proofs.Common.{append_assoc, rules}
use Rattle.std.proofs.lemmas.Result.{IfOk-equal}
use Rattle.scene_maker.proofs.text.push_pair.Goals as goal

pub returns : goal.returns
returns c = search (rules, IfOk-equal, append_assoc)
