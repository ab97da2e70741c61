-- No key so far is the text.
use Rattle.std.proofs.Common.{◌≡◌, drop}
use Rattle.scene_reader.specs.Keys.{all_keys, is_key}
use Rattle.scene_reader.proofs.key.is_known.Given as goal

abbrev pub invariant-loop-key : goal.invariant-loop-key
invariant-loop-key l = is_key l.text all_keys ≡ is_key l.text (drop l.key-index all_keys)
