-- The first unknown key is that of the keys that are left.
use Rattle.std.proofs.Common.{◌≡◌}
use Rattle.toml.specs.View.{table_view}
use Rattle.scene_reader.specs.Keys.{first_unknown}
use Rattle.scene_reader.proofs.Unknown.{first_left}
use Rattle.scene_reader.proofs.values.unknown_key.Given as goal

abbrev pub invariant-loop-key : goal.invariant-loop-key
invariant-loop-key l = first_unknown (table_view l.table) ≡ first_left l.key-iterator
