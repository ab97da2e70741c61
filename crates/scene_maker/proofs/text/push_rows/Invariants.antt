-- The rows of the disks so far.
use Rattle.std.proofs.Common.{◌≡◌, ◌++◌, take}
use Rattle.std.specs.List.{flat_map}
use Rattle.scene_maker.specs.Canonical.{row_line}
use Rattle.scene_maker.proofs.text.push_rows.Given as goal

abbrev pub invariant-loop-disk : goal.invariant-loop-disk
invariant-loop-disk l = l.bytes.items ≡ l.initial.bytes.items ++ flat_map (row_line l.rules) (take l.disk-index l.disks)
