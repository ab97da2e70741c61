-- The disks so far, with two draws each.
use Rattle.std.proofs.Common.{◌≡◌, ◌*◌}
use Rattle.scene_maker.specs.Made.{state_after}
use Rattle.scene_maker.proofs.Scenes.{made_disks}
use Rattle.scene_maker.proofs.lattice.make.Given as goal

abbrev pub invariant-loop-index : goal.invariant-loop-index
invariant-loop-index l = record {
  disks : l.disks.items ≡ made_disks l.number l.side l.index;
  drawn : l.generator.state ≡ state_after l.number (2 * l.index);
}
