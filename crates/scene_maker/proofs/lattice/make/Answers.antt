-- The disks that were drawn are those of the scene that is made.
use Rattle.std.proofs.Common.{arith}
use Rattle.std.specs.Prelude.{None}
use Rattle.scene_maker.proofs.Draws.{none_drawn, two_more_draws}
use Rattle.scene_maker.proofs.Scenes.{one_more_disk, made_of, is_valid}
use Rattle.scene_maker.proofs.lattice.make.Goals as goal

pub loop-index-init : goal.loop-index-init
loop-index-init c = record { disks = c.new-disks.ensures.items; drawn = none_drawn c.args.number }

pub loop-index-preserved : goal.loop-index-preserved
loop-index-preserved c =
    let disks = c.loop-index.invariant.disks in
    let disk = c.next_disk.ensures.disk c.args.number c.loop-index.invariant.drawn in
    record {
      disks = one_more_disk c.args.number c.side_for-side.result c.loop-index.index c.loop-index.disks.items c.push.new.self.items c.next_disk.result
          disks disk c.in_ok-push.ensures.items;
      drawn = two_more_draws c.args.number c.loop-index.index c.loop-index.generator.state c.next_disk.new.self.state
          c.loop-index.invariant.drawn c.next_disk.ensures.state;
    }

pub new-requires : goal.new-requires
new-requires c =
    is_valid c.args.number c.args.count (record { rules = c.rules_of.result; disks = c.loop-index.disks.items; every = None }) c.requires
    (made_of c.args.number c.side_for-side.result c.args.count c.loop-index.index c.rules_of.result c.loop-index.disks.items
    c.side_for-side.ensures.is_side (omega arith) c.rules_of.ensures c.loop-index.invariant.disks)

pub returns : goal.returns
returns c =
    let made =
    made_of c.args.number c.side_for-side.result c.args.count c.loop-index.index c.rules_of.result c.loop-index.disks.items
    c.side_for-side.ensures.is_side (omega arith) c.rules_of.ensures c.loop-index.invariant.disks in
    rw c.new.ensures made
