-- One spot after another.
use Rattle.std.proofs.Common.{get_or, refl, ap, ◌∙◌, arith}
use Rattle.std.proofs.lemmas.List.{take_all}
use Rattle.event_rules.specs.Conservation.{spot_velocity}
use Rattle.collision_report.proofs.Sums.{slow_at}
use Rattle.collision_sums.specs.Sums.{disk_in, square_in, disks_in, squares_in}
use Rattle.run_samples.proofs.Inside.{nowhere, more_of_spots}
use Rattle.run_samples.proofs.blocks.inside_at_end.Goals as goal

pub add-requires-clause-slow : goal.add-requires-clause-slow
add-requires-clause-slow c =
    slow_at spot_velocity c.args.spots.now c.loop-spot.spot-index nowhere _ c.requires.slow c.loop-spot-test.true refl

pub add-requires-clause-disks : goal.add-requires-clause-disks
add-requires-clause-disks c = let few = c.loop-spot.invariant.few in let here = c.loop-spot-test.true in let count = c.requires.slow.count in omega arith

pub add-requires-clause-squares : goal.add-requires-clause-squares
add-requires-clause-squares c = let size = c.loop-spot.invariant.size in let here = c.loop-spot-test.true in let count = c.requires.slow.count in omega arith

pub loop-spot-preserved : goal.loop-spot-preserved
loop-spot-preserved c =
    let i = c.loop-spot.spot-index in let spots = c.args.spots.now in let held = c.loop-spot.invariant in
    let add = c.add.ensures in let few = held.few in let size = held.size in let one = add.few in let most = add.size in
    record {
      disks = more_of_spots (disk_in c.args.rules.now c.args.margin) spots i _ _ (get_or spots i nowhere) c.loop-spot-test.true held.disks refl add.disks;
      squares = more_of_spots (square_in c.args.rules.now c.args.margin) spots i _ _ (get_or spots i nowhere) c.loop-spot-test.true held.squares refl add.squares;
      few = omega arith;
      size = omega arith;
    }

pub returns-clause-disks : goal.returns-clause-disks
returns-clause-disks c =
    c.loop-spot.invariant.disks ∙ ap (disks_in c.args.rules.now c.args.margin) (take_all c.loop-spot.spot-index c.args.spots.now c.loop-spot-test.false)

pub returns-clause-squares : goal.returns-clause-squares
returns-clause-squares c =
    c.loop-spot.invariant.squares ∙ ap (squares_in c.args.rules.now c.args.margin) (take_all c.loop-spot.spot-index c.args.spots.now c.loop-spot-test.false)
