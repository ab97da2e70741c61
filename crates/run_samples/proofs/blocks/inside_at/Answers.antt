-- One disk after another; none has begun after the tick.
use Rattle.std.proofs.Common.{◌^◌, get_or, sym, ap, ◌∙◌, subst, arith}
use Rattle.std.proofs.lemmas.List.{take_all}
use Rattle.std.proofs.lemmas.Option.{slice_get-get_or}
use Rattle.plane_vectors.specs.Vectors.{IsWithin}
use Rattle.fixed_motion.specs.Motion.{velocity_of}
use Rattle.fixed_motion.proofs.Sizes.{slow_size}
use Rattle.event_rules.specs.declared.outcome.Spot.{Spot}
use Rattle.event_rules.specs.Run.{spots_of}
use Rattle.event_rules.specs.Conservation.{spot_velocity}
use Rattle.collision_sums.specs.Sums.{disk_in, square_in, disks_in, squares_in}
use Rattle.run_samples.proofs.Inside.{still, none_left, more_of_disks}
use Rattle.run_samples.proofs.blocks.inside_at.Goals as goal

pub spot_at-requires-clause-disk : goal.spot_at-requires-clause-disk
spot_at-requires-clause-disk c = let i = c.loop-disk.disk-index in let disks = c.args.disks.now in
    (c.requires.disks i (get_or disks i still) (slice_get-get_or disks i still c.loop-disk-test.true)).valid

pub spot_at-requires-clause-base : goal.spot_at-requires-clause-base
spot_at-requires-clause-base c = let i = c.loop-disk.disk-index in let disks = c.args.disks.now in
    (c.requires.disks i (get_or disks i still) (slice_get-get_or disks i still c.loop-disk-test.true)).base

pub add-requires-clause-slow : goal.add-requires-clause-slow
add-requires-clause-slow c = let i = c.loop-disk.disk-index in let disks = c.args.disks.now in
    let valid = (c.requires.disks i (get_or disks i still) (slice_get-get_or disks i still c.loop-disk-test.true)).valid in
    subst (λ (spot : Spot). IsWithin (2 ^ 20) (spot_velocity spot)) (sym c.spot_at.ensures)
    (slow_size c.args.rules.now (velocity_of (get_or disks i still)) c.requires.rules valid.velocity)

pub add-requires-clause-disks : goal.add-requires-clause-disks
add-requires-clause-disks c = let few = c.loop-disk.invariant.few in let here = c.loop-disk-test.true in let count = c.requires.count in omega arith

pub add-requires-clause-squares : goal.add-requires-clause-squares
add-requires-clause-squares c = let size = c.loop-disk.invariant.size in let here = c.loop-disk-test.true in let count = c.requires.count in omega arith

pub loop-disk-preserved : goal.loop-disk-preserved
loop-disk-preserved c =
    let i = c.loop-disk.disk-index in let disks = c.args.disks.now in let held = c.loop-disk.invariant in
    let add = c.add.ensures in let few = held.few in let size = held.size in let one = add.few in let most = add.size in
    record {
      disks = more_of_disks (disk_in c.args.rules.now c.args.margin) c.args.tick disks i _ _ c.spot_at.result c.loop-disk-test.true held.disks c.spot_at.ensures add.disks;
      squares = more_of_disks (square_in c.args.rules.now c.args.margin) c.args.tick disks i _ _ c.spot_at.result c.loop-disk-test.true held.squares c.spot_at.ensures add.squares;
      few = omega arith;
      size = omega arith;
    }

pub returns-clause-disks : goal.returns-clause-disks
returns-clause-disks c = let i = c.loop-disk.disk-index in let disks = c.args.disks.now in
    c.loop-disk.invariant.disks ∙ ap (disks_in c.args.rules.now c.args.margin)
    (take_all i (spots_of c.args.tick disks) (none_left c.args.tick i disks c.loop-disk-test.false))

pub returns-clause-squares : goal.returns-clause-squares
returns-clause-squares c = let i = c.loop-disk.disk-index in let disks = c.args.disks.now in
    c.loop-disk.invariant.squares ∙ ap (squares_in c.args.rules.now c.args.margin)
    (take_all i (spots_of c.args.tick disks) (none_left c.args.tick i disks c.loop-disk-test.false))
