use Rattle.std.proofs.Common.{◌≡◌, ◌++◌, ◌∷◌, [], ◌∙◌, ap, get_or, rules}
use Rattle.fixed_motion.specs.declared.disk.Disk.{Disk}
use Rattle.std.proofs.lemmas.Int.{to_z-of_z}
use Rattle.std.proofs.lemmas.List.{take_all}
use Rattle.event_rules.specs.declared.outcome.Outcome.TheVariants.{Done}
use Rattle.event_rules.specs.Run.{spot_of, spots_of}
use Rattle.all_pairs.proofs.Turns.{one_spot}
use Rattle.all_pairs.proofs.Least.{no_disk, disk_at}
use Rattle.all_pairs.proofs.simulate.done.Goals as goal

pub centre_at-centre-requires-clause-valid : goal.centre_at-centre-requires-clause-valid
centre_at-centre-requires-clause-valid c =
    c.requires.valid.valid c.loop-disk.disk-index _
    (disk_at c.args.disks.now c.loop-disk.disk-index c.loop-disk-test.true)

pub centre_at-centre-requires-clause-base : goal.centre_at-centre-requires-clause-base
centre_at-centre-requires-clause-base c =
    (c.requires.valid.valid c.loop-disk.disk-index _
    (disk_at c.args.disks.now c.loop-disk.disk-index c.loop-disk-test.true)).base

pub loop-disk-preserved : goal.loop-disk-preserved
loop-disk-preserved c =
    let i = c.loop-disk.disk-index in
    let disks = c.args.disks.now in
    let disk : Disk = get_or disks i no_disk in
    let pushed : c.push.new.self.items ≡ c.loop-disk.spots.items ++ spot_of c.args.rules.now.end
    disk ∷ [] =
    search (rules, to_z-of_z, c.in_ok-push.ensures.items, c.centre_at-centre.ensures) in
    pushed ∙ one_spot c.args.rules.now.end disks i c.loop-disk.spots.items c.loop-disk-test.true
    c.loop-disk.invariant

pub returns : goal.returns
returns c = ap Done (c.new.ensures ∙ (c.loop-disk.invariant
    ∙ ap (spots_of c.args.rules.now.end)
    (take_all c.loop-disk.disk-index c.args.disks.now c.loop-disk-test.false)))
