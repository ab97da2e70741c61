use Rattle.std.proofs.Common.{◌≡◌, ◌+◌, get_or, sym, subst}
use Rattle.fixed_motion.specs.declared.disk.Disk.{Disk}
use Rattle.event_rules.specs.Run.{IsCandidate}
use Rattle.event_stamps.specs.declared.Stamp.{Stamp}
use Rattle.event_stamps.specs.Least.{IsLeastOf}
use Rattle.all_pairs.proofs.Least.{IsBelow, no_disk, disk_at, no_disk_before, one_more_disk, own_events}
use Rattle.all_pairs.proofs.Least.{all_disks}
use Rattle.all_pairs.proofs.search.next.Goals as goal

pub loop-i-init : goal.loop-i-init
loop-i-init c = no_disk_before c.args.rules.now c.args.disks.now

pub first_wall-wall-requires-clause-valid : goal.first_wall-wall-requires-clause-valid
first_wall-wall-requires-clause-valid c =
    c.requires.valid.valid c.loop-i.i _ (disk_at c.args.disks.now c.loop-i.i c.loop-i-test.true)

pub loop-i-preserved : goal.loop-i-preserved
loop-i-preserved c =
    let rules = c.args.rules.now in
    let disks = c.args.disks.now in
    let i = c.loop-i.i in
    let at = disk_at disks i c.loop-i-test.true in
    let a : Disk = get_or disks i no_disk in
    let own = subst (IsLeastOf (λ (t : Stamp). IsCandidate rules disks t × (t.first ≡ i)))
    (sym c.earlier-own.ensures)
    (own_events rules disks i a c.first_wall-wall.result c.first_pair.result at
    c.first_wall-wall.ensures (c.first_pair.ensures a at)) in
    subst (IsLeastOf (IsBelow (IsCandidate rules disks) (i + 1))) (sym c.earlier-first.ensures)
    (one_more_disk rules disks i c.loop-i.first c.earlier-own.result c.loop-i.invariant own)

pub returns : goal.returns
returns c = all_disks c.args.rules.now c.args.disks.now c.loop-i.i c.loop-i.first
    c.loop-i-test.false c.loop-i.invariant
