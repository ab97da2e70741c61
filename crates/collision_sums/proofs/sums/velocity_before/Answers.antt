-- The disk is the one of the number, and near; or there is none.
use Rattle.std.proofs.Common.{◌≤◌, length, ap, sym, subst, arith}
use Rattle.std.proofs.lemmas.Bool.{ltb-true}
use Rattle.std.proofs.lemmas.Option.{slice_get_past, slice_get_read}
use Rattle.plane_vectors.specs.Vectors.{IsWithin}
use Rattle.event_rules.specs.Conservation.{velocity_if}
use Rattle.collision_sums.proofs.sums.velocity_before.Goals as goal

pub returns-in-Some-clause-size : goal.returns-in-Some-clause-size
returns-in-Some-clause-size c =
    let disks = c.args.disks.now in let i = c.args.number in
    let here = ltb-true i (length disks) (sym c.in-Some.ensures.lookup.0) in
    subst (IsWithin 1048576) (sym c.velocity.ensures)
    (c.requires i c.in-Some.disk.now (slice_get_read disks (length disks) i c.in-Some.disk.now (λ _. length disks) here c.in-Some.ensures.lookup.1)).velocity

pub returns-in-None-clause-value : goal.returns-in-None-clause-value
returns-in-None-clause-value c =
    let disks = c.args.disks.now in let i = c.args.number in
    let past : length disks ≤ i = grind (arith, c.in-None.ensures.lookup.0) in
    sym (ap velocity_if (slice_get_past disks i past))
