-- They start 20 apart.
use Rattle.std.proofs.Common.{inl, zero, suc, subst, arith}
use Rattle.std.proofs.lemmas.Option.{none-some, same_Some}
use Rattle.fixed_motion.specs.declared.disk.Disk.{Disk}
use Rattle.fixed_motion.specs.Motion.{half_of}
use Rattle.alike_runs.specs.Far.{AreTooFarToMeet, IsFarFromOthers}
use Rattle.worked_laws.specs.Rows.{box_until, scene_until}
use Rattle.worked_laws.specs.Others.{far_disks, is_of_left}
use Rattle.worked_laws.proofs.ValidRows.{far_valid, left, right}
use Rattle.worked_laws.proofs.alike.far_disks_dont_meet.Goals as goal

far : AreTooFarToMeet (box_until 1) left right
unfolding half_of
far = inl (omega arith)

apart : IsFarFromOthers is_of_left (scene_until 1 far_disks)
apart zero (suc zero) a b mine other at there =
    subst (λ (d : Disk). AreTooFarToMeet (box_until 1) d b) (same_Some _ _ at)
    (subst (λ (d : Disk). AreTooFarToMeet (box_until 1) left d) (same_Some _ _ there) far)
apart zero zero a b mine other at there = absurd cc
apart zero (suc (suc j)) a b mine other at there = absurd (none-some b there)
apart (suc i) j a b mine other at there = absurd (grind arith)

pub returns : goal.returns
returns c changes outcome run = c.far_groups_hit_no_other.ensures is_of_left (scene_until 1 far_disks) changes outcome far_valid run apart
