-- The rules and the disks were checked before.
use Rattle.std.proofs.Common.{◌≡◌, Some, subst}
use Rattle.fixed_motion.specs.declared.rules.Rules.{Rules}
use Rattle.fixed_motion.specs.declared.disk.Disk.{Disk}
use Rattle.fixed_motion.specs.Motion.{IsValidDisk}
use Rattle.cell_tests.proofs.tests.predictions.collision.Goals as goal

pub pair_event-requires-clause-checked : goal.pair_event-requires-clause-checked
pair_event-requires-clause-checked c = c.are_valid.ensures.checked c.if-not-are_valid.false

pub pair_event-requires-clause-first_valid : goal.pair_event-requires-clause-first_valid
pair_event-requires-clause-first_valid c = c.are_valid.ensures.first c.if-not-are_valid.false

pub pair_event-requires-clause-second_valid : goal.pair_event-requires-clause-second_valid
pair_event-requires-clause-second_valid c = c.are_valid.ensures.second c.if-not-are_valid.false

pub apply-requires-clause-checked : goal.apply-requires-clause-checked
apply-requires-clause-checked c = c.are_valid.ensures.checked c.if-not-are_valid.false

pub apply-requires-clause-first : goal.apply-requires-clause-first
apply-requires-clause-first c = c.are_valid.ensures.first c.if-not-are_valid.false

of_some : (rules : Rules) (b x : Disk) → IsValidDisk rules b → Some b ≡ Some x → IsValidDisk rules x
of_some rules b x valid is = subst (IsValidDisk rules) (let same : b ≡ x = cc in same) valid

pub apply-requires-clause-second : goal.apply-requires-clause-second
apply-requires-clause-second c = λ x is.
    of_some _ c.args.b.now x (c.are_valid.ensures.second c.if-not-are_valid.false) is
