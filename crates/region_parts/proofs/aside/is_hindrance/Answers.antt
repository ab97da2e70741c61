use Rattle.region_parts.specs.Aside.{IsValidBack}
use Rattle.region_parts.proofs.Hindrances.{back_at, late_at}
use Rattle.region_parts.proofs.Passed.{tested_at}
use Rattle.std.proofs.Common.{sym, ◌∙◌}
use Rattle.std.proofs.lemmas.Bool.{false≢true}
use Rattle.region_parts.proofs.aside.is_hindrance.Goals as goal

pub is_in_way-requires-clause-back : goal.is_in_way-requires-clause-back
is_in_way-requires-clause-back c =
    back_at (IsValidBack c.args.home.now) c.args.log.now c.args.i c.back.result c.requires.valid c.back.ensures

pub returns-else-has_disk : goal.returns-else-has_disk
returns-else-has_disk c = λ off.
    tested_at c.args.home.now c.args.rows.now c.args.log.now c.args.i (c.has_disk.ensures c.if-has_disk.false)
    (late_at c.args.home.now c.args.rows.now c.args.log.now c.args.i c.stamp.result c.back.result
    c.stamp.ensures c.back.ensures (c.is_in_way.ensures off))

pub returns-then-has_disk : goal.returns-then-has_disk
returns-then-has_disk c = λ off. absurd (false≢true (sym off ∙ c.if-has_disk.true))

pub back-requires : goal.back-requires
back-requires c = record { within = c.requires.within }

pub stamp-requires : goal.stamp-requires
stamp-requires c = record { within = c.requires.within }

pub is_in_way-requires-clause-rows : goal.is_in_way-requires-clause-rows
is_in_way-requires-clause-rows c = c.requires.rows
