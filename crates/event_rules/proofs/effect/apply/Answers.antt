-- The two tests decide the event's result.
use Rattle.std.proofs.Common.{sym}
use Rattle.std.specs.Option.{option_copied}
use Rattle.event_rules.proofs.Valid.{within_valid, applied_last, applied_slow, applied_fast}
use Rattle.event_rules.proofs.effect.apply.Goals as goal

pub returns-then-stamp-rules-clause-exact : goal.returns-then-stamp-rules-clause-exact
returns-then-stamp-rules-clause-exact c =
    sym (applied_last c.args.rules.now c.args.stamp.now c.args.a.now (option_copied c.args.b)
    c.if-stamp-rules.true)

pub returns-then-keeps_speed-clause-exact : goal.returns-then-keeps_speed-clause-exact
returns-then-keeps_speed-clause-exact c =
    sym (applied_slow c.args.rules.now c.args.stamp.now c.args.a.now (option_copied c.args.b)
    c.change_by-change.result c.keeps_speed.result c.change_by-change.ensures.value
    c.if-stamp-rules.false c.keeps_speed.ensures c.if-keeps_speed.true)

pub returns-then-keeps_speed-clause-valid : goal.returns-then-keeps_speed-clause-valid
returns-then-keeps_speed-clause-valid c =
    within_valid c.args.rules.now c.args.stamp.now c.args.a.now (option_copied c.args.b)
    c.change_by-change.result c.keeps_speed.result c.requires.first c.requires.second
    c.requires.event c.change_by-change.ensures.value c.if-stamp-rules.false c.keeps_speed.ensures
    c.if-keeps_speed.true

pub returns-else-keeps_speed-clause-exact : goal.returns-else-keeps_speed-clause-exact
returns-else-keeps_speed-clause-exact c =
    sym (applied_fast c.args.rules.now c.args.stamp.now c.args.a.now (option_copied c.args.b)
    c.change_by-change.result c.keeps_speed.result c.change_by-change.ensures.value
    c.if-stamp-rules.false c.keeps_speed.ensures c.if-keeps_speed.false)
