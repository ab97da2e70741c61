-- The disk of a row that is there.
use Rattle.std.proofs.Common.{◌≡◌, Bool, false, Option, None, subst}
use Rattle.std.specs.Prelude.{IfSome}
use Rattle.std.proofs.lemmas.Option.{IfSome_then}
use Rattle.fixed_motion.specs.declared.rules.Rules.{Rules}
use Rattle.fixed_motion.specs.declared.disk.Disk.{Disk}
use Rattle.event_rules.specs.Rounded.{IsReachOf, TellsRounded}
use Rattle.region_view.specs.declared.action.Placed.{Placed}
use Rattle.region_queue.specs.Finding.{IsMissed}
use Rattle.region_queue.proofs.Keeping.{missed_row}
use Rattle.region_queue.proofs.both.may_reach_either.Goals as goal

-- a disk that is told to hit none has no event with that of the row
missed : (Such : Rules → Type 0) (disk other : Disk) (row found : Option Placed) (may : Bool) → IfSome row (λ q. other ≡ q.disk) →
    row ≡ found → ((rules : Rules) → Such rules → TellsRounded rules disk other may) → may ≡ false → IsMissed Such disk found
missed Such disk other row found may is here told never =
    subst (λ (o : Option Placed). IsMissed Such disk o) here
    (missed_row Such disk other row may is (λ rules such. (told rules such).never) (λ rules such. (told rules such).never_turned) never)

pub returns-in-Some-clause-one : goal.returns-in-Some-clause-one
returns-in-Some-clause-one c =
    let Such : Rules → Type 0 = λ rules. IsReachOf rules c.args.one c.args.other c.args.reach in
    IfSome_then c.may_hit_either.result c.may_hit_either.ensures.one
    (λ may told. missed Such c.args.one c.disk.result c.in-Some.row.now _ may.0 c.disk.ensures (c.in-Some.ensures.lookup.3.1 None) told)

pub returns-in-Some-clause-other : goal.returns-in-Some-clause-other
returns-in-Some-clause-other c =
    let Such : Rules → Type 0 = λ rules. IsReachOf rules c.args.one c.args.other c.args.reach in
    IfSome_then c.may_hit_either.result c.may_hit_either.ensures.other
    (λ may told. missed Such c.args.other c.disk.result c.in-Some.row.now _ may.1 c.disk.ensures (c.in-Some.ensures.lookup.3.1 None) told)
