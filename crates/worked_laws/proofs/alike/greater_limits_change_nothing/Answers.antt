-- The pair's run meets no limit.
use Rattle.std.proofs.Common.{[], ◌∷◌, arith}
use Rattle.std.specs.Prelude.{pos}
use Rattle.event_rules.specs.Run.{effect}
use Rattle.event_rules.proofs.Ranges.{starts_valid}
use Rattle.worked_laws.specs.Pair.{pair_rules, pair_disks, pair_scene, the_hit, pair_end}
use Rattle.worked_laws.proofs.PairRun.{pair_run, pair_steps}
use Rattle.worked_laws.proofs.ValidRows.{pair_valid}
use Rattle.worked_laws.proofs.alike.greater_limits_change_nothing.Goals as goal

pub returns-clause-run : goal.returns-clause-run
returns-clause-run c =
    (c.limits_only_end.ensures pair_rules (pos 100) 8 pair_disks (starts_valid pair_scene pair_valid) (omega arith) (omega arith)).runs
    (the_hit ∷ []) pair_end pair_run

pub returns-clause-beginning : goal.returns-clause-beginning
returns-clause-beginning c =
    (c.limits_only_end.ensures pair_rules (pos 100) 8 pair_disks (starts_valid pair_scene pair_valid) (omega arith) (omega arith)).steps
    (the_hit ∷ []) (effect pair_disks the_hit) pair_steps
