use Rattle.std.proofs.Common.{subst}
use Rattle.std.proofs.lemmas.Option.{same_Some, none-some}
use Rattle.fixed_motion.specs.Motion.{IsValidDisk}
use Rattle.all_pairs.proofs.Least.{disk_at, first_within}
use Rattle.all_pairs.proofs.Events.{pair_at, wall_at, pair_comes, wall_comes}
use Rattle.all_pairs.proofs.simulate.run_event.Goals as goal

pub bounds-disks-stamp : goal.bounds-disks-stamp
bounds-disks-stamp c = first_within c.args.rules.now c.args.disks.now c.args.stamp.now c.requires.next.0

pub bounds-disks-stamp-in-Pair : goal.bounds-disks-stamp-in-Pair
bounds-disks-stamp-in-Pair c =
    (pair_at c.args.rules.now c.args.disks.now c.args.stamp.now c.requires.next.0
    c.in-Pair.is).second_within

pub apply-requires-clause-first : goal.apply-requires-clause-first
apply-requires-clause-first c = c.requires.valid.valid c.args.stamp.now.first _
    (disk_at c.args.disks.now c.args.stamp.now.first
    (pair_at c.args.rules.now c.args.disks.now c.args.stamp.now c.requires.next.0
    c.in-Pair.is).first_within)

pub apply-requires-clause-second : goal.apply-requires-clause-second
apply-requires-clause-second c =
    λ x e. subst (IsValidDisk c.args.rules.now) (same_Some _ x e)
    (c.requires.valid.valid c.args.stamp.now.second _
    (disk_at c.args.disks.now c.args.stamp.now.second
    (pair_at c.args.rules.now c.args.disks.now c.args.stamp.now c.requires.next.0
    c.in-Pair.is).second_within))

pub apply-requires-clause-event : goal.apply-requires-clause-event
apply-requires-clause-event c =
    (pair_at c.args.rules.now c.args.disks.now c.args.stamp.now c.requires.next.0
    c.in-Pair.is).event

pub apply-requires-in_default : goal.apply-requires-in_default
apply-requires-in_default c =
    let at = wall_at c.args.rules.now c.args.disks.now c.args.stamp.now c.requires.next.0
    c.in_default.not-Pair in record {
      checked = c.requires.checked;
      first = c.requires.valid.valid c.args.stamp.now.first _
          (disk_at c.args.disks.now c.args.stamp.now.first at.first_within);
      second = λ x e. absurd (none-some x e);
      event = at.event;
    }

pub returns-in-Pair : goal.returns-in-Pair
returns-in-Pair c = pair_comes c.args.rules.now c.args.disks.now c.args.stamp.now c.apply.result
    c.requires.next.0 c.in-Pair.is c.apply.ensures.exact

pub returns-in_default : goal.returns-in_default
returns-in_default c = wall_comes c.args.rules.now c.args.disks.now c.args.stamp.now
    c.apply-in_default.result c.requires.next.0 c.in_default.not-Pair
    c.apply-in_default.ensures.exact
