use Rattle.std.proofs.Common.{◌≡◌, List, Some, set, sym, ap}
use Rattle.fixed_motion.specs.declared.disk.Disk.{Disk}
use Rattle.event_rules.specs.declared.change.Change.{Change}
use Rattle.event_rules.specs.Run.{effect, set_some}
use Rattle.all_pairs.proofs.simulate.put.Goals as goal

both_put : (disks : List Disk) (c : Change) (second : Disk) → c.second ≡ Some second →
    set (set disks c.stamp.first c.first) c.stamp.second second ≡ effect disks c
both_put disks c second is =
    sym (ap (set_some (set disks c.stamp.first c.first) c.stamp.second) is)

pub returns-in-Some : goal.returns-in-Some
returns-in-Some c = both_put c.args.disks.now.items c.args.change.now c.in-Some.second c.in-Some.is
