-- Changes of disks in a table may be summed.
use Rattle.std.proofs.Common.{◌≡◌, ℕ, true, length, Option, Some, None}
use Rattle.fixed_motion.specs.declared.rules.Rules.{Rules}
use Rattle.fixed_motion.specs.declared.disk.Disk.{Disk}
use Rattle.fixed_motion.specs.Rules.{IsChecked}
use Rattle.event_rules.specs.declared.change.Change.{Change}
use Rattle.event_rules.specs.Outcomes.{IsRecordOf}
use Rattle.collision_report.specs.Meaning.{TableData, IsTable, takes_part}
use Rattle.collision_report.proofs.Tables.{first_record, second_record}
use Rattle.collision_sums.specs.Bounds.{IsNearIfSome, IsSummable}
use Rattle.collision_sums.proofs.Near.{near}

near_second : (rules : Rules) (count tick i : ℕ) (o : Option Disk) → IsChecked rules → IsRecordOf rules count tick i o → IsNearIfSome o
near_second rules count tick i None checked h = tt
near_second rules count tick i (Some b) checked h = near rules b checked h.valid

pub summable : (t : TableData) (c : Change) → IsTable t → takes_part t c ≡ true → IsSummable t.disks c
summable t c table part = record {
  before = λ i a is. near t.rules a table.rules (table.disks i a is).valid;
  first = near t.rules c.first table.rules (first_record t c part).valid;
  second = near_second t.rules (length t.disks) c.stamp.tick c.stamp.second c.second table.rules (second_record t c part);
}
