-- The multiples that are due begin after the last tick at which the sums are written.
use Rattle.std.proofs.Common.{sym, subst, length, List, ◌≤◌, ◌∙◌}
use Rattle.fixed_motion.specs.declared.disk.Disk.{Disk}
use Rattle.fixed_motion.specs.Rules.{IsChecked}
use Rattle.run_samples.proofs.Due.{due_from}
use Rattle.run_samples.proofs.blocks.write_due_sums.Goals as goal

pub write_multiples-requires-clause-stands : goal.write_multiples-requires-clause-stands
write_multiples-requires-clause-stands g c =
    let table = c.rules.ensures.table in
    λ tick later. (
      subst IsChecked (sym c.rules-2.ensures.value) table.rules,
      due_from c.args.table.now c.in-Some.every _ tick _ _ table (sym c.every.ensures ∙ c.in-Some.is) c.shown.ensures c.rules-2.ensures.value c.disks.ensures later,
      subst (λ (disks : List Disk). length disks ≤ 65536) (sym c.disks.ensures) table.count,
    )
