-- Flown are 20, the virial is 6, and Σ r·v goes from 20 to 50.
use Rattle.std.proofs.Common.{zero, suc, List, sym, ap, subst}
use Rattle.std.specs.Prelude.{pos, neg_ℤ}
use Rattle.std.proofs.lemmas.Option.{none-some, same_Some}
use Rattle.fixed_motion.specs.declared.disk.Disk.{Disk}
use Rattle.fixed_motion.specs.Motion.{half_of}
use Rattle.event_rules.specs.declared.change.Change.{Change}
use Rattle.event_rules.specs.declared.outcome.Outcome.TheVariants.{Done}
use Rattle.sampled_laws.specs.Laws.{sums_of_run}
use Rattle.sampled_laws.specs.Virial.{AreOfSize, IsWithinAbove, pushed_from_places}
use Rattle.worked_laws.specs.Pair.{pair_rules}
use Rattle.worked_laws.specs.Glance.{glance_disks, glance_scene, glance_changes, glance_end}
use Rattle.worked_laws.proofs.GlanceRun.{glance_run, only_changes}
use Rattle.worked_laws.proofs.ValidRows.{glance_valid}
use Rattle.worked_laws.proofs.sums.the_bottom_tells_the_virial.Goals as goal

of_size : AreOfSize (pos 4) glance_disks
of_size zero a at = ap (λ (d : Disk). d.size) (sym (same_Some _ _ at))
of_size (suc zero) a at = ap (λ (d : Disk). d.size) (sym (same_Some _ _ at))
of_size (suc (suc i)) a at = absurd (none-some a at)

pub returns : goal.returns
unfolding half_of
returns c changes spots run =
    subst (λ (cs : List Change). IsWithinAbove (neg_ℤ (pos 4)) 16 (pushed_from_places pair_rules (pos 2) (sums_of_run 0 glance_scene cs)))
    (sym (only_changes changes (Done spots) run))
    (c.sides_tell_the_virial.ensures.told glance_scene glance_changes glance_end (pos 4) glance_valid glance_run of_size)
