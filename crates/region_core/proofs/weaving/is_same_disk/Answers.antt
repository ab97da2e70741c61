use Rattle.std.proofs.Common.{Some, ◌∙◌, ap, sym}
use Rattle.fixed_motion.specs.declared.disk.Disk.{Disk}
use Rattle.region_core.specs.Weaving.{record_in}
use Rattle.region_core.proofs.Tests.{same_record}
use Rattle.region_core.proofs.weaving.is_same_disk.Goals as goal

pub returns-in-Some-Some : goal.returns-in-Some-Some
returns-in-Some-Some c same =
    let new = c.in-Some-Some.new in
    let was = c.in-Some-Some.was in
    ap record_in c.in-Some-Some.is-0
    ∙ ap (λ (d : Disk). Some d) (same_record new.disk was.disk (sym c.eq.ensures ∙ same))
    ∙ sym (ap record_in c.in-Some-Some.is-1)
