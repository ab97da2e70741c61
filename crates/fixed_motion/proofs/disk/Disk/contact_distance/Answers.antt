use Rattle.std.proofs.Common.{◌∙◌, ◌+ℤ◌}
use Rattle.fixed_motion.proofs.Places.{sum_sent}
use Rattle.fixed_motion.proofs.disk.Disk.contact_distance.Goals as goal

pub overflow_add-result : goal.overflow_add-result
overflow_add-result c = (sum_sent c.radius.result c.radius-2.result c.radius.ensures.size c.radius-2.ensures.size).0

pub returns : goal.returns
returns c =
    (sum_sent c.radius.result c.radius-2.result c.radius.ensures.size c.radius-2.ensures.size).1
    ∙ (λ i. c.radius.ensures.value i +ℤ c.radius-2.ensures.value i)
