use Rattle.region_core.proofs.Tests.{begins_at}
use Rattle.region_core.proofs.weaving.begins_after.Goals as goal

pub returns-then-kept-len : goal.returns-then-kept-len
returns-then-kept-len c = λ yes.
    begins_at c.args.at.now c.stamp.result c.args.log.now c.args.kept c.stamp.ensures (c.is_before.ensures.0 yes)
