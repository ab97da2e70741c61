use Rattle.std.proofs.Common.{◌∙◌}
use Rattle.event_stamps.proofs.Derived.{cmp_is}
use Rattle.event_stamps.proofs.compare.Goals as goal

pub returns : goal.returns
returns c = c.cmp.ensures ∙ cmp_is c.args.a.now c.args.b.now
