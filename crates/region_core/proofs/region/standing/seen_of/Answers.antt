use Rattle.std.proofs.lemmas.Bool.{false≢true}
use Rattle.std.proofs.Common.{sym, ◌∙◌}
use Rattle.region_core.proofs.Stands.{sees_here, sees_none}
use Rattle.region_core.proofs.region.standing.seen_of.Goals as goal

pub returns-then-reaches : goal.returns-then-reaches
returns-then-reaches c k strip =
    sees_here c.args.grid.now k c.args.row.now ((c.reaches.ensures k strip).0 c.if-reaches.true)

pub returns-else-reaches : goal.returns-else-reaches
returns-else-reaches c k strip = sees_none c.args.grid.now k c.args.row.now
    (λ reach. absurd (false≢true (sym c.if-reaches.false ∙ (c.reaches.ensures k strip).1 reach)))
