use Rattle.cell_grid.proofs.Courses.{shared}
use Rattle.cell_grid.proofs.bounds.Bounds.shared.Goals as goal

pub returns-clause-both : goal.returns-clause-both
returns-clause-both c =
    (shared c.args.self c.args.other c.max.result c.min.result c.requires.own c.requires.other c.max.ensures.value c.min.ensures.value).both

pub returns-clause-small : goal.returns-clause-small
returns-clause-small c =
    (shared c.args.self c.args.other c.max.result c.min.result c.requires.own c.requires.other c.max.ensures.value c.min.ensures.value).small
