-- Contracts see the lists as the map that the chains say.
use Rattle.cell_lists.specs.Nearby.{IsWithinBlock}
use Rattle.cell_lists.proofs.Listed.{gathered_seen}
use Rattle.cell_lists.proofs.lists.Lists.gather.Goals as goal

pub returns : goal.returns
returns c = λ yes.
    gathered_seen c.self.inside.grid c.self.inside.chains.cells c.args.self.now (λ grid cell. IsWithinBlock grid c.args.block cell)
    c.args.gathered.now c.gather.new.gathered c.self.view_is (c.gather.ensures yes)
