-- Contracts see the lists as the map that the chains say.
use Rattle.cell_lists.specs.Nearby.{IsInLine}
use Rattle.cell_lists.proofs.Listed.{gathered_seen}
use Rattle.cell_lists.proofs.lists.Lists.gather_line.Goals as goal

pub returns : goal.returns
returns c = λ yes.
    gathered_seen c.self.inside.grid c.self.inside.chains.cells c.args.self.now (λ _ cell. IsInLine c.args.first c.args.step cell)
    c.args.gathered.now c.gather_line.new.gathered c.self.view_is (c.gather_line.ensures yes)
