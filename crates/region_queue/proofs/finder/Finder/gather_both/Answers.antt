-- The wider block has the cells around either disk's.
use Rattle.std.proofs.Common.{sym, subst}
use Rattle.cell_grid.specs.Grid.{GridData}
use Rattle.cell_lists.specs.Nearby.{IsBlock}
use Rattle.region_queue.proofs.Together.{near_gathered}
use Rattle.region_queue.proofs.finder.Finder.gather_both.Goals as goal

pub gather-requires : goal.gather-requires
gather-requires c =
    subst (λ (g : GridData). IsBlock g c.joined.result) (sym c.requires.ready.lists)
    (c.joined.ensures.block c.args.self.now.grid c.block_around-block.ensures.block c.block_around-beside.ensures.block)

pub returns-then-gather-clause-one : goal.returns-then-gather-clause-one
returns-then-gather-clause-one c = λ is listed.
    near_gathered c.args.self.now c.args.view.now c.args.one.now.cell c.block_around-block.result c.joined.result c.args.near.now
    c.gather.new.gathered c.requires.ready listed c.block_around-block.ensures.around c.joined.ensures.first (c.gather.ensures c.if-gather.true)

pub returns-then-gather-clause-other : goal.returns-then-gather-clause-other
returns-then-gather-clause-other c = λ is listed.
    near_gathered c.args.self.now c.args.view.now c.args.other.now.cell c.block_around-beside.result c.joined.result c.args.near.now
    c.gather.new.gathered c.requires.ready listed c.block_around-beside.ensures.around c.joined.ensures.second (c.gather.ensures c.if-gather.true)
