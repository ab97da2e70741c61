-- The disks gathered are those listed in the block.
use Rattle.std.proofs.Common.{sym, subst}
use Rattle.cell_grid.specs.Grid.{GridData}
use Rattle.cell_lists.specs.Nearby.{IsBlock, IsListedWithin}
use Rattle.region_queue.proofs.Among.{best_gathered}
use Rattle.region_queue.proofs.finder.Finder.best_within.Goals as goal

pub gather-requires : goal.gather-requires
gather-requires c = subst (λ (g : GridData). IsBlock g c.args.block) (sym c.requires.subject.ready.lists) c.requires.beside.sides

pub returns-then-have_rows : goal.returns-then-have_rows
returns-then-have_rows c = λ listed.
    let finder = c.args.self.now in
    best_gathered finder c.args.view.now c.args.disk c.args.block (IsListedWithin finder.lists c.args.block) c.new-near.result
    c.gather.new.gathered c.best_among.result (λ i x. x) c.new-near.ensures (c.gather.ensures c.if-gather.true)
    (c.best_among.ensures listed)
