-- One more disk is listed again.
use Rattle.std.proofs.Common.{◌≡◌, ◌<◌, List, ℕ, take, length, get_or, arith, refl, sym, subst, ◌∙◌}
use Rattle.std.specs.FinMap as map
use Rattle.std.proofs.lemmas.List.{take_more}
use Rattle.cell_grid.specs.Grid.{GridData}
use Rattle.region_view.specs.Laws.{HasCells}
use Rattle.region_view.specs.Views.{rows_in}
use Rattle.region_queue.specs.Finding.{AreRelisted, cell_in}
use Rattle.region_queue.proofs.Again.{again_none, relisted_more, take_whole}
use Rattle.region_queue.proofs.listing.list_again.Goals as goal

pub loop-disk-init : goal.loop-disk-init
loop-disk-init c = record {
  grid = refl;
  listed = again_none (λ i o. o ≡ cell_in c.args.view.now i) (map.get c.args.lists.now.cells);
}

pub list_one-requires : goal.list_one-requires
list_one-requires c =
    subst (λ (g : GridData). HasCells g (rows_in c.args.view.now)) (sym c.loop-disk.invariant.grid) c.requires

pub loop-disk-preserved : goal.loop-disk-preserved
loop-disk-preserved c =
    let lt : c.loop-disk.disk-index < length c.args.disks.now = omega arith in
    record {
      grid = c.list_one.ensures.grid ∙ c.loop-disk.invariant.grid;
      listed = subst (λ (done : List ℕ). AreRelisted c.args.view.now done c.args.lists.now.cells c.list_one.new.lists.cells)
          (sym (take_more c.args.disks.now c.loop-disk.disk-index 0 lt))
          (relisted_more c.args.view.now (take c.loop-disk.disk-index c.args.disks.now)
          (get_or c.args.disks.now c.loop-disk.disk-index 0) c.args.lists.now.cells c.loop-disk.lists.cells
          c.list_one.new.lists.cells c.loop-disk.invariant.listed c.in_ok-list_one.ensures.listed);
    }

pub returns-clause-listed : goal.returns-clause-listed
returns-clause-listed c =
    subst (λ (done : List ℕ). AreRelisted c.args.view.now done c.args.lists.now.cells c.loop-disk.lists.cells)
    (take_whole c.args.disks.now c.loop-disk.disk-index (omega arith)) c.loop-disk.invariant.listed
