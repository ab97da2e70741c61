-- One more row of the block.
use Rattle.std.proofs.Common.{◌≡◌, ℕ, ◌+◌, arith, sym, subst}
use Rattle.std.specs.Prelude.{Option}
use Rattle.event_stamps.specs.declared.Stamp.{Stamp}
use Rattle.event_stamps.specs.Least.{IsLeastOf}
use Rattle.cell_lists.specs.Nearby.{IsListedWithin}
use Rattle.cell_lists.proofs.Blocks.{rows_to, no_row}
use Rattle.region_queue.specs.Finding.{IsNativeWith}
use Rattle.region_queue.proofs.Candidates.{with_none, row_more}
use Rattle.region_queue.proofs.finder.Finder.best_by_rows.Goals as goal

pub loop-row-init : goal.loop-row-init
loop-row-init c = λ listed.
    let lists = c.args.self.now.lists in
    let Within = IsListedWithin lists (rows_to c.args.block c.args.block.low) in
    subst (λ (o : Option Stamp). IsLeastOf (IsNativeWith c.args.self.now c.args.view.now c.args.disk Within) o) (sym c.new-best.ensures)
    (with_none c.args.self.now c.args.view.now c.args.disk Within (no_row lists c.args.block))

pub loop-row-preserved : goal.loop-row-preserved
loop-row-preserved c = λ listed.
    let finder = c.args.self.now in
    subst (λ (o : Option Stamp). IsLeastOf (IsNativeWith finder c.args.view.now c.args.disk
    (IsListedWithin finder.lists (rows_to c.args.block (c.loop-row.row + 1)))) o)
    (sym c.earlier-best.ensures)
    (row_more finder c.args.view.now c.args.disk c.args.block c.loop-row.row c.loop-row.best c.best_in_row.result
    c.loop-row.auto.row (c.loop-row.invariant listed) (c.best_in_row.ensures listed))

pub returns : goal.returns
returns c = λ listed.
    let finder = c.args.self.now in
    let whole : c.loop-row.row ≡ c.args.block.high =
    (let most = c.loop-row.auto.row-end c.requires.beside.sides.rows in omega arith) in
    subst (λ (n : ℕ). IsLeastOf (IsNativeWith finder c.args.view.now c.args.disk
    (IsListedWithin finder.lists (rows_to c.args.block n))) c.loop-row.best) whole (c.loop-row.invariant listed)
