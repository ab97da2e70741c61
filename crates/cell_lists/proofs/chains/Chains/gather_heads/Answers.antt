-- One more row in each round.
use Rattle.std.proofs.Common.{◌≡◌, ◌+◌, ◌*◌, ◌<◌, ◌≤◌, take, arith, subst}
use Rattle.std.specs.Prelude.{ℕ}
use Rattle.cell_lists.specs.Nearby.{IsWithinBlock}
use Rattle.cell_lists.proofs.Blocks.{rows_to, row_cells}
use Rattle.cell_lists.specs.Gathering.{StartsAdded, ArePending}
use Rattle.cell_lists.proofs.Walks.{nothing_added, both_added, none_pending, all_taken}
use Rattle.cell_lists.proofs.chains.Chains.gather_heads.Goals as goal

pub loop-row-init : goal.loop-row-init
loop-row-init c =
    let taken = all_taken c.args.first.count c.args.disks.now c.requires.room c.told-disks in
    record {
      room = c.requires.room;
      more = omega arith;
      added = nothing_added c.args.self.now.cells (IsWithinBlock c.args.grid.now (rows_to c.args.block c.args.block.low)) (take c.args.first.count c.args.disks.now)
          (λ n such. let low = such.1.0 in let high = such.1.1 in absurd (omega arith));
      pending = subst (λ (n : ℕ). ArePending c.args.self.now.cells n (take c.args.first.count c.args.disks.now) c.args.first.pending) taken
          (none_pending c.args.self.now.cells (take c.args.first.count c.args.disks.now) c.args.first.pending c.requires.none);
    }

pub loop-row-preserved : goal.loop-row-preserved
loop-row-preserved c =
    let cells = c.args.self.now.cells in
    let grid = c.args.grid.now in
    let block = c.args.block in
    let row = c.loop-row.row in
    let old = take c.args.first.count c.args.disks.now in
    let before = take c.loop-row.so_far.count c.loop-row.disks in
    let after = take c.in_ok-so_far.so_far.count c.gather_heads_of.new.disks in
    record {
      room = c.in_ok-so_far.ensures.room;
      more = (let more = c.in_ok-so_far.ensures.more in let so_far = c.loop-row.invariant.more in omega arith);
      added = both_added cells (IsWithinBlock grid (rows_to block row)) (λ n. (row * grid.columns + block.left ≤ n) × (n < row * grid.columns + block.right))
          (IsWithinBlock grid (rows_to block (row + 1))) old before after c.loop-row.invariant.added
          (subst (λ (w : ℕ). StartsAdded cells (λ n. (row * w + block.left ≤ n) × (n < row * w + block.right)) before after)
          c.columns-columns.ensures.value c.in_ok-so_far.ensures.added)
          (λ n. row_cells grid block row n c.loop-row.auto.row c.requires.block.columns c.requires.block.most_columns);
      pending = c.in_ok-so_far.ensures.pending c.args.first.count c.loop-row.invariant.more c.loop-row.invariant.pending;
    }

pub gather_heads_of-requires-clause-room : goal.gather_heads_of-requires-clause-room
gather_heads_of-requires-clause-room c = c.loop-row.invariant.room

pub returns-clause-room : goal.returns-clause-room
returns-clause-room c = c.loop-row.invariant.room

pub returns-clause-more : goal.returns-clause-more
returns-clause-more c = c.loop-row.invariant.more

pub returns-clause-pending : goal.returns-clause-pending
returns-clause-pending c = c.loop-row.invariant.pending

pub returns-clause-added : goal.returns-clause-added
returns-clause-added c =
    let last : c.loop-row.row ≡ c.args.block.high = (let order = c.requires.block.rows in omega arith) in
    subst (λ (row : ℕ). StartsAdded c.args.self.now.cells (IsWithinBlock c.args.grid.now (rows_to c.args.block row)) (take c.args.first.count c.args.disks.now)
    (take c.loop-row.so_far.count c.loop-row.disks)) last c.loop-row.invariant.added

pub gather_heads_of-requires-clause-own : goal.gather_heads_of-requires-clause-own
gather_heads_of-requires-clause-own c = c.requires.own
