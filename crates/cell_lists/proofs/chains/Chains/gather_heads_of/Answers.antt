-- One more cell in each round.
use Rattle.std.proofs.Common.{◌≡◌, ◌+◌, ◌<◌, ◌≤◌, take, arith, subst}
use Rattle.std.specs.Prelude.{ℕ}
use Rattle.cell_lists.specs.Gathering.{StartsAdded}
use Rattle.cell_lists.proofs.Walks.{nothing_added, both_added, next_cell}
use Rattle.cell_lists.proofs.chains.Chains.gather_heads_of.Goals as goal

pub loop-cell-init : goal.loop-cell-init
loop-cell-init c = record {
  room = c.requires.room;
  more = omega arith;
  few = omega arith;
  added = nothing_added c.args.self.now.cells (λ n. (c.args.first ≤ n) × (n < c.args.first)) (take c.args.before.count c.args.disks.now)
      (λ n such. let low = such.0 in let high = such.1 in absurd (omega arith));
  pending = λ start le pending. pending;
}

pub loop-cell-preserved : goal.loop-cell-preserved
loop-cell-preserved c =
    let first = c.args.first in
    let cell = c.loop-cell.cell in
    let was = c.loop-cell.invariant in
    let offered = c.offer_head-so_far.ensures in
    record {
      room = offered.room;
      more = (let more = offered.more in let so_far = was.more in omega arith);
      few = (let one = offered.one in let so_far = was.few in omega arith);
      added = both_added c.args.self.now.cells (λ n. (first ≤ n) × (n < cell)) (λ n. n ≡ cell) (λ n. (first ≤ n) × (n < cell + 1))
          (take c.args.before.count c.args.disks.now) (take c.loop-cell.so_far.count c.loop-cell.disks)
          (take c.offer_head-so_far.result.count c.offer_head-so_far.new.disks) was.added offered.added
          (λ n. next_cell first cell n c.loop-cell.auto.cell);
      pending = λ start le pending. offered.pending start (let more = was.more in omega arith) (was.pending start le pending);
    }

pub returns-clause-room : goal.returns-clause-room
returns-clause-room c = c.loop-cell.invariant.room

pub returns-clause-more : goal.returns-clause-more
returns-clause-more c = c.loop-cell.invariant.more

pub returns-clause-added : goal.returns-clause-added
returns-clause-added c =
    let last : c.loop-cell.cell ≡ c.args.end = (let order = c.requires.order in omega arith) in
    subst (λ (m : ℕ). StartsAdded c.args.self.now.cells (λ n. (c.args.first ≤ n) × (n < m)) (take c.args.before.count c.args.disks.now)
    (take c.loop-cell.so_far.count c.loop-cell.disks)) last c.loop-cell.invariant.added

pub returns-clause-pending : goal.returns-clause-pending
returns-clause-pending c = c.loop-cell.invariant.pending
