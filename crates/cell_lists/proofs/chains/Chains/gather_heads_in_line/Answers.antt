-- One cell after the other.
use Rattle.std.proofs.Common.{◌≤◌, take, arith, subst}
use Rattle.std.specs.Prelude.{ℕ}
use Rattle.cell_lists.specs.declared.gathered.TheConstants.{MOST_GATHERED}
use Rattle.cell_lists.specs.Gathering.{ArePending}
use Rattle.cell_lists.proofs.Walks.{line_added, none_pending, all_taken}
use Rattle.cell_lists.proofs.chains.Chains.gather_heads_in_line.Goals as goal

pub returns-clause-added : goal.returns-clause-added
returns-clause-added c =
    line_added c.args.self.now.cells c.args.first c.args.step (take c.args.before.count c.args.disks.now)
    (take c.offer_head-one.result.count c.offer_head-one.new.disks) (take c.offer_head-two.result.count c.offer_head-two.new.disks)
    (take c.offer_head.result.count c.offer_head.new.disks)
    c.offer_head-one.ensures.added c.offer_head-two.ensures.added c.offer_head.ensures.added

pub returns-clause-pending : goal.returns-clause-pending
returns-clause-pending c =
    let start = c.args.before.count in
    let old = take start c.args.disks.now in
    let one = c.offer_head-one.ensures in
    let two = c.offer_head-two.ensures in
    let most : start ≤ MOST_GATHERED = (let room = c.requires.room in omega arith) in
    let none = subst (λ (n : ℕ). ArePending c.args.self.now.cells n old c.args.before.pending)
    (all_taken start c.args.disks.now most c.told-disks)
    (none_pending c.args.self.now.cells old c.args.before.pending c.requires.none) in
    let first_more = one.more in
    let next_more = two.more in
    c.offer_head.ensures.pending start (omega arith) (two.pending start (omega arith) (one.pending start (omega arith) none))
