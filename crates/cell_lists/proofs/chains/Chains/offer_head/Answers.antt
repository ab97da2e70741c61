-- The pointer to the least disk of the cell is offered.
use Rattle.std.proofs.Common.{◌≡◌, ◌⊎◌, ◌↔◌, ◌≤◌, List, take, arith, sym, subst}
use Rattle.std.specs.Prelude.{ℕ}
use Rattle.cell_lists.specs.declared.gathered.TheConstants.{MOST_GATHERED}
use Rattle.cell_lists.specs.Gathering.{StartsAdded, ArePending}
use Rattle.cell_lists.specs.Places.{Holds}
use Rattle.cell_lists.specs.Pointer.{disk_of, pointer_at, SaysMore}
use Rattle.cell_lists.proofs.Walks.{head_added, pending_more, all_taken}
use Rattle.cell_lists.proofs.chains.Chains.offer_head.Goals as goal

pub returns-clause-added : goal.returns-clause-added
returns-clause-added c =
    let cells = c.args.self.now.cells in
    let old = take c.args.before.count c.args.disks.now in
    let x = pointer_at c.heads-heads.result.now c.args.cell in
    subst (λ (xs : List ℕ). StartsAdded cells (λ n. n ≡ c.args.cell) old xs) (sym c.offer.ensures.offered)
    (head_added cells c.args.cell old (disk_of x) (c.heads-heads.ensures.first c.args.cell c.requires.bucket).0)

pub returns-clause-pending : goal.returns-clause-pending
returns-clause-pending c = λ start le pending.
    let cells = c.args.self.now.cells in
    let old = take c.args.before.count c.args.disks.now in
    let x = pointer_at c.heads-heads.result.now c.args.cell in
    let most : c.args.before.count ≤ MOST_GATHERED = (let room = c.requires.room in omega arith) in
    let taken = all_taken c.args.before.count c.args.disks.now most c.told-disks in
    subst (λ (xs : List ℕ). ArePending cells start xs c.offer.result.pending) (sym c.offer.ensures.offered)
    (pending_more cells start old c.args.before.pending c.offer.result.pending x
    (subst (λ (n : ℕ). start ≤ n) (sym taken) le) (c.heads-heads.ensures.first c.args.cell c.requires.bucket).1
    (subst (λ (n : ℕ). (p : ℕ) → (Holds c.offer.result.pending p ↔ (Holds c.args.before.pending p ⊎ ((p ≡ n) × SaysMore x)))) (sym taken)
    c.offer.ensures.pending) pending)
