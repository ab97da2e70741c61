-- After the last disk the list goes on with none; the disks in the block around the cell are near it.
use Rattle.std.proofs.Common.{◌≡◌, ◌↔◌, ℕ, ◌+◌, ◌^◌, ◌<◌, List, [], arith, sym, ap, subst}
use Rattle.std.specs.Prelude.{Option}
use Rattle.std.proofs.lemmas.List.{append-nil}
use Rattle.cell_grid.specs.Grid.{GridData, IsCell, IsAdjacent}
use Rattle.cell_lists.specs.Firsts.{IsFirstOf, AreAllFrom}
use Rattle.cell_lists.specs.Listing.{ListsData}
use Rattle.cell_lists.specs.Nearby.{IsBlock, IsWithinBlock, IsListedWithin, IsListedNear}
use Rattle.cell_lists.proofs.Firsts.{GoesOn, ascent, all_same, falls, goes_on_from_none, goes_on_from_next}
use Rattle.cell_lists.proofs.Listed.{cells_seen}
use Rattle.cell_lists.proofs.lists.Lists.near.Goals as goal

pub block_around-block-requires : goal.block_around-block-requires
block_around-block-requires c = subst (λ (l : ListsData). IsCell l.grid c.args.cell) (sym c.self.view_is) c.requires

pub first_within-next-requires : goal.first_within-next-requires
first_within-next-requires c =
    subst (λ (l : ListsData). IsBlock l.grid c.block_around-block.result) c.self.view_is c.block_around-block.ensures.block

pub loop-next-init : goal.loop-next-init
loop-next-init c =
    let Within = IsListedWithin c.args.self.now c.block_around-block.result in (
      0,
      c.first_within-next.ensures,
      subst (λ (disks : List ℕ). GoesOn Within disks 0) (sym c.new-disks.ensures.items) (goes_on_from_none Within),
    )

pub first_within-next-requires-in-Some : goal.first_within-next-requires-in-Some
first_within-next-requires-in-Some c =
    subst (λ (l : ListsData). IsBlock l.grid c.block_around-block.result) c.self.view_is c.block_around-block.ensures.block

pub loop-next-smaller : goal.loop-next-smaller
loop-next-smaller c =
    let Within = IsListedWithin c.args.self.now c.block_around-block.result in
    let next = c.first_within-next-in-Some in
    let room : c.in-Some.disk < 2 ^ 32 = omega arith in
    let same : c.from.result ≡ c.in-Some.disk = omega arith in
    subst (λ (o : Option ℕ). ascent next.result < ascent o) (sym c.in-Some.is)
    (falls Within c.in-Some.disk next.result room
    (subst (λ (n : ℕ). IsFirstOf Within (n + 1) next.result) same next.ensures))

pub loop-next-preserved : goal.loop-next-preserved
loop-next-preserved c =
    let Within = IsListedWithin c.args.self.now c.block_around-block.result in
    let kept = c.loop-next.invariant in
    let same : c.from.result ≡ c.in-Some.disk = omega arith in (
      c.from.result + 1,
      c.first_within-next-in-Some.ensures,
      rw (c.in_ok-push.ensures.items, same)
          (goes_on_from_next Within c.loop-next.disks.items kept.0 c.in-Some.disk
          (subst (IsFirstOf Within kept.0) c.in-Some.is kept.1) kept.2),
    )

pub returns : goal.returns
returns c =
    let lists = c.args.self.now in
    let block = c.block_around-block.result in
    let kept = c.loop-next.invariant in
    let Within = IsListedWithin lists block in
    let whole : AreAllFrom Within 0 c.loop-next.disks.items =
    subst (AreAllFrom Within 0) (append-nil c.loop-next.disks.items)
    (kept.2 [] (subst (IsFirstOf Within kept.0) c.in_default.is kept.1)) in
    let around : (other : ℕ) → IsCell lists.grid other → (IsAdjacent lists.grid c.args.cell other ↔ IsWithinBlock lists.grid block other) =
    subst (λ (g : GridData). (other : ℕ) → IsCell g other → (IsAdjacent g c.args.cell other ↔ IsWithinBlock g block other))
    (ap (λ (l : ListsData). l.grid) c.self.view_is) c.block_around-block.ensures.around in
    let cells = cells_seen c.self.inside.grid c.self.inside.chains.cells lists c.self.view_is c.self.invariant in
    all_same Within (IsListedNear lists c.args.cell) 0 c.loop-next.disks.items
    (λ i. (λ x. (x.0, x.1, (around x.0 (cells i x.0 x.1)).1 x.2), λ x. (x.0, x.1, (around x.0 (cells i x.0 x.1)).0 x.2))) whole
