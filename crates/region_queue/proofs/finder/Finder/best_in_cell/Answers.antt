-- The walk goes on from the disk that comes next.
use Rattle.std.proofs.Common.{ℕ, ◌+◌, ◌^◌, ◌<◌, arith, sym, subst}
use Rattle.std.specs.Prelude.{Option}
use Rattle.event_stamps.specs.declared.Stamp.{Stamp}
use Rattle.event_stamps.specs.Least.{IsLeastOf}
use Rattle.cell_lists.specs.Listing.{IsListed, IsFirstIn}
use Rattle.cell_lists.proofs.Firsts.{ascent, falls}
use Rattle.region_queue.specs.Finding.{IsNativeWith}
use Rattle.region_queue.proofs.Candidates.{ListedBelow, walk_begins, walk_more, walk_ends}
use Rattle.region_queue.proofs.Beside.{nearby_in_cell}
use Rattle.region_queue.proofs.finder.Finder.best_in_cell.Goals as goal

pub loop-next-init : goal.loop-next-init
loop-next-init c = (
  0,
  c.first_in-next.ensures,
  λ listed.
      subst (λ (o : Option Stamp). IsLeastOf (IsNativeWith c.args.self.now c.args.view.now c.args.disk
      (ListedBelow c.args.self.now.lists c.args.cell 0)) o) (sym c.new-best.ensures)
      (walk_begins c.args.self.now c.args.view.now c.args.disk c.args.cell),
)

pub next_in-next-requires : goal.next_in-next-requires
next_in-next-requires c =
    let kept = c.loop-next.invariant in
    (subst (λ (o : Option ℕ). IsFirstIn c.args.self.now.lists c.args.cell kept.0 o) c.in-Some.is kept.1).1

pub loop-next-smaller : goal.loop-next-smaller
loop-next-smaller c =
    let room : c.in-Some.other < 2 ^ 32 = omega arith in
    subst (λ (o : Option ℕ). ascent c.next_in-next.result < ascent o) (sym c.in-Some.is)
    (falls (IsListed c.args.self.now.lists c.args.cell) c.in-Some.other c.next_in-next.result room c.next_in-next.ensures)

pub loop-next-preserved : goal.loop-next-preserved
loop-next-preserved c =
    let kept = c.loop-next.invariant in
    let finder = c.args.self.now in (
      c.in-Some.other + 1,
      c.next_in-next.ensures,
      λ listed. subst (λ (o : Option Stamp). IsLeastOf (IsNativeWith finder c.args.view.now c.args.disk (ListedBelow finder.lists c.args.cell (c.in-Some.other + 1))) o)
          (sym c.earlier-best.ensures)
          (walk_more finder c.args.view.now c.args.disk c.args.cell kept.0 c.in-Some.other c.loop-next.best c.key_beside.result
          (subst (λ (o : Option ℕ). IsFirstIn finder.lists c.args.cell kept.0 o) c.in-Some.is kept.1) (kept.2 listed)
          (c.key_beside.ensures (nearby_in_cell finder c.args.view.now c.args.placed.now.cell c.args.cell c.in-Some.other c.owns-whole.result listed
          (subst (λ (o : Option ℕ). IsFirstIn finder.lists c.args.cell kept.0 o) c.in-Some.is kept.1).1 c.requires.beside
          c.owns-whole.ensures))),
    )

pub returns : goal.returns
returns c = λ listed.
    let kept = c.loop-next.invariant in
    let finder = c.args.self.now in
    walk_ends finder c.args.view.now c.args.disk c.args.cell kept.0 c.loop-next.best
    (subst (λ (o : Option ℕ). IsFirstIn finder.lists c.args.cell kept.0 o) c.in_default.is kept.1) (kept.2 listed)
