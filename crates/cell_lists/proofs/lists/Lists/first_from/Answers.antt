-- The walk goes on from the disk that comes next.
use Rattle.std.proofs.Common.{ℕ, ◌+◌, ◌^◌, ◌<◌, arith, sym, subst}
use Rattle.std.specs.Prelude.{Option}
use Rattle.cell_lists.proofs.Firsts.{ascent, falls}
use Rattle.cell_lists.specs.Listing.{IsListed, IsFirstIn}
use Rattle.cell_lists.proofs.lists.Lists.first_from.Goals as goal

pub loop-next-init : goal.loop-next-init
loop-next-init c = (0, omega arith, c.first_in-next.ensures)

pub next_in-next-requires : goal.next_in-next-requires
next_in-next-requires c =
    let kept = c.loop-next.invariant in
    (subst (λ (o : Option ℕ). IsFirstIn c.args.self.now c.args.cell kept.0 o) c.in-Some.is kept.2).1

pub loop-next-smaller : goal.loop-next-smaller
loop-next-smaller c =
    let room : c.in-Some.disk < 2 ^ 32 = omega arith in
    subst (λ (o : Option ℕ). ascent c.next_in-next.result < ascent o) (sym c.in-Some.is)
    (falls (IsListed c.args.self.now c.args.cell) c.in-Some.disk c.next_in-next.result room c.next_in-next.ensures)

pub loop-next-preserved : goal.loop-next-preserved
loop-next-preserved c = (c.in-Some.disk + 1, omega arith, c.next_in-next.ensures)
