-- The chain ascends, and no disk of the cell is passed.
use Rattle.std.proofs.Common.{◌+◌, ◌%◌, ◌<◌, ◌≤◌, arith, sym, subst, ◌∙◌, length}
use Rattle.std.specs.Prelude.{ℕ, Option}
use Rattle.cell_lists.specs.Firsts.{IsFirstOf}
use Rattle.cell_lists.proofs.Firsts.{ascent}
use Rattle.cell_lists.specs.Pointer.{disk_of}
use Rattle.cell_lists.specs.Chain.{IsFirst, IsCellOf}
use Rattle.cell_lists.specs.Nodes.{pointers_of, cells_of}
use Rattle.cell_lists.proofs.Chaining.{within, cell_is_read, is_that, is_other, seen, next_leads, next_falls, passed_more, passed_all, passed_one}
use Rattle.cell_lists.proofs.Nodes.{next_read, cell_read, node_there}
use Rattle.cell_lists.proofs.chains.Chains.skip.Goals as goal

pub loop-next-smaller : goal.loop-next-smaller
loop-next-smaller c =
    let heads = c.self.inside.heads.items in
    let nexts = pointers_of c.self.inside.nodes.items in
    let is = seen heads nexts (cells_of c.self.inside.nodes.items) c.args.self.now c.self.view_is c.self.invariant in
    let here = subst (λ (o : Option ℕ). IsFirst c.args.self.now.cells c.args.self.now.buckets (c.args.cell % c.args.self.now.buckets) c.loop-next.invariant.0 o) c.in-Some.is c.loop-next.invariant.3 in
    subst (λ (o : Option ℕ). ascent c.get-next.result < ascent o) (sym c.in-Some.is) (rw c.get-next.ensures
    (next_falls heads nexts c.args.self.now (c.args.cell % c.args.self.now.buckets) c.in-Some.disk (disk_of c.index-node.result.now.next) is here.1
    ((next_leads heads nexts c.args.self.now (c.args.cell % c.args.self.now.buckets) c.in-Some.disk c.index-node.result.now.next is here.1 (next_read c.self.inside.nodes.items c.in-Some.disk c.index-node.result.now c.index-node.ensures)).0)))

pub loop-next-preserved : goal.loop-next-preserved
loop-next-preserved c =
    let heads = c.self.inside.heads.items in
    let nexts = pointers_of c.self.inside.nodes.items in
    let is = seen heads nexts (cells_of c.self.inside.nodes.items) c.args.self.now c.self.view_is c.self.invariant in
    let kept = c.loop-next.invariant in
    let later : c.args.from ≤ kept.0 = kept.1 in
    let here = subst (λ (o : Option ℕ). IsFirst c.args.self.now.cells c.args.self.now.buckets (c.args.cell % c.args.self.now.buckets) c.loop-next.invariant.0 o) c.in-Some.is c.loop-next.invariant.3 in
    let low : kept.0 ≤ c.in-Some.disk = here.0 in
    let room = within c.args.self.now.cells c.args.self.now.buckets (c.args.cell % c.args.self.now.buckets) c.in-Some.disk here.1 in
    let read = cell_is_read (cells_of c.self.inside.nodes.items) (length heads) c.args.self.now c.in-Some.disk c.index-node.result.now.cell c.self.view_is room (cell_read c.self.inside.nodes.items c.in-Some.disk c.index-node.result.now c.index-node.ensures) in (
      c.in-Some.disk + 1,
      omega arith,
      passed_one c.args.self.now.cells c.args.cell c.args.from c.in-Some.disk
          (passed_more c.args.self.now.cells c.args.self.now.buckets c.args.cell c.args.from kept.0 c.in-Some.disk here kept.2)
          (λ is. is_other c.get.result c.args.cell c.if-eq.ensures (c.get.ensures.value ∙ sym read ∙ is)),
      rw c.get-next.ensures ((next_leads heads nexts c.args.self.now (c.args.cell % c.args.self.now.buckets) c.in-Some.disk c.index-node.result.now.next is here.1 (next_read c.self.inside.nodes.items c.in-Some.disk c.index-node.result.now c.index-node.ensures)).0),
    )

pub returns-then-eq : goal.returns-then-eq
returns-then-eq c =
    let kept = c.loop-next.invariant in
    let later : c.args.from ≤ kept.0 = kept.1 in
    let here = subst (λ (o : Option ℕ). IsFirst c.args.self.now.cells c.args.self.now.buckets (c.args.cell % c.args.self.now.buckets) c.loop-next.invariant.0 o) c.in-Some.is c.loop-next.invariant.3 in
    let low : kept.0 ≤ c.in-Some.disk = here.0 in
    let room = within c.args.self.now.cells c.args.self.now.buckets (c.args.cell % c.args.self.now.buckets) c.in-Some.disk here.1 in
    let read = cell_is_read (cells_of c.self.inside.nodes.items) (length c.self.inside.heads.items) c.args.self.now c.in-Some.disk c.index-node.result.now.cell c.self.view_is room (cell_read c.self.inside.nodes.items c.in-Some.disk c.index-node.result.now c.index-node.ensures) in
    (omega arith, read ∙ sym c.get.ensures.value ∙ is_that c.get.result c.args.cell c.if-eq.ensures, passed_more c.args.self.now.cells c.args.self.now.buckets c.args.cell c.args.from kept.0 c.in-Some.disk here kept.2)

pub returns-in_default : goal.returns-in_default
returns-in_default c =
    subst (λ (o : Option ℕ). IsFirstOf (IsCellOf c.args.self.now.cells c.args.cell) c.args.from o) (sym c.in_default.is)
    (passed_all c.args.self.now.cells c.args.self.now.buckets c.args.cell c.args.from c.loop-next.invariant.0
    (subst (λ (o : Option ℕ). IsFirst c.args.self.now.cells c.args.self.now.buckets (c.args.cell % c.args.self.now.buckets) c.loop-next.invariant.0 o) c.in_default.is c.loop-next.invariant.3)
    c.loop-next.invariant.2)

pub index-node-requires : goal.index-node-requires
index-node-requires c =
    let chains = c.args.self.now in
    let bucket = c.args.cell % chains.buckets in
    let here = subst (λ (o : Option ℕ). IsFirst chains.cells chains.buckets bucket c.loop-next.invariant.0 o) c.in-Some.is c.loop-next.invariant.3 in
    node_there (length c.self.inside.heads.items) _ c.self.inside.nodes.items chains chains.buckets bucket c.in-Some.disk c.self.view_is c.self.inside.nodes.ok.0 here.1

pub loop-next-init : goal.loop-next-init
loop-next-init c = (c.args.from, omega arith, λ j low high. absurd (omega arith), c.requires)
