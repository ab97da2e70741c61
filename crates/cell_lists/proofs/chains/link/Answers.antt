-- The disk comes behind the one before it, or at the head, and stays in its cell.
use Rattle.std.proofs.Common.{◌↔◌, List, set, subst, ap, ◌∙◌}
use Rattle.std.specs.Prelude.{IsSome}
use Rattle.cell_lists.specs.declared.pointer.Pointer.{Pointer}
use Rattle.cell_lists.specs.Pointer.{disk_of, SaysMore}
use Rattle.cell_lists.specs.Chain.{IsPointed}
use Rattle.cell_lists.specs.Nodes.{pointers_of}
use Rattle.cell_lists.proofs.Nodes.{pointers_set, cells_kept}
use Rattle.cell_lists.proofs.chains.link.Goals as goal

pub returns-clause-linked : goal.returns-clause-linked
returns-clause-linked c =
    let next = c.pointer_behind-next.result in
    let nodes = c.args.nodes.now.items in
    let is = c.pointer_behind-next.ensures in (
      c.to.result,
      (
        c.to.ensures.disk,
        subst (λ (x : Pointer). SaysMore c.to.result ↔ IsSome (disk_of x)) is
            (λ says. c.is_some.ensures.0 (c.to.ensures.more.0 says), λ some. c.to.ensures.more.1 (c.is_some.ensures.1 some)),
      ),
      subst (λ (xs : List Pointer). IsPointed c.args.heads.now.items xs c.args.bucket c.args.before c.to.result c.point.new.heads.items (pointers_of c.point.new.nodes.items))
          (pointers_set nodes c.args.disk c.index_mut.result.now next ∙ ap (set (pointers_of nodes) c.args.disk) is) c.point.ensures.pointed,
    )

pub returns-clause-cells : goal.returns-clause-cells
returns-clause-cells c =
    c.point.ensures.cells ∙ cells_kept c.args.nodes.now.items c.args.disk c.index_mut.result.now c.pointer_behind-next.result c.index_mut.ensures.value
