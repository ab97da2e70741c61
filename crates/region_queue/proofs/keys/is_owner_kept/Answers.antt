-- Whether the region owns a cell is answered alike for both.
use Rattle.std.proofs.Common.{◌≡◌, ◌↔◌, sym, subst, ◌∙◌}
use Rattle.std.specs.Prelude.{Some}
use Rattle.std.specs.Cmp.{booleans_Decides}
use Rattle.cell_grid.specs.Grid.{Owns}
use Rattle.region_view.specs.declared.action.Placed.{Placed}
use Rattle.region_queue.proofs.keys.is_owner_kept.Goals as goal

pub owns-requires-in-Some-clause-cell : goal.owns-requires-in-Some-clause-cell
owns-requires-in-Some-clause-cell c =
    c.requires.ready.valid.cell c.args.disk c.in-Some.placed (sym c.get.ensures ∙ c.in-Some.is)

pub returns-in-Some : goal.returns-in-Some
returns-in-Some c = λ same p row.
    let Owned = Owns c.args.finder.now.grid c.args.finder.now.region in
    let agree : c.owns.result ≡ c.owns-in-Some.result = (booleans_Decides c.owns.result c.owns-in-Some.result).0 same in
    let here : c.in-Some.placed ≡ p = (let e : Some c.in-Some.placed ≡ Some p = sym c.in-Some.is ∙ c.get.ensures ∙ row in cc) in
    subst (λ (q : Placed). Owned c.args.cell ↔ Owned q.cell) here (
      λ owned. c.owns-in-Some.ensures.0 (sym agree ∙ c.owns.ensures.1 owned),
      λ owned. c.owns.ensures.0 (agree ∙ c.owns-in-Some.ensures.1 owned),
    )
