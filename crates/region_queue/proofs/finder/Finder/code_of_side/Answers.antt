-- The disk has one row.
use Rattle.std.proofs.Common.{◌≡◌, sym, subst, ◌∙◌}
use Rattle.std.specs.Prelude.{Some}
use Rattle.event_stamps.specs.Least.{IsLeastOf}
use Rattle.event_tree.specs.Keys.{Key}
use Rattle.region_view.specs.declared.action.Placed.{Placed}
use Rattle.region_view.specs.Events.{IsAlone}
use Rattle.region_view.specs.Views.{rows_in}
use Rattle.region_queue.proofs.Low.{coded}
use Rattle.region_queue.proofs.finder.Finder.code_of_side.Goals as goal

pub first_side-requires-clause-stays : goal.first_side-requires-clause-stays
first_side-requires-clause-stays c = c.requires.stays c.in_ok-placed.placed (sym c.in_ok-placed.ensures)

pub returns : goal.returns
returns c =
    let Alone : Placed → Key → Type 0 = λ p key. IsLeastOf (IsAlone c.args.self.now.rules c.args.self.now.grid c.args.disk p) key in
    coded (λ key. (p : Placed) → rows_in c.args.view.now c.args.disk ≡ Some p → Alone p key) c.of.result c.first_side.result c.of.ensures
    (λ p at.
    let same : Some c.in_ok-placed.placed ≡ Some p = c.in_ok-placed.ensures ∙ at in
    let is : c.in_ok-placed.placed ≡ p = (let e = same in cc) in
    subst (λ (q : Placed). Alone q c.first_side.result) is c.first_side.ensures)
