-- No disk is listed.
use Rattle.std.proofs.Common.{◌≡◌, ◌∙◌, sym, ap}
use Rattle.std.specs.Prelude.{None}
use Rattle.std.proofs.lemmas.Option.{none-some}
use Rattle.cell_lists.specs.Chain.{ChainsData, at, cells_in}
use Rattle.cell_lists.specs.Listing.{lists_of}
use Rattle.cell_lists.proofs.Chaining.{at_none}
use Rattle.cell_lists.proofs.lists.Lists.new.Goals as goal

pub returns : goal.returns
returns c = ap (λ (d : ChainsData). lists_of c.args.grid.now (cells_in d.cells)) c.in_ok-new.ensures

pub invariant_of-result : goal.invariant_of-result
invariant_of-result c = λ disk cell here.
    let none : at c.in_ok-new.field-0.cells disk ≡ None = ap (λ (d : ChainsData). at d.cells disk) c.in_ok-new.ensures ∙ at_none 1 disk in
    absurd (none-some cell (sym none ∙ here))
