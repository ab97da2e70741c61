-- The node of the disk says in which cell it is listed.
use Rattle.std.proofs.Common.{◌≡◌, ◌≤◌, List, length, get_or, arith, sym, ap, subst, ◌∙◌}
use Rattle.std.proofs.lemmas.Bool.{ltb-false}
use Rattle.std.proofs.lemmas.List.{get_or_past}
use Rattle.cell_lists.specs.declared.chains.Node.{Node}
use Rattle.cell_lists.proofs.Nodes.{unlisted, cell_got}
use Rattle.cell_lists.proofs.chains.Chains.cell_of.Goals as goal

pub returns : goal.returns
returns c =
    let nodes = c.self.inside.nodes.items in
    let disk = c.args.disk in
    let node = c.in_ok-get.field-0.now in
    let same : disk ≤ disk = omega arith in
    let is : node ≡ get_or nodes disk unlisted =
    rw c.in_ok-get.was at (c.get.ensures.lookup.4 same unlisted) ∙ ap (λ (xs : List Node). get_or xs disk unlisted) c.deref.ensures.value in
    c.get-2.ensures.value ∙ cell_got (length c.self.inside.heads.items) nodes c.args.self.now disk node c.self.view_is is

pub returns-in_err-get : goal.returns-in_err-get
returns-in_err-get c =
    let nodes = c.self.inside.nodes.items in
    let past : length nodes ≤ c.args.disk =
    subst (λ (xs : List Node). length xs ≤ c.args.disk) c.deref.ensures.value (ltb-false c.args.disk _ (sym c.in_err-get.ensures.lookup.0)) in
    c.from_residual.ensures
    ∙ cell_got (length c.self.inside.heads.items) nodes c.args.self.now c.args.disk unlisted c.self.view_is
    (sym (get_or_past nodes c.args.disk unlisted past))
