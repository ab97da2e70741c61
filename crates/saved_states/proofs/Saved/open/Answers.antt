use Rattle.std.proofs.Common.{[], ◌∷◌, sym, ap, ◌∙◌, subst}
use Rattle.region_view.specs.Views.{ViewData}
use Rattle.saved_states.specs.Steps.{RiseAfter, rebuilt}
use Rattle.saved_states.proofs.Saved.open.Goals as goal

pub returns : goal.returns
returns c =
    ap (rebuilt c.args.position c.in_ok-copy.field-0) c.new.ensures.items
    ∙ ap (λ (v : ViewData). (c.args.position, v) ∷ []) c.in_ok-copy.ensures

pub invariant_of-result : goal.invariant_of-result
invariant_of-result c = subst (RiseAfter c.args.position) (sym c.new.ensures.items) tt
