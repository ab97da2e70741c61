use Rattle.std.proofs.Common.{sym, subst}
use Rattle.region_view.specs.Naming.{IsMoved}
use Rattle.region_view.specs.Views.{ViewData}
use Rattle.region_parts.proofs.Results.{on_ok}
use Rattle.region_core.proofs.Tests.{set_differs}
use Rattle.region_core.proofs.weaving.tell_of.Goals as goal

pub returns-in-Some-clause-stands : goal.returns-in-Some-clause-stands
returns-in-Some-clause-stands c = on_ok c.crossed.result _ _
    (λ stands. λ was here set before. stands was here
    (subst (λ (v : ViewData). IsMoved c.in-Some.disk was v) (sym set) (c.in-Some.ensures was before)))
    c.crossed.ensures.stands

pub returns-in-None-clause-stands : goal.returns-in-None-clause-stands
returns-in-None-clause-stands c = on_ok c.touch.result _ _
    (λ stands. λ was here set before. stands was here (set_differs was c.args.view.now c.args.rows.now set))
    c.touch.ensures.stands
