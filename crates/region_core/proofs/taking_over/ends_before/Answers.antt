use Rattle.std.proofs.Common.{◌∙◌, sym, refl}
use Rattle.region_core.proofs.News.{none_there, ends_there}
use Rattle.region_core.proofs.taking_over.ends_before.Goals as goal

pub returns-in-Some : goal.returns-in-Some
returns-in-Some c = λ floor log rises last.
    ends_there floor c.args.at c.in-Some.stamp log c.is_before.result rises (sym c.in-Some.is ∙ last) c.is_before.ensures

pub returns-in-None : goal.returns-in-None
returns-in-None c = λ floor log rises last.
    (λ h. none_there c.args.at log (sym c.in-None.is ∙ last), λ e. refl)
