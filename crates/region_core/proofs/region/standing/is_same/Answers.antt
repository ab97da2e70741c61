use Rattle.std.proofs.Common.{◌≡◌, Option, Some, None, Decides, sym, ap, ◌∙◌, refl}
use Rattle.std.specs.Option.{option_eq}
use Rattle.std.proofs.lemmas.Bool.Decides.{Decides-like}
use Rattle.region_view.specs.declared.action.Placed.{Placed}
use Rattle.region_view.proofs.SamePlaced.{placed_eq, placed_decides}
use Rattle.region_core.proofs.region.standing.is_same.Goals as goal

option_decides : (o p : Option Placed) → Decides (option_eq placed_eq o p) (o ≡ p)
option_decides None None = (λ e. refl, λ e. refl)
option_decides None (Some q) = (λ e. cc, λ e. cc)
option_decides (Some p) None = (λ e. cc, λ e. cc)
option_decides (Some p) (Some q) = Decides-like (placed_eq p q)
    (λ e. ap (λ (v : Placed). Some v) e) (λ e. cc) (placed_decides p q)

pub returns : goal.returns
returns c =
    let decides = option_decides c.args.row c.copied.result in (
      λ same. decides.0 (sym c.eq.ensures ∙ same) ∙ c.copied.ensures,
      λ same. c.eq.ensures ∙ decides.1 (same ∙ sym c.copied.ensures),
    )
