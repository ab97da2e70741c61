use Rattle.std.proofs.Common.{◌∙◌, ap, rules, List, ℕ, ◌∷◌, ◌++◌, append_assoc, w64, FitsSigned}
use Rattle.std.specs.Fmt.{signed_decimal}
use Rattle.std.proofs.lemmas.Int.{to_z-of_z}
use Rattle.text_lines.proofs.TextLine.push_signed_pair.Goals as goal

pub returns-clause-after : goal.returns-clause-after
returns-clause-after c =
    let x = 32 ∷ signed_decimal c.args.x in
    let y = 32 ∷ signed_decimal c.args.y in
    let x_fits : FitsSigned w64 c.args.x = search rules in
    let y_fits : FitsSigned w64 c.args.y = search rules in
    let first = simp to_z-of_z at c.push_signed_field.ensures.after in
    let second = simp to_z-of_z at c.push_signed_field-2.ensures.after in
    second ∙ ap (λ (l : List ℕ). l ++ y) first ∙ append_assoc _ x y
