use Rattle.std.proofs.Common.{◌∙◌, ap, rules, List, ℕ, [], ◌∷◌, ◌++◌, append_assoc, w64, FitsSigned}
use Rattle.std.specs.Fmt.{signed_decimal}
use Rattle.std.proofs.lemmas.Int.{to_z-of_z}
use Rattle.text_lines.proofs.TextLine.push_signed_field.Goals as goal

pub returns-clause-after : goal.returns-clause-after
returns-clause-after c =
    let n = signed_decimal c.args.n in
    let fits : FitsSigned w64 c.args.n = search rules in
    let number = simp to_z-of_z at c.push_signed.ensures.after in
    number ∙ ap (λ (l : List ℕ). l ++ n) c.push_byte.ensures.after ∙ append_assoc _ (32 ∷ []) n
