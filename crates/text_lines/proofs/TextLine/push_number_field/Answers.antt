use Rattle.std.proofs.Common.{◌∙◌, ap, List, ℕ, [], ◌∷◌, ◌++◌, append_assoc, decimal}
use Rattle.text_lines.proofs.TextLine.push_number_field.Goals as goal

pub returns-clause-after : goal.returns-clause-after
returns-clause-after c =
    let n = decimal c.args.n in
    c.push_number.ensures.after ∙ ap (λ (l : List ℕ). l ++ n) c.push_byte.ensures.after
    ∙ append_assoc _ (32 ∷ []) n
