use Rattle.std.proofs.Common.{◌∙◌, ap, List, ℕ, [], ◌∷◌, ◌++◌, append_assoc}
use Rattle.text_lines.proofs.TextLine.push_text_field.Goals as goal

pub returns-clause-after : goal.returns-clause-after
returns-clause-after c =
    let text = c.args.text.now in
    c.push_text.ensures.after ∙ ap (λ (l : List ℕ). l ++ text) c.push_byte.ensures.after
    ∙ append_assoc _ (32 ∷ []) text
