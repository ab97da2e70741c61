use Rattle.std.proofs.Common.{◌∙◌, List, ℕ, [], ◌∷◌, ◌++◌, append_assoc, ap}
use Rattle.std.specs.Prelude.{codes}
use Rattle.program_modes.proofs.verdicts.push_nothing.Goals as goal

pub returns : goal.returns
returns c =
    c.push_newline.ensures.after ∙ ap (λ (l : List ℕ). l ++ 10 ∷ []) c.push_text.ensures.after
    ∙ append_assoc c.args.text.now (codes "expected nothing") (10 ∷ [])
