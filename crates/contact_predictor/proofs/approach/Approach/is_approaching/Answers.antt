-- Each of the two tests is exact.
use Rattle.std.proofs.Common.{rules, refl, sym, ◌∙◌}
use Rattle.std.proofs.lemmas.Bool.{false≢true}
use Rattle.contact_predictor.proofs.Signs.{negative, not_negative}
use Rattle.contact_predictor.proofs.approach.Approach.is_approaching.Goals as goal

pub returns-then-self-ge0 : goal.returns-then-self-ge0
returns-then-self-ge0 c =
    let apart = not_negative c.args.self.gap c.args.self.gap (search rules) refl in
    let nearing = negative c.args.self.closing c.args.self.closing (search rules) refl in
    (λ yes. (apart.0 c.if-self-ge0.true, nearing.0 yes), λ h. nearing.1 h.1)

pub returns-else-self-ge0 : goal.returns-else-self-ge0
returns-else-self-ge0 c =
    let apart = not_negative c.args.self.gap c.args.self.gap (search rules) refl in
    (λ yes. absurd (false≢true (sym c.if-self-ge0.false ∙ yes)), λ h. apart.1 h.0)
