-- The greatest code is that of no key.
use Rattle.std.proofs.Common.{ℕ, sym, ap, ◌∙◌}
use Rattle.event_tree.specs.Codes.{key_of}
use Rattle.event_tree.proofs.Codes.{none_key}
use Rattle.event_tree.proofs.code.Code.stamp.Goals as goal

pub returns-then-self-clause-value : goal.returns-then-self-clause-value
returns-then-self-clause-value c = sym (ap (λ (m : ℕ). key_of m) c.if-self.true ∙ none_key) ∙ c.self.view_is
