use Rattle.std.proofs.Common.{inl, inr, ℕ, sym, subst, ◌∙◌}
use Rattle.std.specs.List.{Contains}
use Rattle.std.proofs.lemmas.Bool.{false≢true}
use Rattle.region_view.specs.Setting.{numbers_of}
use Rattle.region_parts.proofs.aside.names_any.Goals as goal

pub returns-then-has_row : goal.returns-then-has_row
returns-then-has_row c = λ off. absurd (false≢true (sym off ∙ c.if-has_row.true))

pub returns-then-eq : goal.returns-then-eq
returns-then-eq c = λ off i named. elim named [
  | inl first ↦ subst (λ (n : ℕ). ¬ Contains (numbers_of c.args.rows.now) n) first
      (c.has_row.ensures c.if-has_row.false)
  | inr second ↦ subst (λ (n : ℕ). ¬ Contains (numbers_of c.args.rows.now) n) second.1
      (c.has_row-then-eq.ensures off)
]
