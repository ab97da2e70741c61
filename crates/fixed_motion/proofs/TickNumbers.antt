-- The sooner of two numbers of ticks.
use Rattle.std.proofs.Common.{◌≡◌, ◌↔◌, ℕ, refl, sym, subst}
use Rattle.std.specs.Prelude.{Option, Some, None, IsNone}
use Rattle.fixed_motion.specs.Ticks.{sooner_of}

-- there is none exactly where neither is there
pub none_sooner : (first second sooner : Option ℕ) → sooner ≡ sooner_of first second →
    IsNone sooner ↔ (IsNone first × IsNone second)
none_sooner first second sooner is =
    subst (λ (o : Option ℕ). IsNone o ↔ (IsNone first × IsNone second)) (sym is) (by_both first second)
  where
    by_both : (o p : Option ℕ) → IsNone (sooner_of o p) ↔ (IsNone o × IsNone p)
    by_both None p = (λ none. (refl, none), λ none. none.1)
    by_both (Some m) None = (λ none. (none, refl), λ none. none.0)
    by_both (Some m) (Some n) = (λ none. (none, none), λ none. none.0)
