use Rattle.std.proofs.Common.{◌≡◌, ℕ, ◌<◌, ◌≤◌, ltb, true, subst, arith}
use Rattle.std.proofs.lemmas.Bool.Decides.{nat_tests}
use Rattle.local_run.proofs.home.Home.hears_of.Goals as goal

not_below : (m n : ℕ) → n ≤ m → ltb m n ≡ true → ⊥
not_below m n past below = grind (arith, nat_tests)

pub returns-then-from-regions : goal.returns-then-from-regions
returns-then-from-regions c =
    let region = subst (λ (n : ℕ). c.args.from < n) c.regions.ensures.value c.if-from-regions.true in (
      λ linked. (region, c.linked.ensures.0 linked),
      λ hears. c.linked.ensures.1 hears.1,
    )

pub returns-else-from-regions : goal.returns-else-from-regions
returns-else-from-regions c = (
  λ below. absurd (not_below c.args.from c.regions.result c.if-from-regions.false below),
  λ hears.
      let near : c.args.from < c.args.self.now.grid.regions = hears.0 in
      absurd (omega (arith, c.regions.ensures.value, c.if-from-regions.false)),
)
