use Rattle.std.proofs.Common.{◌≡◌, ℕ, ◌<◌, ◌≤◌, ltb, true, subst, arith}
use Rattle.std.proofs.lemmas.Bool.Decides.{nat_tests}
use Rattle.local_run.proofs.home.Home.sends_to.Goals as goal

not_below : (m n : ℕ) → n ≤ m → ltb m n ≡ true → ⊥
not_below m n past below = grind (arith, nat_tests)

pub returns-then-to-regions : goal.returns-then-to-regions
returns-then-to-regions c =
    let region = subst (λ (n : ℕ). c.args.to < n) c.regions.ensures.value c.if-to-regions.true in (
      λ linked. (region, c.linked.ensures.0 linked),
      λ sends. c.linked.ensures.1 sends.1,
    )

pub returns-else-to-regions : goal.returns-else-to-regions
returns-else-to-regions c = (
  λ below. absurd (not_below c.args.to c.regions.result c.if-to-regions.false below),
  λ sends.
      let near : c.args.to < c.args.self.now.grid.regions = sends.0 in
      absurd (omega (arith, c.regions.ensures.value, c.if-to-regions.false)),
)
