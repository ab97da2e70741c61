-- The higher region begins at most one column after the lower ends.
use Rattle.std.proofs.Common.{◌≡◌, ℕ, not, eqb, IsTrue, arith}
use Rattle.std.proofs.lemmas.Bool.Decides.{nat_tests}
use Rattle.cell_grid.proofs.Links.{linked_tested}
use Rattle.cell_grid.proofs.grid.Grid.linked.Goals as goal

pub returns-then-a-b : goal.returns-then-a-b
returns-then-a-b c =
    linked_tested c.args.self.now c.args.a c.args.b c.min.result c.max.result c.strip_start-then-a-b.result c.strip_start.result
    c.strip_start.ensures.kept c.requires.first c.requires.second c.if-a-b.true c.max.ensures c.min.ensures
    c.strip_start.ensures.value c.strip_start-then-a-b.ensures.value

no_other : (a b : ℕ) → a ≡ b → IsTrue (not (eqb a b)) → ⊥
no_other a b same other = grind (arith, nat_tests)

pub returns-else-a-b : goal.returns-else-a-b
returns-else-a-b c =
    (λ other. absurd (no_other c.args.a c.args.b c.if-a-b.false other), λ linked. absurd (linked.0 c.if-a-b.false))
