-- The strip is that between two starts.
use Rattle.std.proofs.Common.{◌≡◌, ◌↔◌, ℕ, ◌+◌, ◌≤◌, arith}
use Rattle.std.specs.Prelude.{IsTrue, nat_le}
use Rattle.std.proofs.lemmas.Bool.{leb-true, le-leb}
use Rattle.cell_grid.proofs.grid.Grid.in_reach.Goals as goal

near_tested : (first column its end low high : ℕ) → first ≡ low → end ≡ high → column ≡ its → first ≤ column + 1 →
    IsTrue (nat_le column end) ↔ ((low ≤ its + 1) × (its ≤ high))
near_tested first column its end low high p q e near = (
  λ yes. let le = leb-true column end yes in (omega (arith, p, e, near), omega (arith, q, e, le)),
  λ h. le-leb column end (omega (arith, q, e, h.1)),
)

pub returns-then-strip-column : goal.returns-then-strip-column
returns-then-strip-column c =
    let strip = c.strip-strip.ensures.strip in
    near_tested _ _ _ _ _ _ strip.first strip.end c.column-column.ensures.value c.if-strip-column.true

pub returns-else-strip-column : goal.returns-else-strip-column
returns-else-strip-column c =
    let strip = c.strip-strip.ensures.strip in
    let column = c.column-column.ensures.value in (
      λ yes. absurd (let le = leb-true c.strip-strip.result.first _ yes in omega (arith, le, c.if-strip-column.false)),
      λ h. absurd (omega (arith, strip.first, column, c.if-strip-column.false, h.0)),
    )
