-- Which regions are linked.
use Rattle.std.proofs.Common.{◌≡◌, inl, inr, ℕ, zero, suc, ◌+◌, ◌-◌, ◌*◌, ◌/◌, ◌%◌, ◌<◌, ◌≤◌, max, min, sym, ◌∙◌, subst, arith, ◌↔◌}
use Rattle.std.proofs.lemmas.Bool.{cases_lt}
use Rattle.std.proofs.Math.Nat.{mul-le-mul, le-div_iff_mul-le}
use Rattle.std.specs.Prelude.{IsTrue, nat_le}
use Rattle.cell_grid.specs.Grid.{GridData, HasSizes, IsRegion, AreLinked, strip_start}
use Rattle.cell_grid.specs.Laws.{LinksAreMutual}
use Rattle.cell_grid.proofs.Strips.{start, starts_rise}

-- starts rise
starts_rise_by : (columns regions k n : ℕ) → 1 ≤ regions → regions ≤ columns →
    start columns regions k + n ≤ start columns regions (k + n)
starts_rise_by columns regions k zero some fits =
    let e : k + 0 ≡ k = omega arith in
    subst (λ (m : ℕ). start columns regions k + 0 ≤ start columns regions m) (sym e) (omega arith)
starts_rise_by columns regions k (suc n) some fits =
    let before = starts_rise_by columns regions k n some fits in
    let one = starts_rise columns regions (k + n) some fits in
    let e : (k + n) + 1 ≡ k + suc n = omega arith in
    subst (λ (m : ℕ). start columns regions k + suc n ≤ start columns regions m) e (omega arith)

-- of two regions in order, the columns that both reach
reaches_meet : (columns regions j k : ℕ) → 1 ≤ regions → regions ≤ columns → j < k → k < regions →
    start columns regions k ≤ start columns regions (j + 1) + 1 →
    (column : ℕ) × (column < columns) × (start columns regions j ≤ column + 1)
    × (column ≤ start columns regions (j + 1)) × (start columns regions k ≤ column + 1)
    × (column ≤ start columns regions (k + 1))
reaches_meet columns regions j k some fits order within near =
    let strip = starts_rise columns regions j some fits in
    let next : start columns regions (j + 1) ≤ start columns regions k = more (j + 1) k (omega arith) in
    let end : start columns regions k < start columns regions (k + 1) = starts_rise columns regions k some fits in
    let all : start columns regions (k + 1) ≤ columns = last (k + 1) (omega arith) in
    (start columns regions k - 1, omega arith, omega arith, omega arith, omega arith, omega arith)
  where
    more : (m n : ℕ) → m ≤ n → start columns regions m ≤ start columns regions n
    more m n le = let e : m + (n - m) ≡ n = omega arith in
        let by = starts_rise_by columns regions m (n - m) some fits in
        let at : start columns regions m + (n - m) ≤ start columns regions n =
        subst (λ (p : ℕ). start columns regions m + (n - m) ≤ start columns regions p) e by in
        omega arith

    last : (n : ℕ) → n ≤ regions → n * columns / regions ≤ columns
    last n le =
        let same : columns ≤ columns = omega arith in
        let room : n * columns ≤ regions * columns = mul-le-mul le same in
        let q = le-div_iff_mul-le {k = regions} {x = columns + 1} {y = n * columns} some in
        elim (cases_lt columns (n * columns / regions)) [
          | inl over ↦ absurd (let far : (columns + 1) * regions ≤ n * columns = q.0 (omega arith) in omega arith)
          | inr le ↦ le
        ]

pub links_are_mutual : LinksAreMutual
links_are_mutual grid j k = (turned j k, turned k j)
  where
    turned : (j k : ℕ) → AreLinked grid j k → AreLinked grid k j
    turned j k h = (λ e. h.0 (sym e), (h.1.0, h.1.1, h.1.3, h.1.2))

-- if one region is before another, they are linked if and only if the second begins at most one column after the first
-- ends
linked_in_order : (grid : GridData) (j k : ℕ) → HasSizes grid → j < k → IsRegion grid k →
    AreLinked grid j k ↔ (strip_start grid k ≤ strip_start grid (j + 1) + 1)
linked_in_order grid j k sizes order within = (
  λ h. let low = h.1.3.0 in let high = h.1.2.1 in omega arith,
  λ near.
      let meet = reaches_meet grid.columns grid.regions j k sizes.regions sizes.fits order within near in
      let same : meet.0 % grid.columns ≡ meet.0 = small meet.0 grid.columns meet.1 in (
        λ e. absurd (omega arith),
        (
          meet.0,
          first_row meet.0 grid.columns grid.rows sizes.rows meet.1,
          rw same (meet.2, meet.3),
          rw same (meet.4, meet.5),
        ),
      ),
)
  where
    small : (n m : ℕ) → n < m → n % m ≡ n
    small n m lt = grind arith

    first_row : (n columns rows : ℕ) → 1 ≤ rows → n < columns → n < rows * columns
    first_row n columns rows some lt =
        let same : columns ≤ columns = omega arith in
        let room : 1 * columns ≤ rows * columns = mul-le-mul some same in
        omega arith

-- the code's test of two different regions
pub linked_tested : (grid : GridData) (a b lower higher end start : ℕ) → HasSizes grid → IsRegion grid a →
    IsRegion grid b → ¬ (a ≡ b) →
    higher ≡ max a b → lower ≡ min a b → start ≡ strip_start grid higher →
    end ≡ strip_start grid (lower + 1) →
    IsTrue (nat_le start (end + 1)) ↔ AreLinked grid a b
linked_tested grid a b lower higher end start sizes first second differ eh el es ee =
    let test = tested start (end + 1) in
    let links = elim (cases_lt a b) as (λ _. AreLinked grid a b ↔ (start ≤ end + 1)) [
      | inl lt ↦ rw (es, ee, eh ∙ greater a b lt, el ∙ lesser a b lt) (linked_in_order grid a b sizes lt second)
      | inr le ↦
          let lt : b < a = omega arith in
          let turn = links_are_mutual grid a b in
          let order = linked_in_order grid b a sizes lt first in
          rw (es, ee, eh ∙ greater_first a b lt, el ∙ lesser_second a b lt) (λ h. order.0 (turn.0 h), λ h. turn.1 (order.1 h))
    ] in
    (λ h. links.1 (test.0 h), λ h. test.1 (links.0 h))
  where
    tested : (m n : ℕ) → IsTrue (nat_le m n) ↔ (m ≤ n)
    tested m n = grind arith

    greater : (m n : ℕ) → m < n → max m n ≡ n
    greater m n lt = grind arith

    lesser : (m n : ℕ) → m < n → min m n ≡ m
    lesser m n lt = grind arith

    greater_first : (m n : ℕ) → n < m → max m n ≡ m
    greater_first m n lt = grind arith

    lesser_second : (m n : ℕ) → n < m → min m n ≡ n
    lesser_second m n lt = grind arith
