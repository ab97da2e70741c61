use Rattle.std.proofs.Common.{◌≡◌, ◌≢◌, ℕ, zero, suc, ◌+◌, ◌<◌, ◌∙◌, [], ◌∷◌, length, get_or, take, ap, subst, sym, refl, arith, Option, Some, None, MatchOption}
use Rattle.region_view.specs.declared.action.Placed.{Placed}
use Rattle.region_view.specs.Setting.{RowList, get_over}
use Rattle.saved_states.proofs.First.{over_here, over_elsewhere}
use Rattle.saved_states.proofs.row_set.Goals as goal
use Rattle.saved_states.proofs.row_set.Goals.{then-row-disk, else-row-disk}

-- what the rows up to one set at a number
abbrev IsSet : RowList → ℕ → ℕ → Option (Option Placed) → Type 0
IsSet rows k i found = (before : Option Placed) → MatchOption found (get_over (take k rows) i before ≡ before)
    (λ row. get_over (take k rows) i before ≡ row)

set_still : (rows : RowList) (k i : ℕ) (row : ℕ × Option Placed) (found : Option (Option Placed)) →
    k < length rows → row ≡ get_or rows k row → row.0 ≢ i → IsSet rows k i found → IsSet rows (k + 1) i found
set_still rows k i row None lt is other set before =
    over_elsewhere rows k row i before lt is other ∙ set before
set_still rows k i row (Some r) lt is other set before =
    over_elsewhere rows k row i before lt is other ∙ set before

any_default : (rows : RowList) (k : ℕ) (d e : ℕ × Option Placed) → k < length rows →
    get_or rows k d ≡ get_or rows k e
any_default [] k d e lt = absurd (omega arith)
any_default (row ∷ rows) zero d e lt = refl
any_default (row ∷ rows) (suc k) d e lt = any_default rows k d e (omega arith)

-- one of the rows, as it is read
read_at : (slice rows : RowList) (k : ℕ) (d : ℕ × Option Placed) → slice ≡ rows → k < length slice →
    get_or slice k d ≡ get_or rows k (get_or slice k d)
read_at slice rows k d same lt =
    any_default slice k d (get_or slice k d) lt ∙ ap (λ (v : RowList). get_or v k (get_or slice k d)) same

pub loop-row-preserved : goal.loop-row-preserved
loop-row-preserved c =
    let rows = c.args.rows.now in
    let slice = c.as_slice-row-items.result.now in
    let k = c.loop-row.row-index in
    let row = get_or slice k (0, None) in
    let same = c.as_slice-row-items.ensures.value in
    let is = read_at slice rows k (0, None) same c.loop-row-test.true in
    let lt = subst (λ (v : RowList). k < length v) same c.loop-row-test.true in
    elim c.if-row-disk.branch [
      | then-row-disk w ↦ subst (IsSet rows (k + 1) c.args.disk) (sym w.found-is)
          (λ before. over_here rows k row c.args.disk before lt is w.if-row-disk.true)
      | else-row-disk w ↦ subst (IsSet rows (k + 1) c.args.disk) (sym w.found-is)
          (set_still rows k c.args.disk row c.loop-row.found lt is w.if-row-disk.false c.loop-row.invariant)
    ]
