-- The sizes of checked rules fit the code's numbers.
use Rattle.std.proofs.Common.{◌≡◌, ◌∙◌, ℕ, ◌+◌, ◌*◌, ◌/◌, ◌^◌, ◌≤◌, min, refl, ap, sym, subst, ℤ, nat_abs, ◌+ℤ◌, ◌*ℤ◌, ◌≤ℤ◌, pos, w32, w64, FitsSigned, arith}
use lib.Dec.{T}
use lib.Signed.{non_neg}
use mir.Val.{Fits}
use Rattle.std.proofs.Math.Nat.{div-le_self}
use Rattle.std.proofs.lemmas.Int.{ints}
use Rattle.plane_vectors.proofs.Sizes.{sent, sent_same}
use Rattle.fixed_motion.specs.declared.rules.Rules.{Rules}
use Rattle.fixed_motion.specs.Rules.{IsChecked}
use Rattle.cell_grid.specs.Grid.{HasSizes, cells_along, least_side, reciprocal_of}
use Rattle.cell_grid.proofs.Courses.{cast_fits}
use Rattle.cell_grid.proofs.Cells.{grid_made, sound_of}
use Rattle.cell_grid.proofs.grid.Grid.new.Goals as goal

width_sent : (rules : Rules) → IsChecked rules → nat_abs (sent rules.width) ≡ nat_abs rules.width
width_sent rules checked = let least = checked.width.0 in let most = checked.width.1 in ap nat_abs (sent_same rules.width (omega (arith, ints)))

height_sent : (rules : Rules) → IsChecked rules → nat_abs (sent rules.height) ≡ nat_abs rules.height
height_sent rules checked = let least = checked.height.0 in let most = checked.height.1 in ap nat_abs (sent_same rules.height (omega (arith, ints)))

-- the least side as the code computes it
record IsLeast (d v : ℤ) : Type 0 where
  pub fits : FitsSigned w64 (sent d +ℤ sent (pos 2 *ℤ sent v))
  pub cast : T (non_neg (sent (sent d +ℤ sent (pos 2 *ℤ sent v))))
      × Fits w32 (nat_abs (sent (sent d +ℤ sent (pos 2 *ℤ sent v))))
  pub is : nat_abs (sent (sent d +ℤ sent (pos 2 *ℤ sent v))) ≡ nat_abs d + 2 * nat_abs v
  pub some : 1 ≤ nat_abs (sent (sent d +ℤ sent (pos 2 *ℤ sent v)))

least_is : (d v sum : ℤ) → sum ≡ d +ℤ (pos 2 *ℤ v) → FitsSigned w64 d → FitsSigned w64 v → FitsSigned w64 (pos 2 *ℤ v) →
    FitsSigned w64 sum → pos 1 ≤ℤ sum → nat_abs sum ≤ 2 ^ 31 → nat_abs sum ≡ nat_abs d + 2 * nat_abs v → IsLeast d v
least_is d v sum e fd fv ft fs some most size =
    let same : sent d +ℤ sent (pos 2 *ℤ sent v) ≡ sum =
    (λ i. sent_same d fd i +ℤ sent (pos 2 *ℤ sent_same v fv i))
    ∙ ap (λ (n : ℤ). d +ℤ n) (sent_same (pos 2 *ℤ v) ft) ∙ sym e in
    let all : sent (sent d +ℤ sent (pos 2 *ℤ sent v)) ≡ sum = ap sent same ∙ sent_same sum fs in
    record {
      fits = subst (FitsSigned w64) (sym same) fs;
      cast = subst (λ (n : ℤ). T (non_neg (sent n)) × Fits w32 (nat_abs (sent n))) (sym same)
          (cast_fits sum (positive sum some) most);
      is = ap nat_abs all ∙ size;
      some = subst (λ (n : ℤ). 1 ≤ nat_abs n) (sym all) (counts sum some);
    }
  where
    positive : (n : ℤ) → pos 1 ≤ℤ n → pos 0 ≤ℤ n
    positive n h = omega (arith, ints)

    counts : (n : ℤ) → pos 1 ≤ℤ n → 1 ≤ nat_abs n
    counts n h = omega (arith, ints)

least_sum : (d v : ℤ) → pos 2 ≤ℤ d → d ≤ℤ pos 1073741824 → pos 1 ≤ℤ v → v ≤ℤ pos 1048576 → IsLeast d v
least_sum d v least most slowest fastest =
    least_is d v (d +ℤ (pos 2 *ℤ v)) refl (omega (arith, ints)) (omega (arith, ints)) (omega (arith, ints))
    (omega (arith, ints)) (omega (arith, ints)) (omega (arith, ints)) (omega (arith, ints))

at_most : (m n : ℤ) → m ≤ℤ n → n ≤ℤ pos 1073741824 → m ≤ℤ pos 1073741824
at_most m n h k = omega (arith, ints)

least_of : (rules : Rules) → IsChecked rules → IsLeast rules.diameter rules.speed_limit
least_of rules checked =
    least_sum rules.diameter rules.speed_limit checked.diameter.0
    (at_most rules.diameter rules.width checked.diameter.1 checked.width.1) checked.speed_limit.0 checked.speed_limit.1

pub overflow_add-least : goal.overflow_add-least
overflow_add-least c = (least_of c.args.rules.now c.requires.checked).fits

pub overflow_cast-least : goal.overflow_cast-least
overflow_cast-least c = (least_of c.args.rules.now c.requires.checked).cast

pub cells_along-columns-requires : goal.cells_along-columns-requires
cells_along-columns-requires c = (least_of c.args.rules.now c.requires.checked).some

pub cells_along-rows-requires : goal.cells_along-rows-requires
cells_along-rows-requires c = (least_of c.args.rules.now c.requires.checked).some

pub returns-clause-value : goal.returns-clause-value
returns-clause-value c =
    let rules = c.args.rules.now in
    let checked = c.requires.checked in
    grid_made rules c.args.regions _ _ _ c.cells_along-columns.result c.cells_along-rows.result c.min.result
    (width_sent rules checked) (height_sent rules checked) (least_of rules checked).is
    c.cells_along-columns.ensures c.cells_along-rows.ensures c.min.ensures

pub returns-clause-of_rules : goal.returns-clause-of_rules
returns-clause-of_rules c = (c.args.regions, c.requires.asked, returns-clause-value c)

-- the sides of a cell as the code computes them
record AreSides (x y : ℕ) : Type 0 where
  pub some_x : 1 ≤ x
  pub some_y : 1 ≤ y
  pub most_x : x ≤ 2 ^ 30
  pub most_y : y ≤ 2 ^ 30

sides_made : (rules : Rules) (width height least columns rows : ℕ) → IsChecked rules → width ≡ nat_abs rules.width →
    height ≡ nat_abs rules.height → least ≡ least_side rules → columns ≡ cells_along width least →
    rows ≡ cells_along height least → AreSides (width / columns) (height / rows)
sides_made rules width height least columns rows checked ew eh el ec er =
    let made = grid_made rules 1 width height least columns rows (min 1 columns) ew eh el ec er refl in
    let sizes = subst HasSizes (sym made) (sound_of rules 1 checked (omega arith) (omega arith)).sizes in
    let wide = checked.width.1 in
    let high = checked.height.1 in
    let across : width / columns ≤ width = div-le_self width columns in
    let upwards : height / rows ≤ height = div-le_self height rows in
    let most_width : width ≤ 2 ^ 30 = rw ew (omega (arith, ints)) in
    let most_height : height ≤ 2 ^ 30 = rw eh (omega (arith, ints)) in
    record { some_x = sizes.side_x; some_y = sizes.side_y; most_x = omega arith; most_y = omega arith }

pub nonzero_div-result-2 : goal.nonzero_div-result-2
nonzero_div-result-2 c =
    let rules = c.args.rules.now in
    let checked = c.requires.checked in
    let sides = sides_made rules _ _ _ c.cells_along-columns.result c.cells_along-rows.result checked
    (width_sent rules checked) (height_sent rules checked) (least_of rules checked).is
    c.cells_along-columns.ensures c.cells_along-rows.ensures in
    omega (arith, sides.some_x, c.from-2.ensures)

pub nonzero_div-result-3 : goal.nonzero_div-result-3
nonzero_div-result-3 c =
    let rules = c.args.rules.now in
    let checked = c.requires.checked in
    let sides = sides_made rules _ _ _ c.cells_along-columns.result c.cells_along-rows.result checked
    (width_sent rules checked) (height_sent rules checked) (least_of rules checked).is
    c.cells_along-columns.ensures c.cells_along-rows.ensures in
    omega (arith, sides.some_y, c.from-3.ensures)

pub invariant_of-result : goal.invariant_of-result
invariant_of-result c =
    let rules = c.args.rules.now in
    let checked = c.requires.checked in
    let sides = sides_made rules _ _ _ c.cells_along-columns.result c.cells_along-rows.result checked
    (width_sent rules checked) (height_sent rules checked) (least_of rules checked).is
    c.cells_along-columns.ensures c.cells_along-rows.ensures in
    record {
      sizes = subst HasSizes (sym (returns-clause-value c))
          (sound_of rules c.args.regions checked c.requires.asked.0 c.requires.asked.1).sizes;
      most_x = sides.most_x;
      most_y = sides.most_y;
      columns = ap (reciprocal_of (2 ^ 32)) c.from.ensures;
      x = ap (reciprocal_of (2 ^ 62)) c.from-2.ensures;
      y = ap (reciprocal_of (2 ^ 62)) c.from-3.ensures;
    }
