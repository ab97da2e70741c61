-- The parts of the seats, and what is still found when one view changes.
use Rattle.std.proofs.Common.{◌≡◌, ◌≢◌, ℕ, zero, suc, ◌+◌, ◌≤◌, List, [], ◌∷◌, ◌++◌, ⊎_elim, set, true, false, true≢false, refl, sym, ap, ◌∙◌, subst, arith}
use Rattle.std.specs.Prelude.{Bool, ◌&&◌}
use Rattle.std.specs.List.{list_any}
use Rattle.std.proofs.lemmas.Bool.{or_cases}
use mathlib.Core.Option.{some, some-injective, some-ne-none}
use mathlib.Core.Logic.{dite}
use native.Mathlib.Decide.{ℕ_discrete}
use lib.ListN.{get_elem?}
use Rattle.atomic_table.proofs.Lists.{set_else}
use Rattle.region_table.specs.declared.rule.TableView.{TableView}
use Rattle.region_table.specs.Rule.{no_view, total}
use Rattle.region_table.proofs.Held.{or_left, or_right}

-- ---- one view changes
pub set_there : (views : List TableView) (i : ℕ) (v w : TableView) → get_elem? views i ≡ some v → get_elem? (set views i w) i ≡ some w
set_there [] i v w e = absurd (some-ne-none v (sym e))
set_there (x ∷ xs) zero v w e = refl
set_there (x ∷ xs) (suc i) v w e = set_there xs i v w e

-- a property of the view at a place stays after the change, if the new view has it whenever the old one had
pub moved : (views : List TableView) (id : ℕ) (v w : TableView) (P : TableView → Type 0) → get_elem? views id ≡ some v → (P v → P w)
    → (i : ℕ) (u : TableView) → get_elem? views i ≡ some u → P u → (z : TableView) × (get_elem? (set views id w) i ≡ some z) × P z
moved views id v w P at f i u e p = dite (ℕ_discrete i id)
    (λ same. (w, ap (get_elem? (set views id w)) same ∙ set_there views id v w at, f (subst P (some-injective u v (sym e ∙ (ap (get_elem? views) same ∙ at))) p)))
    (λ other. (u, set_else views id i w other ∙ e, p))

-- ---- parts
pub total_set : (views : List TableView) (i : ℕ) (v w : TableView) → get_elem? views i ≡ some v → total (set views i w) + v.parts ≡ total views + w.parts
total_set [] i v w e = absurd (some-ne-none v (sym e))
total_set (x ∷ xs) zero v w e = let same : x.parts ≡ v.parts = ap (λ (z : TableView). z.parts) (some-injective x v e) in omega (arith, same)
total_set (x ∷ xs) (suc i) v w e = let rest = total_set xs i v w e in omega (arith, rest)

pub total_snoc : (views : List TableView) (w : TableView) → total (views ++ w ∷ []) ≡ total views + w.parts
total_snoc [] w = omega arith
total_snoc (x ∷ xs) w = let rest = total_snoc xs w in omega (arith, rest)

part_of : (views : List TableView) (i : ℕ) (v : TableView) → get_elem? views i ≡ some v → v.parts ≤ total views
part_of [] i v e = absurd (some-ne-none v (sym e))
part_of (x ∷ xs) zero v e = let same : x.parts ≡ v.parts = ap (λ (z : TableView). z.parts) (some-injective x v e) in omega (arith, same)
part_of (x ∷ xs) (suc i) v e = let rest = part_of xs i v e in omega (arith, rest)

pub parts_of_two : (views : List TableView) (i j : ℕ) (v u : TableView) → get_elem? views i ≡ some v → get_elem? views j ≡ some u → j ≢ i → v.parts + u.parts ≤ total views
parts_of_two views i j v u e f other =
    let a = total_set views i v no_view e in
    let b = part_of (set views i no_view) j u (set_else views i j no_view other ∙ f) in
    omega (arith, a, b)

-- ---- notes
pub both_true : (a b : Bool) → a ≡ true → b ≡ true → (a && b) ≡ true
both_true true b e f = f
both_true false b e f = e

module _ {A : Type 0} (f : A → Bool) where
  pub any_left : (xs ys : List A) → list_any f xs ≡ true → list_any f (xs ++ ys) ≡ true
  any_left [] ys e = absurd (true≢false (sym e))
  any_left (x ∷ xs) ys e = ⊎_elim
      (λ (p : f x ≡ true). or_left (f x) (list_any f (xs ++ ys)) p)
      (λ (p : list_any f xs ≡ true). or_right (f x) (list_any f (xs ++ ys)) (any_left xs ys p))
      (or_cases (f x) (list_any f xs) e)

  pub any_right : (xs ys : List A) → list_any f ys ≡ true → list_any f (xs ++ ys) ≡ true
  any_right [] ys e = e
  any_right (x ∷ xs) ys e = or_right (f x) (list_any f (xs ++ ys)) (any_right xs ys e)
