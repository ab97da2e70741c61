-- Each step keeps the board's rule.
use Rattle.std.proofs.Common.{◌≡◌, ◌≢◌, ℕ, zero, suc, List, [], ◌∷◌, ◌++◌, set, true, false, true≢false, refl, sym, ap, ◌∙◌, subst, ⊎_elim, append_assoc, append-nil, arith}
use mathlib.Core.Option.{some, some-ne-none, some-injective}
use lib.ListN.{get_elem?}
use Rattle.crossbeam_utils.specs.Register.{Turns, Forks, Merges}
use Rattle.atomic_table.proofs.Lists.{at_set, at_snoc, set_again}
use Rattle.live_progress.specs.declared.board.Progress.{Progress}
use Rattle.live_progress.specs.declared.rule.BoardView.{BoardView}
use Rattle.live_progress.specs.Lists.{progress, last_from, last_of, IsNoLess, NeverFallsAfter, StartsWith}
use Rattle.live_progress.specs.Rule.{pen_of, glass_of, words_of, FitsBoard, IsShown, Publishing, Looking, Checking, told_of}

pub last_from-push : (p : Progress) (xs : List Progress) (x : Progress) → last_from p (xs ++ x ∷ []) ≡ x
last_from-push p [] x = refl
last_from-push p (y ∷ xs) x = last_from-push y xs x

rises_push : (p : Progress) (xs : List Progress) (x : Progress) → NeverFallsAfter p xs → IsNoLess (last_from p xs) x → NeverFallsAfter p (xs ++ x ∷ [])
rises_push p [] x rises more = (more, tt)
rises_push p (y ∷ xs) x rises more = (rises.0, rises_push y xs x rises.1 more)

no_less_than_last : (p : Progress) (xs : List Progress) → NeverFallsAfter p xs → IsNoLess p (last_from p xs)
no_less_than_last p [] rises = (omega arith, omega arith)
no_less_than_last p (x ∷ xs) rises =
    let rest = no_less_than_last x xs rises.1 in let here = rises.0 in
    let e0 = here.0 in let e1 = here.1 in let r0 = rest.0 in let r1 = rest.1 in
    (omega arith, omega arith)

-- the last pair of a beginning is no more than that of the whole
no_less_later : (p : Progress) (xs ys : List Progress) → NeverFallsAfter p (xs ++ ys) → IsNoLess (last_from p xs) (last_from p (xs ++ ys))
no_less_later p [] ys rises = no_less_than_last p ys rises
no_less_later p (x ∷ xs) ys rises = no_less_later x xs ys rises.1

no_less_seen : (list seen : List Progress) → NeverFallsAfter (progress 0 0) list → StartsWith list seen → IsNoLess (last_of seen) (last_of list)
no_less_seen list seen rises s =
    subst (λ (l : List Progress). IsNoLess (last_of seen) (last_of l)) (sym s.1)
    (no_less_later (progress 0 0) seen s.0 (subst (NeverFallsAfter (progress 0 0)) s.1 rises))

-- a longer list begins with what the shorter began with
longer : (list more seen : List Progress) → StartsWith list seen → StartsWith (list ++ more) seen
longer list more seen s = (s.0 ++ more, ap (λ l. l ++ more) s.1 ∙ append_assoc seen s.0 more)

whole : (list : List Progress) → StartsWith list list
whole list = ([], sym (append-nil list))

nothing : (list : List Progress) → StartsWith list []
nothing list = (list, refl)

off : false ≡ true → ⊥
off e = true≢false (sym e)

-- one view is set, and fits
fits_set : (seat : ℕ) (list : List Progress) (views : List BoardView) (by : ℕ) (w : BoardView) →
    ((j : ℕ) (u : BoardView) → j ≢ by → get_elem? views j ≡ some u → FitsBoard seat list j u) → FitsBoard seat list by w →
    (j : ℕ) (u : BoardView) → get_elem? (set views by w) j ≡ some u → FitsBoard seat list j u
fits_set seat list views by w others mine j u e =
    ⊎_elim
    (λ (x : (j ≡ by) × (w ≡ u)). subst (λ (y : ℕ × BoardView). FitsBoard seat list y.0 y.1) (λ i. (sym x.0 i, x.1 i)) mine)
    (λ (x : (j ≢ by) × (get_elem? views j ≡ some u)). others j u x.0 x.1)
    (at_set views by j w u e)

pub begins : IsShown (0 ∷ 0 ∷ []) (pen_of [] ∷ [])
begins = (0, [], record { shows = refl; rises = tt; fits = one })
  where
    one : (by : ℕ) (v : BoardView) → get_elem? (pen_of [] ∷ []) by ≡ some v → FitsBoard 0 [] by v
    one zero v e = subst (FitsBoard 0 [] 0) (some-injective _ _ e) ((λ _. (refl, refl)), whole [], whole [])
    one (suc by) v e = absurd (some-ne-none v (sym e))

pub publishes : (by : ℕ) (v : BoardView) (a b : ℕ) → v.writes ≡ true → IsNoLess (last_of v.list) (progress a b) →
    Turns IsShown by v (λ _. a ∷ b ∷ []) Publishing
publishes by v a b writes more words views h at =
    let fits = h.2.fits in
    let mine = fits by v at in
    let known = mine.0 writes in
    let list : List Progress = h.1 ++ progress a b ∷ [] in
    let w : BoardView = record { writes = v.writes; list = v.list ++ progress a b ∷ []; told = v.told } in
    let same : w.list ≡ list = ap (λ l. l ++ progress a b ∷ []) known.1 in (
      w,
      (
        h.0,
        list,
        record {
          shows = sym (ap words_of (last_from-push (progress 0 0) h.1 (progress a b)));
          rises = rises_push (progress 0 0) h.1 (progress a b) h.2.rises
              (subst (λ (l : List Progress). IsNoLess (last_of l) (progress a b)) known.1 more);
          fits = fits_set h.0 list views by w
              (λ j u apart e. (
                (λ k. absurd (apart (((fits j u e).0 k).0 ∙ sym known.0))),
                longer h.1 (progress a b ∷ []) u.list (fits j u e).1,
                longer h.1 (progress a b ∷ []) u.told (fits j u e).2,
              ))
              ((λ _. (known.0, same)), subst (λ l. StartsWith list l) (sym same) (whole list), longer h.1 (progress a b ∷ []) v.told mine.2);
        },
      ),
      refl,
    )

pub looks : (by : ℕ) (v : BoardView) → v.writes ≡ false → Turns IsShown by v (λ x. x) Looking
looks by v glass words views h at =
    let fits = h.2.fits in
    let mine = fits by v at in
    let w : BoardView = record { writes = v.writes; list = h.1; told = v.told } in (
      w,
      (
        h.0,
        h.1,
        record {
          shows = h.2.shows;
          rises = h.2.rises;
          fits = fits_set h.0 h.1 views by w (λ j u apart e. fits j u e) ((λ k. absurd (off (sym glass ∙ k))), whole h.1, mine.2);
        },
      ),
      (refl, mine.1, h.2.shows, no_less_seen h.1 v.list h.2.rises mine.1),
    )

pub copies : (by : ℕ) (v : BoardView) → Forks IsShown by v v (glass_of v.list)
copies by v words views h at = let fits = h.2.fits in (
  h.0,
  h.1,
  record {
    shows = h.2.shows;
    rises = h.2.rises;
    fits = λ j u e. ⊎_elim
        (λ was. fits j u (subst (λ l. get_elem? l j ≡ some u) (set_again views by v at) was))
        (λ (same : glass_of v.list ≡ u). subst (FitsBoard h.0 h.1 j) same ((λ k. absurd (off k)), (fits by v at).1, nothing h.1))
        (at_snoc (set views by v) (glass_of v.list) u j e);
  },
)

-- a glass's view goes to another pass
pub leaves : (by : ℕ) (v : BoardView) → v.writes ≡ false → Forks IsShown by v (glass_of []) v
leaves by v glass words views h at = let fits = h.2.fits in (
  h.0,
  h.1,
  record {
    shows = h.2.shows;
    rises = h.2.rises;
    fits = λ j u e. ⊎_elim
        (λ was. fits_set h.0 h.1 views by (glass_of []) (λ i y apart e'. fits i y e') ((λ k. absurd (off k)), nothing h.1, nothing h.1) j u was)
        (λ (same : v ≡ u). subst (FitsBoard h.0 h.1 j) same ((λ k. absurd (off (sym glass ∙ k))), (fits by v at).1, (fits by v at).2))
        (at_snoc (set views by (glass_of [])) v u j e);
  },
)

-- the pen is told what a glass has seen
pub takes_in : (by : ℕ) (v : BoardView) (other : ℕ) (u : BoardView) → Merges IsShown by v other u (told_of v u) (glass_of [])
takes_in by v other u words views h at apart there =
    let fits = h.2.fits in
    let w = told_of v u in
    let mine = fits by v at in
    let theirs = ⊎_elim (λ (t : (other ≡ by) × (w ≡ u)). absurd (apart t.0)) (λ (t : (other ≢ by) × (get_elem? views other ≡ some u)). fits other u t.1) (at_set views by other w u there) in (
      h.0,
      h.1,
      record {
        shows = h.2.shows;
        rises = h.2.rises;
        fits = fits_set h.0 h.1 (set views by w) other (glass_of [])
            (λ j y _ e. fits_set h.0 h.1 views by w (λ i z _ e'. fits i z e') (mine.0, mine.1, theirs.1) j y e)
            ((λ k. absurd (off k)), nothing h.1, nothing h.1);
      },
    )

pub checks : (by : ℕ) (v : BoardView) → v.writes ≡ true → Turns IsShown by v (λ x. x) Checking
checks by v writes words views h at =
    let fits = h.2.fits in
    let mine = fits by v at in (
      v,
      (
        h.0,
        h.1,
        record {
          shows = h.2.shows;
          rises = h.2.rises;
          fits = λ j u e. fits j u (subst (λ l. get_elem? l j ≡ some u) (set_again views by v at) e);
        },
      ),
      (refl, subst (λ l. StartsWith l v.told) (sym (mine.0 writes).1) mine.2),
    )
