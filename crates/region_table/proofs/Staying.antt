-- What a region's moves leave of its base.
use Rattle.std.proofs.Common.{◌≡◌, ℕ, zero, suc, slice_get, slice_index_or, [], ◌∷◌, refl, sym, ap, ◌∙◌, subst, inl, inr, ⊎_elim, false, List}
use Rattle.std.specs.Prelude.{Some, None, Bool, IsTrue, option_map}
use Rattle.std.proofs.lemmas.Option.{none-some, same_Some}
use Rattle.std.proofs.Common.{Option as StdOption}
use Rattle.local_run.specs.LocalRun.{Local}
use Rattle.local_run.specs.Opening.{RegionData, spent}
use Rattle.local_run.specs.RunOn.{BeginsAs, AreRunOn}
use Rattle.local_run.proofs.Begins.{begins_on}
use Rattle.region_table.specs.Bases.{IsSpent, MayReplace, MayLieIn, StaysOrSpent, AreReplaced, AreAlive}

was_none : {A B : Type 0} (f : A → B) (x : StdOption A) → option_map f x ≡ None → x ≡ None
was_none f None e = refl
was_none f (Some y) e = absurd (none-some (f y) (sym e))

replaces : (first old new : RegionData) → MayReplace first old → StaysOrSpent old new → MayReplace first new
replaces first old new p = ⊎_elim
    (λ (same : BeginsAs old new). ⊎_elim
    (λ (b : BeginsAs first old). inl (begins_on first old new b same))
    (λ (s : IsSpent first.home.number old). inr record {
      run = was_none (λ (run : Local). run.base) new.run (same.base ∙ ap (option_map (λ (run : Local). run.base)) s.run);
      number_is = ap (λ h. h.number) same.home ∙ s.number_is;
    })
    p)
    (λ (now : new ≡ spent old). inr record {
      run = ap (λ (z : RegionData). z.run) now;
      number_is = ap (λ (z : RegionData). z.home.number) now ∙ ⊎_elim
          (λ (b : BeginsAs first old). ap (λ h. h.number) b.home)
          (λ (s : IsSpent first.home.number old). s.number_is)
          p;
    })

pub lies_stay : (opened : List RegionData) (k : ℕ) (old new : RegionData) → MayLieIn opened k old → StaysOrSpent old new → MayLieIn opened k new
lies_stay opened k old new p q = (p.0, p.1, replaces p.0 old new p.2 q)

-- if none is spent, each was run on
pub alive_run_on : (given worked : List RegionData) → AreReplaced given worked → AreAlive worked → AreRunOn given worked
alive_run_on given worked replaced alive k old new was now =
    let lies = replaced.each k new now in
    let same : lies.0 ≡ old = same_Some lies.0 old (sym lies.1 ∙ was) in
    record {
      alive = alive k new now;
      begins = ⊎_elim
          (λ (begins : BeginsAs lies.0 new). subst (λ (first : RegionData). BeginsAs first new) same begins)
          (λ (is : IsSpent lies.0.home.number new). absurd (alive k new now is.run))
          lies.2;
    }

-- ---- which are spent
pub at_index : {A : Type 0} (xs : List A) (k : ℕ) (d y : A) → slice_get xs k ≡ Some y → slice_index_or xs k d ≡ y
at_index [] k d y at = absurd (none-some y at)
at_index (x ∷ xs) zero d y at = same_Some x y at
at_index (x ∷ xs) (suc k) d y at = at_index xs k d y at

pub not_both : (b : Bool) → IsTrue b → b ≡ false → ⊥
not_both b is isnt = cc
