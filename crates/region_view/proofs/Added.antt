-- Slots that are set, and slots that are added.
use Rattle.std.proofs.Common.{◌≡◌, ℕ, zero, suc, ◌+◌, ◌-◌, ◌<◌, ◌≤◌, ◌^◌, [], ◌∷◌, ◌++◌, length, set, get_or, take, arith, refl, sym, ap, subst, ◌∙◌, Option, None, Result}
use Rattle.std.specs.Prelude.{replicate, Ok, Err, OnOk, is_ok, if◌then◌else◌}
use Rattle.std.proofs.lemmas.List.{length-set, length-append, length-take, length-replicate, take_all}
use Rattle.region_view.specs.declared.action.Placed.{Placed}
use Rattle.region_view.specs.Slots.{SlotList, AreFew}

-- a row that is set
pub few_still : (rows : SlotList) (i : ℕ) (row : Option Placed) → AreFew rows → AreFew (set rows i row)
few_still rows i row is = record { few = subst (λ (n : ℕ). n ≤ 2 ^ 32) (sym (length-set rows i row)) is.few }

-- more slots, with nothing in them
none_there : (n i : ℕ) (row : Option Placed) → row ≡ None → get_or (replicate n row) i None ≡ None
none_there zero i row none = refl
none_there (suc n) zero row none = none
none_there (suc n) (suc i) row none = none_there n i row none

with_none : (rows : SlotList) (n i : ℕ) (row : Option Placed) → row ≡ None → get_or (rows ++ replicate n row) i None ≡ get_or rows i None
with_none [] n i row none = none_there n i row none
with_none (first ∷ rows) n zero row none = refl
with_none (first ∷ rows) n (suc i) row none = with_none rows n i row none

-- slots up to a number, if there is memory
pub record AreLengthened {A E : Type 0} (r : Result A E) (rows longer : SlotList) (number : ℕ) : Type 0 where
  pub few : AreFew longer
  pub same : (i : ℕ) → get_or longer i None ≡ get_or rows i None
  pub more : length rows ≤ length longer
  pub room : OnOk r (number < length longer)

pub lengthened : {A E : Type 0} (r : Result A E) (rows longer : SlotList) (number many : ℕ) (row : Option Placed) → many ≡ length rows →
    row ≡ None → longer ≡ (if is_ok r then take (number + 1) rows ++ replicate (number + 1 - many) row else rows) →
    length rows ≤ number + 1 → number + 1 ≤ 2 ^ 32 → AreFew rows → AreLengthened r rows longer number
lengthened (Ok x) rows longer number many row len none is le few are =
    let new = replicate (number + 1 - many) row in
    let all : length longer ≡ number + 1 = omega (
      arith,
      ap length is,
      length-append (take (number + 1) rows) new,
      length-take (number + 1) rows,
      length-replicate {A = Option Placed} (number + 1 - many) row,
      len,
    ) in
    record {
      few = record { few = omega (arith, all, few) };
      same = λ i. ap (λ (xs : SlotList). get_or xs i None) is
          ∙ ap (λ (xs : SlotList). get_or (xs ++ new) i None) (take_all (number + 1) rows le)
          ∙ with_none rows (number + 1 - many) i row none;
      more = omega (arith, all, le);
      room = omega (arith, all);
    }
lengthened (Err e) rows longer number many row len none is le few are = record {
  few = subst AreFew (sym is) are;
  same = λ i. ap (λ (xs : SlotList). get_or xs i None) is;
  more = omega (arith, ap length is);
  room = tt;
}
