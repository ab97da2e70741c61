-- A row of small numbers is the row in its compact form.
use Rattle.std.proofs.Common.{◌≡◌, ◌≢◌, ℕ, ◌+◌, ◌*◌, ◌^◌, ◌<◌, ◌==◌, Bool, true, false, Decides, arith, refl, sym, ap, subst, ◌∙◌, ℤ, to_z, of_z, w32, w64}
use Rattle.std.specs.Prelude.{if◌then◌else◌, Option, Some, None, ◌≤ℤ◌}
use lib.Dec.{T}
use lib.Signed.{le_z}
use mir.Val.{SFits}
use Rattle.std.proofs.lemmas.Bool.{eqb-true, eqb-false}
use Rattle.std.proofs.lemmas.Option.{none-some, same_Some}
use Rattle.std.proofs.lemmas.Int.{ints, to_z-of_z}
use Rattle.std.proofs.lemmas.Nat.{div-mul-add, mod-mul-add}
use Rattle.std.proofs.lemmas.Bool.Decides.{nat_tests}
use Rattle.region_view.specs.declared.action.Placed.{Placed}
use Rattle.region_view.specs.declared.compact.Compact.TheInside.{Inside}
use Rattle.region_view.specs.Compact.{IsNarrow, IsSmallRow, no_time, row_inside, unpacked, packed, recelled_row, IsPackedRow}

-- ---- a number that is compared with the least and the greatest one of 32 bits
tested : (b : Bool) → T b → b ≡ true
tested true t = refl
tested false t = absurd t

Decides-le_z : (a b : ℤ) → Decides (le_z a b) (a ≤ℤ b)
Decides-le_z a b = (λ e. record { le = subst T (sym e) tt }, λ h. tested (le_z a b) h.le)

-- a number of 64 bits, as it is sent, against another one
pub Decides-sent_below : (n most : ℤ) → SFits w64 n → Decides (le_z (to_z w64 (of_z w64 n)) most) (n ≤ℤ most)
Decides-sent_below n most fits = subst (λ (k : ℤ). Decides (le_z k most) (n ≤ℤ most)) (sym (to_z-of_z w64 n fits)) (Decides-le_z n most)

pub Decides-sent_above : (n least : ℤ) → SFits w64 n → Decides (le_z least (to_z w64 (of_z w64 n))) (least ≤ℤ n)
Decides-sent_above n least fits = subst (λ (k : ℤ). Decides (le_z least k) (least ≤ℤ n)) (sym (to_z-of_z w64 n fits)) (Decides-le_z least n)

pub narrow_sent : (b : Bool) (n : ℤ) → SFits w64 n → Decides b (IsNarrow (to_z w64 (of_z w64 n))) → Decides b (IsNarrow n)
narrow_sent b n fits = subst (λ (k : ℤ). Decides b (IsNarrow k)) (to_z-of_z w64 n fits)

fits_wide : (n : ℤ) → SFits w32 n → SFits w64 n
fits_wide n narrow = record { sfits = omega (arith, narrow.sfits) }

-- a number of 32 bits that is widened is itself
pub widened : (n : ℤ) → SFits w32 n → to_z w64 (of_z w64 (to_z w32 (of_z w32 n))) ≡ n
widened n narrow = ap (λ (k : ℤ). to_z w64 (of_z w64 k)) (to_z-of_z w32 n narrow) ∙ to_z-of_z w64 n (fits_wide n narrow)

-- a number that is narrowed is itself
pub narrowed : (n : ℤ) → IsNarrow n → to_z w32 (of_z w32 (to_z w64 (of_z w64 n))) ≡ n
narrowed n narrow = omega (arith, ints)

present : (a : Inside) → a.time < 2 ^ 63 → unpacked a ≡ Some (row_inside a)
present a early = grind (arith, nat_tests)

early : (base mark : ℕ) → base < 2 ^ 43 → mark < 2 ^ 20 → base * 2 ^ 20 + mark < 2 ^ 63
early base mark b m = omega arith

pub row_again : (p : Placed) → IsSmallRow p → unpacked (packed (Some p)) ≡ Some p
row_again p small =
    let base = div-mul-add p.disk.base (2 ^ 20) p.disk.mark small.time.mark in
    let mark = mod-mul-add p.disk.base (2 ^ 20) p.disk.mark small.time.mark in
    present (packed (Some p)) (early p.disk.base p.disk.mark small.time.base small.time.mark)
    ∙ (λ i. Some (record {
      disk = record {
        x = p.disk.x;
        y = p.disk.y;
        vx = p.disk.vx;
        vy = p.disk.vy;
        size = p.disk.size;
        base = base i;
        mark = mark i;
      };
      cell = p.cell;
    }))

pub is_packed : (p : Placed) → IsSmallRow p → IsPackedRow (packed (Some p))
is_packed p small = record { exact = ap packed (row_again p small) }

-- ---- a row that is there
pub is_row_of : (a : Inside) (p : Placed) → unpacked a ≡ Some p → (a.time ≢ no_time) × (row_inside a ≡ p)
is_row_of a p e = by_test (a.time == no_time) refl e
  where
    by_test : (b : Bool) → (a.time == no_time) ≡ b → (if b then None else Some (row_inside a)) ≡ Some p →
        (a.time ≢ no_time) × (row_inside a ≡ p)
    by_test true is none = absurd (none-some p none)
    by_test false is some = (eqb-false a.time no_time is, same_Some (row_inside a) p some)

there : (a : Inside) → a.time ≢ no_time → unpacked a ≡ Some (row_inside a)
there a other = by_test (a.time == no_time) refl
  where
    by_test : (b : Bool) → (a.time == no_time) ≡ b → (if b then None else Some (row_inside a)) ≡ Some (row_inside a)
    by_test true is = absurd (other (eqb-true a.time no_time is))
    by_test false is = refl

pub recelled : (a b : Inside) (o : Option Placed) (cell : ℕ) → unpacked a ≡ o → a.time ≢ no_time →
    b ≡ record { time = a.time; x = a.x; y = a.y; vx = a.vx; vy = a.vy; size = a.size; cell = cell } →
    unpacked b ≡ recelled_row cell o
recelled a b o cell view other is =
    let moved : Inside = record { time = a.time; x = a.x; y = a.y; vx = a.vx; vy = a.vy; size = a.size; cell = cell } in
    ap unpacked is ∙ there moved other ∙ ap (recelled_row cell) (sym (there a other) ∙ view)
