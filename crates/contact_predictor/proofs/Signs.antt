-- What the machine's tests tell of signed numbers of 64 bits.
use Rattle.std.proofs.Common.{◌≡◌, ◌↔◌, IsTrue, Bool, true, false, T, refl, sym, subst, ◌∙◌}
use lib.Signed.{lt_z, le_z}
use Rattle.std.specs.Prelude.{ℤ, pos, FitsSigned, ◌≤ℤ◌, ◌<ℤ◌}
use mir.Syntax.{w64}
use Rattle.plane_vectors.proofs.Sizes.{sent, sent_same}

is_true : (b : Bool) → T b → b ≡ true
is_true true h = refl
is_true false h = absurd h

pub less : (x y : ℤ) → IsTrue (lt_z x y) ↔ (x <ℤ y)
less x y = (λ h. record { lt = subst T (sym h) tt }, λ h. is_true (lt_z x y) h.lt)

no_more : (x y : ℤ) → IsTrue (le_z x y) ↔ (x ≤ℤ y)
no_more x y = (λ h. record { le = subst T (sym h) tt }, λ h. is_true (le_z x y) h.le)

-- the tests of a number z that is n
pub negative : (z n : ℤ) → FitsSigned w64 z → z ≡ n → IsTrue (lt_z (sent z) (pos 0)) ↔ (n <ℤ pos 0)
negative z n fits is = rw (sent_same z fits ∙ is) (less n (pos 0))

pub not_negative : (z n : ℤ) → FitsSigned w64 z → z ≡ n → IsTrue (le_z (pos 0) (sent z)) ↔ (pos 0 ≤ℤ n)
not_negative z n fits is = rw (sent_same z fits ∙ is) (no_more (pos 0) n)
