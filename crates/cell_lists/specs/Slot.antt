-- A number or none, as one number.
use Rattle.std.specs.Prelude.{◌≡◌, ℕ, zero, suc, Option, Some, None, refl}

-- what a code stands for: 0 for none, any other for the number before it
abbrev pub number_of : ℕ → Option ℕ
number_of zero = None
number_of (suc n) = Some n

-- the code of a number, or of none
abbrev pub code_of_number : Option ℕ → ℕ
code_of_number None = zero
code_of_number (Some n) = suc n

-- each code is that of what it stands for
pub coded_again : (n : ℕ) → code_of_number (number_of n) ≡ n
coded_again zero = refl
coded_again (suc n) = refl
