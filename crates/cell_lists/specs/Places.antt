-- Places as the bits of a word.
use Rattle.std.specs.Prelude.{◌≡◌, ℕ}
use Rattle.std.specs.Int.{bit_at}
use Rattle.cell_lists.specs.declared.places.Places.{Places}

-- the place is one of these
abbrev pub Holds : Places → ℕ → Type 0
Holds places p = bit_at places.bits p ≡ 1
