-- Keys as numbers of 64 bits, if they are small.
use Rattle.std.specs.Prelude.{◌≡◌, ◌⊎◌, ℕ, ◌+◌, ◌-◌, ◌*◌, ◌/◌, ◌%◌, ◌^◌, ◌<◌, ◌==◌, if◌then◌else◌}
use Rattle.event_stamps.specs.declared.Stamp.{Stamp}
use Rattle.event_tree.specs.Keys.{Key}
use Rattle.event_tree.specs.Packing.{pack, unpack, IsPacked}

-- the number of no key, or of a stamp with a tick below 2^27 and a round below 8: the 14 bits below the 27 are 0
abbrev pub HasCode : ℕ → Type 0
HasCode n = (n ≡ 2 ^ 128 - 1) ⊎ ((n / 2 ^ 37 % 2 ^ 14 ≡ 0) × (n / 2 ^ 51 < 2 ^ 27))

-- a number without those 14 bits
unfoldable pub narrowed : ℕ → ℕ
narrowed n = n / 2 ^ 51 % 2 ^ 27 * 2 ^ 37 + n % 2 ^ 37

-- the number of a code; the greatest code is that of no key
unfoldable pub widened : ℕ → ℕ
widened c = if c == (2 ^ 64 - 1) then 2 ^ 128 - 1 else c / 2 ^ 37 * 2 ^ 51 + c % 2 ^ 37

-- the key that has a code
abbrev pub key_of : ℕ → Key
key_of c = unpack (widened c)

-- the code of a key in range
pub record IsCode (c : ℕ) : Type 0 where
  pub exact : narrowed (pack (key_of c)) ≡ c
  pub packed : IsPacked (widened c)

-- a stamp that has a code
pub record IsCoded (s : Stamp) : Type 0 where
  pub tick : s.tick < 2 ^ 27
  pub round : s.round < 2 ^ 3
  pub first : s.first < 2 ^ 16
  pub second : s.second < 2 ^ 16
