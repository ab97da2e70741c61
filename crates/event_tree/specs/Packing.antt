-- Keys as numbers that are ordered as the keys are.
use Rattle.std.specs.Prelude.{◌≡◌, ℕ, ◌+◌, ◌-◌, ◌*◌, ◌/◌, ◌%◌, ◌^◌, ◌<◌, ◌==◌, if◌then◌else◌, Some, None, IfSome}
use Rattle.event_stamps.specs.declared.Stamp.{Stamp}
use Rattle.event_stamps.specs.declared.Kind.{Kind}
use Rattle.event_stamps.specs.declared.Kind.TheVariants.{Cross, Wall, Pair}
use Rattle.event_stamps.specs.Order.{kind_number, IsInRange}
use Rattle.event_tree.specs.Keys.{Key}

-- the parts of a stamp from left to right, of 64, 17, 2, 16 and 16 bits
unfoldable pub number_of_stamp : Stamp → ℕ
number_of_stamp s =
    (((s.tick * 2 ^ 17 + s.round) * 2 ^ 2 + kind_number s.kind) * 2 ^ 16 + s.first) * 2 ^ 16 + s.second

-- the kind that has a number
abbrev pub kind_of : ℕ → Kind
kind_of n = if n == 0 then Cross else (if n == 1 then Wall else Pair)

-- the stamp that has a number
unfoldable pub stamp_of_number : ℕ → Stamp
stamp_of_number n = record {
  tick = n / 2 ^ 16 / 2 ^ 16 / 2 ^ 2 / 2 ^ 17;
  round = n / 2 ^ 16 / 2 ^ 16 / 2 ^ 2 % 2 ^ 17;
  kind = kind_of (n / 2 ^ 16 / 2 ^ 16 % 2 ^ 2);
  first = n / 2 ^ 16 % 2 ^ 16;
  second = n % 2 ^ 16;
}

-- the number of a key; that of no key is the greatest number of 128 bits
abbrev pub pack : Key → ℕ
pack None = 2 ^ 128 - 1
pack (Some s) = number_of_stamp s

-- the key that has a number
abbrev pub unpack : ℕ → Key
unpack n = if n == (2 ^ 128 - 1) then None else Some (stamp_of_number n)

-- each part of the stamp has room in its number
pub record HasRoom (s : Stamp) : Type 0 where
  pub tick : s.tick < 2 ^ 64
  pub in_range : IsInRange s

-- the number of a key in range
pub record IsPacked (n : ℕ) : Type 0 where
  pub exact : pack (unpack n) ≡ n
  pub room : IfSome (unpack n) HasRoom
