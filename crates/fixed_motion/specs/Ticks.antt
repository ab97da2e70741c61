-- Numbers of ticks, each of which may be there or not.
use Rattle.std.specs.Prelude.{ℕ, min, Option, Some, None}

-- the sooner of two that are there, or the only one there
abbrev pub sooner_of : Option ℕ → Option ℕ → Option ℕ
sooner_of None second = second
sooner_of (Some m) None = Some m
sooner_of (Some m) (Some n) = Some (min m n)
