-- The least stamp after another.
use Rattle.std.proofs.Common.{◌≡◌, ◌⊎◌, inl, inr, ℕ, ◌+◌, ◌<◌, ◌≤◌, sym, arith}
use Rattle.std.specs.Ordering.{nat_cmp, ordering_then}
use Rattle.std.specs.declared.cmp.Ordering.{Ordering}
use Rattle.std.specs.declared.cmp.Ordering.TheVariants.{Less}
use Rattle.event_stamps.specs.declared.Stamp.{Stamp}
use Rattle.event_stamps.specs.Order.{Before, kind_number}

abbrev pub next_stamp : Stamp → Stamp
next_stamp s = record s { second = s.second + 1 }

pub before_next : (s : Stamp) → Before s (next_stamp s)
before_next s = grind arith

below_or_not : (m n : ℕ) → (m < n) ⊎ (n ≤ m)
below_or_not m n = grind arith

then_same : (a b : ℕ) (o : Ordering) → a ≡ b → ordering_then (nat_cmp a b) o ≡ Less → o ≡ Less
then_same a b o e h = grind arith

not_both : (a b : ℕ) (o p : Ordering) → (o ≡ Less → p ≡ Less → ⊥) →
    ordering_then (nat_cmp a b) o ≡ Less → ordering_then (nat_cmp b a) p ≡ Less → ⊥
not_both a b o p rest h k = by_order (below_or_not a b) (below_or_not b a)
  where
    by_order : (a < b) ⊎ (b ≤ a) → (b < a) ⊎ (a ≤ b) → ⊥
    by_order (inl lt) other = grind arith
    by_order (inr le) (inl lt) = grind arith
    by_order (inr le) (inr ge) =
        let same : a ≡ b = omega arith in rest (then_same a b o same h) (then_same b a p (sym same) k)

not_between : (m n : ℕ) → nat_cmp m n ≡ Less → nat_cmp n (m + 1) ≡ Less → ⊥
not_between m n h k = grind arith

-- a stamp that is after one isn't before the next
pub after_is_next : (s t : Stamp) → Before s t → ¬ Before t (next_stamp s)
after_is_next s t h k = not_both s.tick t.tick _ _ (not_both s.round t.round _ _
    (not_both (kind_number s.kind) (kind_number t.kind) _ _ (not_both s.first t.first _ _
    (not_between s.second t.second)))) h k
