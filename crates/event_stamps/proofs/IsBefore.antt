-- Tests of the order of stamps, and stamps that aren't before each other.
use Rattle.std.proofs.Common.{◌≡◌, inl, inr, true, false, ap, subst, sym, refl}
use Rattle.std.specs.Ordering.{is_lt}
use Rattle.std.specs.declared.cmp.Ordering.{Ordering}
use Rattle.std.specs.declared.cmp.Ordering.TheVariants.{Less, Equal, Greater}
use Rattle.event_stamps.specs.declared.Stamp.{Stamp}
use Rattle.event_stamps.specs.Order.{Before, stamp_cmp}
use Rattle.event_stamps.proofs.StampOrder.{before_decides, before_trans, same_stamp}
use Rattle.event_stamps.specs.Ordered.{is_before}

lt_false : (o : Ordering) → ¬ (o ≡ Less) → is_lt o ≡ false
lt_false Less h = absurd (h refl)
lt_false Equal h = refl
lt_false Greater h = refl

from_lt : (o : Ordering) → is_lt o ≡ true → o ≡ Less
from_lt Less h = refl
from_lt Equal h = cc
from_lt Greater h = cc

pub is_before_true : (s t : Stamp) → Before s t → is_before s t ≡ true
is_before_true s t h = ap is_lt h

pub is_before_false : (s t : Stamp) → ¬ Before s t → is_before s t ≡ false
is_before_false s t h = lt_false (stamp_cmp s t) h

pub before_from_true : (s t : Stamp) → is_before s t ≡ true → Before s t
before_from_true s t h = from_lt (stamp_cmp s t) h

pub not_before_from_false : (s t : Stamp) → is_before s t ≡ false → ¬ Before s t
not_before_from_false s t e h = let other = is_before_true s t h in cc

-- a stamp that isn't after one before t is before t
pub not_after_before : (r s t : Stamp) → ¬ Before s r → Before s t → Before r t
not_after_before r s t h lt = elim (before_decides r s) [
  | inl less ↦ before_trans r s t less lt
  | inr not ↦ subst (λ (v : Stamp). Before v t) (sym (same_stamp r s not h)) lt
]

-- a stamp before t is before each one that isn't before t
pub before_not_before : (r s t : Stamp) → Before r t → ¬ Before s t → Before r s
before_not_before r s t lt h = elim (before_decides r s) [
  | inl less ↦ less
  | inr not ↦ absurd (h (not_after_before s r t not lt))
]

-- if two stamps aren't the same, and the second isn't before the first, the first is before the second
pub before_other : (s t : Stamp) → ¬ Before t s → ¬ (t ≡ s) → Before s t
before_other s t not other = elim (before_decides s t) [
  | inl less ↦ less
  | inr neither ↦ absurd (other (same_stamp t s not neither))
]
