-- What holds of all stamps.
use Rattle.std.specs.Prelude.{◌≡◌, ◌↔◌, ◌⊎◌, ℕ, ◌<◌, Bool, IsTrue}
use Rattle.event_stamps.specs.declared.Stamp.{Stamp}
use Rattle.event_stamps.specs.declared.Kind.TheVariants.{Cross}
use Rattle.event_stamps.specs.Order.{Before, IsInRange, rank, first_stamp}
use Rattle.event_stamps.specs.Least.{IsLeast, HasNone}

-- among stamps in range, one is before another if and only if its rank is less
abbrev pub RanksAgree : Type 0
RanksAgree = (a b : Stamp) → IsInRange a → IsInRange b → (Before a b ↔ (rank a < rank b))

-- of the stamps that pass a test, all in range and of ranks below a bound, there is a least one, or there are none
abbrev pub LeastOrNone : Type 0
LeastOrNone = (test : Stamp → Bool) (bound : ℕ) →
    ((s : Stamp) → IsTrue (test s) → IsInRange s × (rank s < bound)) →
    ((s : Stamp) × IsLeast (λ t. IsTrue (test t)) s) ⊎ HasNone (λ t. IsTrue (test t))

-- within a tick, a crossing of round 0 is before every stamp that isn't a crossing's
abbrev pub CrossBefore : Type 0
CrossBefore = (s t : Stamp) → s.tick ≡ t.tick → s.round ≡ 0 → s.kind ≡ Cross → ¬ (t.kind ≡ Cross) →
    Before s t

-- no stamp is before the first one
abbrev pub NoneBeforeFirst : Type 0
NoneBeforeFirst = (s : Stamp) → ¬ Before s first_stamp
