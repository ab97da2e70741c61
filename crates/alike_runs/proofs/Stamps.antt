-- Of which kind the events of a state are, how their stamps compare, and what they come to with other stamps.
use Rattle.std.proofs.Common.{◌≡◌, ◌⊎◌, inl, inr, ℕ, ◌<◌, Bool, true, false, List, sym, ap, subst, refl, arith, Option, Some, None, Result, Ok, Err}
use Rattle.std.specs.Prelude.{◌==◌, if◌then◌else◌}
use Rattle.std.specs.Ordering.{nat_cmp, ordering_then}
use Rattle.std.specs.declared.cmp.Ordering.{Ordering}
use Rattle.std.specs.declared.cmp.Ordering.TheVariants.{Less}
use Rattle.fixed_motion.specs.declared.rules.Rules.{Rules}
use Rattle.fixed_motion.specs.declared.disk.Disk.{Disk}
use Rattle.event_stamps.specs.declared.Stamp.{Stamp}
use Rattle.event_stamps.specs.declared.Kind.{Kind}
use Rattle.event_stamps.specs.declared.Kind.TheVariants.{Wall, Pair}
use Rattle.event_rules.specs.declared.change.Change.{Change}
use Rattle.event_rules.specs.declared.change.Limit.{Limit}
use Rattle.event_rules.specs.declared.change.Limit.TheVariants.{Rounds, Speed}
use Rattle.event_rules.specs.Effect.{applied, change_of, keeps_speed}
use Rattle.event_rules.specs.Run.{IsCandidate, IsWallCandidate, IsPairCandidate}

pub wall_kind : (rules : Rules) (xs : List Disk) (t : Stamp) → IsWallCandidate rules xs t → t.kind ≡ Wall
wall_kind rules xs t h = ap (λ (v : Stamp). v.kind) h.2.2

pub pair_kind : (rules : Rules) (xs : List Disk) (t : Stamp) → IsPairCandidate rules xs t → t.kind ≡ Pair
pair_kind rules xs t h = ap (λ (v : Stamp). v.kind) h.1.2.2.2

pub kinds : (rules : Rules) (xs : List Disk) (t : Stamp) → IsCandidate rules xs t → (t.kind ≡ Wall) ⊎ (t.kind ≡ Pair)
kinds rules xs t h = elim h [ inl wall ↦ inl (wall_kind rules xs t wall) | inr pair ↦ inr (pair_kind rules xs t pair) ]

-- what is before by one number, or by those after it, is so also in an order that keeps this
pub then_also : (a b c d : ℕ) (o p : Ordering) → (a < b → c < d) → (a ≡ b → c ≡ d) → (a ≡ b → o ≡ Less → p ≡ Less) →
    ordering_then (nat_cmp a b) o ≡ Less → ordering_then (nat_cmp c d) p ≡ Less
then_also a b c d o p low same h less = elim (parts a b o less) [
  | inl lt ↦ smaller c d p (low lt)
  | inr e ↦ equal c d p (same e.0) (h e.0 e.1)
]
  where
    parts : (a b : ℕ) (o : Ordering) → ordering_then (nat_cmp a b) o ≡ Less → (a < b) ⊎ ((a ≡ b) × (o ≡ Less))
    parts a b o less = grind arith

    smaller : (a b : ℕ) (o : Ordering) → a < b → ordering_then (nat_cmp a b) o ≡ Less
    smaller a b o lt = grind arith

    equal : (a b : ℕ) (o : Ordering) → a ≡ b → o ≡ Less → ordering_then (nat_cmp a b) o ≡ Less
    equal a b o e h = grind arith

pub cmp_also : (m n p q : ℕ) → (m < n → p < q) → nat_cmp m n ≡ Less → nat_cmp p q ≡ Less
cmp_also m n p q h less = below p q (h (from m n less))
  where
    below : (p q : ℕ) → p < q → nat_cmp p q ≡ Less
    below p q lt = grind arith

    from : (m n : ℕ) → nat_cmp m n ≡ Less → m < n
    from m n less = grind arith

-- ---- results
-- what an event with this stamp comes to, if one of the same tick and round comes to that
abbrev pub at_stamp : Stamp → Result Change Limit → Result Change Limit
at_stamp u (Ok c) = Ok (record { stamp = u; first = c.first; second = c.second })
at_stamp u (Err (Rounds s)) = Err (Rounds u)
at_stamp u (Err (Speed s)) = Err (Speed u)

pub applied_at : (rules : Rules) (tick round : ℕ) (i j : Kind) (f m g n : ℕ) (a : Disk) (o : Option Disk) → (o ≡ None → n ≡ m) →
    applied rules (record { tick = tick; round = round; kind = j; first = g; second = n }) a o
    ≡ at_stamp (record { tick = tick; round = round; kind = j; first = g; second = n })
    (applied rules (record { tick = tick; round = round; kind = i; first = f; second = m }) a o)
applied_at rules tick round i j f m g n a o same = by o same
  where
    tests : (p q : Bool) (s u : Stamp) (c d : Change) → record { stamp = u; first = d.first; second = d.second } ≡ c →
        (if p then Err (Rounds u) else if q then Ok c else Err (Speed u))
        ≡ at_stamp u (if p then Err (Rounds s) else if q then Ok d else Err (Speed s))
    tests true q s u c d e = refl
    tests false true s u c d e = λ i. Ok (sym e i)
    tests false false s u c d e = refl

    by : (o : Option Disk) → (o ≡ None → n ≡ m) →
        applied rules (record { tick = tick; round = round; kind = j; first = g; second = n }) a o
        ≡ at_stamp (record { tick = tick; round = round; kind = j; first = g; second = n })
        (applied rules (record { tick = tick; round = round; kind = i; first = f; second = m }) a o)
    by None same =
        let s : Stamp = record { tick = tick; round = round; kind = i; first = f; second = m } in
        let u : Stamp = record { tick = tick; round = round; kind = j; first = g; second = m } in
        subst (λ (z : ℕ). applied rules (record { tick = tick; round = round; kind = j; first = g; second = z }) a None
        ≡ at_stamp (record { tick = tick; round = round; kind = j; first = g; second = z }) (applied rules s a None)) (sym (same refl))
        (tests (round == rules.round_limit) (keeps_speed rules (change_of s a None)) s u (change_of u a None) (change_of s a None) refl)
    by (Some b) same =
        let s : Stamp = record { tick = tick; round = round; kind = i; first = f; second = m } in
        let u : Stamp = record { tick = tick; round = round; kind = j; first = g; second = n } in
        tests (round == rules.round_limit) (keeps_speed rules (change_of s a (Some b))) s u (change_of u a (Some b)) (change_of s a (Some b)) refl
