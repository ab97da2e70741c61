-- Events told otherwise, as mirrored ones are: how they compare, and what they come to.
use Rattle.std.proofs.Common.{◌≡◌, inl, inr, ℕ, ◌<◌, Bool, true, false, List, sym, ap, ◌∙◌, refl, arith, Result, Ok, Err}
use Rattle.std.specs.Prelude.{if◌then◌else◌}
use Rattle.fixed_motion.specs.declared.rules.Rules.{Rules}
use Rattle.fixed_motion.specs.declared.disk.Disk.{Disk}
use Rattle.event_stamps.specs.declared.Stamp.{Stamp}
use Rattle.event_stamps.specs.declared.Kind.{Kind}
use Rattle.event_stamps.specs.declared.Kind.TheVariants.{Wall, Pair}
use Rattle.event_stamps.specs.Order.{Before, kind_number}
use Rattle.event_rules.specs.declared.change.Change.{Change}
use Rattle.event_rules.specs.declared.change.Limit.{Limit}
use Rattle.event_rules.specs.declared.change.Limit.TheVariants.{Rounds, Speed}
use Rattle.event_rules.specs.Run.{IsCandidate, IsWallCandidate}
use Rattle.alike_runs.proofs.Stamps.{wall_kind, pair_kind, then_also, cmp_also}

-- stamps that differ from two others only in their last numbers
pub order_by : (s t : Stamp) (m n : ℕ) →
    (s.tick ≡ t.tick → kind_number s.kind ≡ kind_number t.kind → s.first ≡ t.first → m < n → s.second < t.second) →
    Before (record { tick = s.tick; round = s.round; kind = s.kind; first = s.first; second = m })
    (record { tick = t.tick; round = t.round; kind = t.kind; first = t.first; second = n }) → Before s t
order_by s t m n h before =
    then_also s.tick t.tick s.tick t.tick _ _ (λ lt. lt) (λ e. e) (λ tick.
    then_also s.round t.round s.round t.round _ _ (λ lt. lt) (λ e. e) (λ round.
    then_also (kind_number s.kind) (kind_number t.kind) (kind_number s.kind) (kind_number t.kind) _ _ (λ lt. lt) (λ e. e) (λ kind.
    then_also s.first t.first s.first t.first _ _ (λ lt. lt) (λ e. e) (λ first. cmp_also m n s.second t.second (h tick kind first))))) before

-- the last numbers of two events compare as told, if those of two events at sides do, and those of two disks are told as they are
pub seconds_by : (second : Kind → ℕ → ℕ) → ((n : ℕ) → second Pair n ≡ n) → (rules : Rules) (disks : List Disk) (s t : Stamp) →
    IsCandidate rules disks s → IsCandidate rules disks t → kind_number s.kind ≡ kind_number t.kind →
    (IsWallCandidate rules disks s → IsWallCandidate rules disks t → second Wall s.second < second Wall t.second → s.second < t.second) →
    second s.kind s.second < second t.kind t.second → s.second < t.second
seconds_by second own rules disks s t h k kind walls lt = elim h [
  | inl wall ↦ elim k [
    | inl other ↦ walls wall other (in_place _ _ _ _ (told s _ (wall_kind rules disks s wall)) (told t _ (wall_kind rules disks t other)) lt)
    | inr other ↦ absurd (differ s.kind t.kind (wall_kind rules disks s wall) (pair_kind rules disks t other) kind)
  ]
  | inr pair ↦ elim k [
    | inl other ↦ absurd (differ t.kind s.kind (wall_kind rules disks t other) (pair_kind rules disks s pair) (sym kind))
    | inr other ↦ in_place _ _ _ _ (told s _ (pair_kind rules disks s pair) ∙ own s.second) (told t _ (pair_kind rules disks t other) ∙ own t.second) lt
  ]
]
  where
    told : (u : Stamp) (j : Kind) → u.kind ≡ j → second u.kind u.second ≡ second j u.second
    told u j e = ap (λ (k : Kind). second k u.second) e

    differ : (j k : Kind) → j ≡ Wall → k ≡ Pair → kind_number j ≡ kind_number k → ⊥
    differ j k p q e =
        let one : kind_number j ≡ 1 = ap kind_number p in
        let two : kind_number k ≡ 2 = ap kind_number q in
        omega arith

    in_place : (m n p q : ℕ) → m ≡ p → n ≡ q → m < n → p < q
    in_place m n p q e f lt = omega arith

-- its change or its limit, told otherwise
abbrev pub result_by : (Change → Change) → (Limit → Limit) → Result Change Limit → Result Change Limit
result_by change limit (Ok c) = Ok (change c)
result_by change limit (Err l) = Err (limit l)

-- what an event comes to, told otherwise, if it then keeps the speeds as before
pub applied_by : (change : Change → Change) (limit : Limit → Limit) (p q r : Bool) (s u : Stamp) (c d : Change) → d ≡ change c → r ≡ q →
    Rounds u ≡ limit (Rounds s) → Speed u ≡ limit (Speed s) →
    (if p then Err (Rounds u) else if r then Ok d else Err (Speed u))
    ≡ result_by change limit (if p then Err (Rounds s) else if q then Ok c else Err (Speed s))
applied_by change limit p q r s u c d same keeps rounds speed =
    (λ i. if p then Err (rounds i) else if keeps i then Ok (same i) else Err (speed i)) ∙ tests p q
  where
    tests : (p q : Bool) → (if p then Err (limit (Rounds s)) else if q then Ok (change c) else Err (limit (Speed s)))
        ≡ result_by change limit (if p then Err (Rounds s) else if q then Ok c else Err (Speed s))
    tests true q = refl
    tests false true = refl
    tests false false = refl
