-- The least of stamps: of those found so far, and of all with a property that is decided.
use Rattle.std.proofs.Common.{◌≡◌, ◌⊎◌, inl, inr, ℕ, zero, suc, ◌+◌, ◌*◌, ◌/◌, ◌%◌, ◌<◌}
use Rattle.std.proofs.Common.{sym, ap, ◌∙◌, subst, refl, arith}
use Rattle.std.proofs.Common.{Option, Some, None, Bool, true, false}
use Rattle.std.specs.Prelude.{MatchOption, if◌then◌else◌, IsTrue}
use Rattle.std.specs.Ordering.{is_lt}
use Rattle.std.specs.declared.cmp.Ordering.{Ordering}
use Rattle.std.specs.declared.cmp.Ordering.TheVariants.{Less, Equal, Greater}
use Rattle.std.proofs.lemmas.Nat.{div-mul-add, mod-mul-add}
use Rattle.event_stamps.specs.declared.Stamp.{Stamp}
use Rattle.event_stamps.specs.declared.Kind.{Kind}
use Rattle.event_stamps.specs.declared.Kind.TheVariants.{Cross, Wall, Pair}
use Rattle.event_stamps.specs.Order.{Before, stamp_cmp, IsInRange, rank, kind_number}
use Rattle.event_stamps.specs.Least.{IsLeast, HasNone, IsOnly, IsLeastOf, earlier_of}
use Rattle.event_stamps.specs.Laws.{LeastOrNone}
use Rattle.event_stamps.proofs.StampOrder.{before_decides, before_trans}
use Rattle.event_stamps.proofs.StampOrder.{same_stamp, not_before_itself}
use Rattle.event_stamps.proofs.Ranks.{rank_less, kind_below}
use Rattle.event_stamps.proofs.Decision.{Decision, both, same_number}

pub one_least : (P : Stamp → Type 0) (s t : Stamp) → IsLeast P s → IsLeast P t → s ≡ t
one_least P s t h k = same_stamp s t (k.1 s h.0) (h.1 t k.0)

-- the only one is the least
pub only_least : (P : Stamp → Type 0) (o : Option Stamp) → MatchOption o (HasNone P) (IsOnly P) →
    IsLeastOf P o
only_least P None h = h
only_least P (Some s) h =
    (h.0, λ t p before. not_before_itself s (subst (λ (v : Stamp). Before v s) (h.1 t p) before))

-- the least stamp for which P or Q holds
pub least_of_either : (P Q R : Stamp → Type 0) (a b : Option Stamp) → ((t : Stamp) → P t → R t) →
    ((t : Stamp) → Q t → R t) → ((t : Stamp) → R t → P t ⊎ Q t) →
    IsLeastOf P a → IsLeastOf Q b → IsLeastOf R (earlier_of a b)
least_of_either P Q R None None p q split ha hb =
    λ t r. elim (split t r) [ inl x ↦ ha t x | inr y ↦ hb t y ]
least_of_either P Q R None (Some t) p q split ha hb =
    (q t hb.0, λ u r before. elim (split u r) [ inl x ↦ ha u x | inr y ↦ hb.1 u y before ])
least_of_either P Q R (Some s) None p q split ha hb =
    (p s ha.0, λ u r before. elim (split u r) [ inl x ↦ ha.1 u x before | inr y ↦ hb u y ])
least_of_either P Q R (Some s) (Some t) p q split ha hb = by_order (stamp_cmp t s) refl
  where
    second : Before t s → IsLeastOf R (Some t)
    second less = (
      q t hb.0,
      λ u r before. elim (split u r) [
        | inl x ↦ ha.1 u x (before_trans u t s before less)
        | inr y ↦ hb.1 u y before
      ],
    )

    not_below : ¬ Before t s → (u : Stamp) → Q u → ¬ Before u s
    not_below more u y before = elim (before_decides t u) [
      | inl less ↦ more (before_trans t u s less before)
      | inr not ↦ more (subst (λ (v : Stamp). Before v s) (same_stamp u t (hb.1 u y) not) before)
    ]

    first : ¬ Before t s → IsLeastOf R (Some s)
    first more = (
      p s ha.0,
      λ u r before. elim (split u r) [
        | inl x ↦ ha.1 u x before
        | inr y ↦ not_below more u y before
      ],
    )

    by_order : (o : Ordering) → stamp_cmp t s ≡ o → IsLeastOf R (if is_lt o then Some t else Some s)
    by_order Less e = second e
    by_order Equal e = first (λ less. let same : Less ≡ Equal = sym less ∙ e in cc)
    by_order Greater e = first (λ less. let same : Less ≡ Greater = sym less ∙ e in cc)

-- the least stamp for which P holds is the least for any property of the same stamps
pub least_same : (P R : Stamp → Type 0) (o : Option Stamp) → ((t : Stamp) → P t → R t) →
    ((t : Stamp) → R t → P t) → IsLeastOf P o → IsLeastOf R o
least_same P R None to from h = λ t r. h t (from t r)
least_same P R (Some s) to from h = (to s h.0, λ t r. h.1 t (from t r))

-- the least number below n for which P holds
abbrev IsFirst : (ℕ → Type 0) → ℕ → ℕ → Type 0
IsFirst P n k = (k < n) × P k × ((j : ℕ) → j < k → ¬ P j)

abbrev NoneBelow : (ℕ → Type 0) → ℕ → Type 0
NoneBelow P n = (k : ℕ) → k < n → ¬ P k

none_more : (P : ℕ → Type 0) (n : ℕ) → NoneBelow P n → ¬ P n → NoneBelow P (suc n)
none_more P n none not k lt h = elim (below_or_same k n lt) [
  | inl less ↦ none k less h
  | inr same ↦ not (subst P same h)
]
  where
    below_or_same : (k n : ℕ) → k < suc n → (k < n) ⊎ (k ≡ n)
    below_or_same k n lt = grind arith

first_below : (P : ℕ → Type 0) → ((k : ℕ) → Decision (P k)) → (n : ℕ) →
    ((k : ℕ) × IsFirst P n k) ⊎ NoneBelow P n
first_below P decide zero = inr (λ k lt. absurd (omega arith))
first_below P decide (suc n) = elim (first_below P decide n) [
  | inl found ↦
      inl (found.0, ((let lt : found.0 < n = found.1.0 in omega arith), found.1.1, found.1.2))
  | inr none ↦ elim (decide n) [
    | inl h ↦ inl (n, (omega arith, h, none))
    | inr not ↦ inr (none_more P n none not)
  ]
]

-- the kind that has a number
kind_of : ℕ → Kind
kind_of zero = Cross
kind_of (suc zero) = Wall
kind_of (suc (suc n)) = Pair

kind_again : (k : Kind) → kind_of (kind_number k) ≡ k
unfolding kind_of
kind_again Cross = refl
kind_again Wall = refl
kind_again Pair = refl

-- a stamp by the number of all its parts up to the kind, and the numbers of the disks
stamp_of_parts : ℕ → ℕ → ℕ → Stamp
stamp_of_parts n first second = record {
  tick = n / 3 / 65537;
  round = (n / 3) % 65537;
  kind = kind_of (n % 3);
  first = first;
  second = second;
}

-- the stamp in range that has a rank
stamp_of : ℕ → Stamp
stamp_of n = stamp_of_parts (n / 65536 / 65536) ((n / 65536) % 65536) (n % 65536)

parts_again : (s : Stamp) → s.round < 65537 →
    stamp_of_parts ((s.tick * 65537 + s.round) * 3 + kind_number s.kind) s.first s.second ≡ s
unfolding stamp_of_parts
parts_again s lt =
    let n = s.tick * 65537 + s.round in
    let outer = div-mul-add n 3 (kind_number s.kind) (kind_below s.kind) in
    let last = mod-mul-add n 3 (kind_number s.kind) (kind_below s.kind) in
    let tick = ap (λ (v : ℕ). v / 65537) outer ∙ div-mul-add s.tick 65537 s.round lt in
    let round = ap (λ (v : ℕ). v % 65537) outer ∙ mod-mul-add s.tick 65537 s.round lt in
    let kind = ap kind_of last ∙ kind_again s.kind in
    λ i. record { tick = tick i; round = round i; kind = kind i; first = s.first; second = s.second }

stamp_again : (s : Stamp) → IsInRange s → stamp_of (rank s) ≡ s
unfolding stamp_of
stamp_again s range =
    let n = (s.tick * 65537 + s.round) * 3 + kind_number s.kind in
    let outer = div-mul-add (n * 65536 + s.first) 65536 s.second range.2 in
    let second = mod-mul-add (n * 65536 + s.first) 65536 s.second range.2 in
    let parts = ap (λ (v : ℕ). v / 65536) outer ∙ div-mul-add n 65536 s.first range.1 in
    let first = ap (λ (v : ℕ). v % 65536) outer ∙ mod-mul-add n 65536 s.first range.1 in
    (λ i. stamp_of_parts (parts i) (first i) (second i)) ∙ parts_again s range.0

-- the rank is that of a stamp for which P holds
abbrev IsRank : (Stamp → Type 0) → ℕ → Type 0
IsRank P n = P (stamp_of n) × (rank (stamp_of n) ≡ n)

has_rank : (P : Stamp → Type 0) (t : Stamp) → IsInRange t → P t → IsRank P (rank t)
has_rank P t range h =
    let again = stamp_again t range in
    (subst P (sym again) h, ap (λ (v : Stamp). rank v) again)

-- the least stamp for which P holds, if all such stamps are in range and below a bound
pub least_or_none : (P : Stamp → Type 0) (bound : ℕ) → ((s : Stamp) → Decision (P s)) →
    ((s : Stamp) → P s → IsInRange s) → ((s : Stamp) → P s → rank s < bound) →
    ((s : Stamp) × IsLeast P s) ⊎ HasNone P
least_or_none P bound decide range below = elim (first_below (IsRank P) rank_decided bound) [
  | inl found ↦ inl (stamp_of found.0, least found.0 found.1)
  | inr none ↦ inr (λ t h. none (rank t) (below t h) (has_rank P t (range t h) h))
]
  where
    rank_decided : (n : ℕ) → Decision (IsRank P n)
    rank_decided n = both (decide (stamp_of n)) (same_number (rank (stamp_of n)) n)

    least : (n : ℕ) → IsFirst (IsRank P) bound n → IsLeast P (stamp_of n)
    least n first = (
      first.1.0,
      λ t h before.
          let less = rank_less t (stamp_of n) (range t h) (range (stamp_of n) first.1.0) before in
          let below : rank t < n = subst (λ (v : ℕ). rank t < v) first.1.1 less in
          first.2 (rank t) below (has_rank P t (range t h) h),
    )

test_decides : (b : Bool) → Decision (IsTrue b)
test_decides true = inl refl
test_decides false = inr (λ h. cc)

pub least_of_test : LeastOrNone
least_of_test test bound most = least_or_none (λ s. IsTrue (test s)) bound
    (λ s. test_decides (test s)) (λ s h. (most s h).0) (λ s h. (most s h).1)
