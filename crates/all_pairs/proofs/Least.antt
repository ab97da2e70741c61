-- The least of the events that a search found so far.
use Rattle.std.proofs.Common.{◌≡◌, ◌⊎◌, inl, inr, ℕ, ◌+◌, ◌<◌, ◌≤◌, List, sym, ap, subst, arith}
use Rattle.std.proofs.Common.{Option, Some, None, slice_get, get_or, length, ◌∙◌, pos}
use Rattle.std.specs.Prelude.{MatchOption}
use Rattle.std.proofs.lemmas.Option.{slice_get_within, same_Some, slice_get-get_or}
use Rattle.fixed_motion.specs.declared.rules.Rules.{Rules}
use Rattle.fixed_motion.specs.declared.disk.Disk.{Disk}
use Rattle.event_stamps.specs.declared.Stamp.{Stamp}
use Rattle.event_stamps.specs.Least.{IsOnly, IsLeastOf, earlier_of}
use Rattle.event_stamps.proofs.Least.{only_least, least_of_either, least_same}
use Rattle.event_rules.specs.Events.{IsWallEvent, IsWallBelow, IsPairEvent}
use Rattle.event_rules.specs.Run.{IsCandidate}
use Rattle.event_rules.proofs.Ranges.{side_range}
use Rattle.all_pairs.specs.Search.{IsPairBelow}

below_one_more : (k n : ℕ) → k < n + 1 → (k < n) ⊎ (k ≡ n)
below_one_more k n lt = grind arith

pub no_pair : (rules : Rules) (disks : List Disk) (i : ℕ) (a : Disk) →
    IsLeastOf (IsPairBelow rules disks i a (i + 1)) None
no_pair rules disks i a = λ s h. let gt = h.1 in let lt = h.2 in omega arith

-- one more disk
pub one_more_pair : (rules : Rules) (disks : List Disk) (i : ℕ) (a : Disk) (j : ℕ) (b : Disk)
    (first own : Option Stamp) → i < j → slice_get disks j ≡ Some b →
    IsLeastOf (IsPairBelow rules disks i a j) first →
    MatchOption own ((s : Stamp) → IsPairEvent rules i a j b s → ⊥)
    (IsOnly (IsPairEvent rules i a j b)) →
    IsLeastOf (IsPairBelow rules disks i a (j + 1)) (earlier_of first own)
one_more_pair rules disks i a j b first own order at h k =
    least_of_either (IsPairBelow rules disks i a j) (IsPairEvent rules i a j b)
    (IsPairBelow rules disks i a (j + 1)) first own
    (λ t p. (p.0, p.1, (let lt = p.2 in omega arith), p.3))
    (λ t q. (j, order, omega arith, (b, at, q)))
    (λ t r. elim (below_one_more r.0 j r.2) [
      | inl below ↦ inl (r.0, r.1, below, r.3)
      | inr same ↦ inr (at_last t r.0 same r.3)
    ])
    h (only_least (IsPairEvent rules i a j b) own k)
  where
    at_last : (t : Stamp) (m : ℕ) → m ≡ j →
        ((d : Disk) × (slice_get disks m ≡ Some d) × IsPairEvent rules i a m d t) →
        IsPairEvent rules i a j b t
    at_last t m same found =
        let there : slice_get disks j ≡ Some found.0 = ap (λ (v : ℕ). slice_get disks v) (sym same)
        ∙ found.1 in
        let disk : found.0 ≡ b = same_Some found.0 b (sym there ∙ at) in
        subst (λ (d : Disk). IsPairEvent rules i a j d t) disk
        (subst (λ (v : ℕ). IsPairEvent rules i a v found.0 t) same found.2)

-- the events whose first disk is i: at its walls, and with higher disks
pub own_events : (rules : Rules) (disks : List Disk) (i : ℕ) (a : Disk) (wall pair : Option Stamp) →
    slice_get disks i ≡ Some a →
    IsLeastOf (IsWallBelow rules i a 4) wall →
    IsLeastOf (IsPairBelow rules disks i a (length disks)) pair →
    IsLeastOf (λ t. IsCandidate rules disks t × (t.first ≡ i)) (earlier_of wall pair)
own_events rules disks i a wall pair at hw hp =
    least_of_either (IsWallBelow rules i a 4) (IsPairBelow rules disks i a (length disks))
    (λ t. IsCandidate rules disks t × (t.first ≡ i)) wall pair
    (λ t w. let is = w.2.2 in let first : t.first ≡ i = ap (λ (v : Stamp). v.first) is in
    let side : t.second ≡ w.0 = ap (λ (v : Stamp). v.second) is in (
      inl (
        a,
        ap (λ (v : ℕ). slice_get disks v) first ∙ at,
        subst (λ (v : ℕ). IsWallEvent rules v a t.second t) (sym first)
            (subst (λ (v : ℕ). IsWallEvent rules i a v t) (sym side) w.2),
      ),
      first,
    ))
    (λ t p. let is = p.3.2.2 in let first : t.first ≡ i = ap (λ (v : Stamp). v.first) is in
    let second : t.second ≡ p.0 = ap (λ (v : Stamp). v.second) is in let order = p.1 in (
      inr (
        omega arith,
        (
          a,
          ap (λ (v : ℕ). slice_get disks v) first ∙ at,
          (
            p.3.0,
            ap (λ (v : ℕ). slice_get disks v) second ∙ p.3.1,
            subst (λ (v : ℕ). IsPairEvent rules v a t.second p.3.0 t) (sym first)
                (subst (λ (v : ℕ). IsPairEvent rules i a v p.3.0 t) (sym second) p.3.2),
          ),
        ),
      ),
      first,
    ))
    (λ t c. by_kind t c.0 c.1)
    hw hp
  where
    by_kind : (t : Stamp) → IsCandidate rules disks t → t.first ≡ i → IsWallBelow rules i a 4 t
        ⊎ IsPairBelow rules disks i a (length disks) t
    by_kind t h first = elim h [
      | inl wall ↦
          let there : slice_get disks i ≡ Some wall.0 =
          ap (λ (v : ℕ). slice_get disks v) (sym first) ∙ wall.1 in
          let disk : wall.0 ≡ a = same_Some wall.0 a (sym there ∙ at) in
          inl (
            t.second,
            side_range rules wall.0 t.second _ wall.2.0.past,
            subst (λ (d : Disk). IsWallEvent rules i d t.second t) disk
                (subst (λ (v : ℕ). IsWallEvent rules v wall.0 t.second t) first wall.2),
          )
      | inr pair ↦
          let there : slice_get disks i ≡ Some pair.1.0 =
          ap (λ (v : ℕ). slice_get disks v) (sym first) ∙ pair.1.1 in
          let disk : pair.1.0 ≡ a = same_Some pair.1.0 a (sym there ∙ at) in
          let order = pair.0 in
          inr (
            t.second,
            omega arith,
            slice_get_within disks t.second pair.1.2.0 pair.1.2.1,
            (
              pair.1.2.0,
              pair.1.2.1,
              subst (λ (d : Disk). IsPairEvent rules i d t.second pair.1.2.0 t) disk
                  (subst (λ (v : ℕ). IsPairEvent rules v pair.1.0 t.second pair.1.2.0 t) first
                  pair.1.2.2),
            ),
          )
    ]

-- an event whose first disk is below n
abbrev pub IsBelow : (Stamp → Type 0) → ℕ → Stamp → Type 0
IsBelow P n s = P s × (s.first < n)

pub no_disk_before : (rules : Rules) (disks : List Disk) →
    IsLeastOf (IsBelow (IsCandidate rules disks) 0) None
no_disk_before rules disks = λ s h. let lt = h.1 in omega arith

-- one more first disk
pub one_more_disk : (rules : Rules) (disks : List Disk) (i : ℕ) (first own : Option Stamp) →
    IsLeastOf (IsBelow (IsCandidate rules disks) i) first →
    IsLeastOf (λ t. IsCandidate rules disks t × (t.first ≡ i)) own →
    IsLeastOf (IsBelow (IsCandidate rules disks) (i + 1)) (earlier_of first own)
one_more_disk rules disks i first own h k =
    least_of_either (IsBelow (IsCandidate rules disks) i)
    (λ t. IsCandidate rules disks t × (t.first ≡ i)) (IsBelow (IsCandidate rules disks) (i + 1))
    first own
    (λ t p. (p.0, let lt = p.1 in omega arith))
    (λ t q. (q.0, let same = q.1 in omega arith))
    (λ t r. elim (below_one_more t.first i r.1)
    [ inl below ↦ inl (r.0, below) | inr same ↦ inr (r.0, same) ])
    h k

-- the first disk of an event
pub first_within : (rules : Rules) (disks : List Disk) (t : Stamp) → IsCandidate rules disks t →
    t.first < length disks
first_within rules disks t h = elim h [
  | inl wall ↦ slice_get_within disks t.first wall.0 wall.1
  | inr pair ↦
      slice_get_within disks t.first pair.1.0 pair.1.1
]

-- all disks
pub all_disks : (rules : Rules) (disks : List Disk) (n : ℕ) (first : Option Stamp) →
    length disks ≤ n → IsLeastOf (IsBelow (IsCandidate rules disks) n) first →
    IsLeastOf (IsCandidate rules disks) first
all_disks rules disks n first le h =
    least_same (IsBelow (IsCandidate rules disks) n) (IsCandidate rules disks) first (λ t p. p.0)
    (λ t c. (c, let lt = first_within rules disks t c in omega arith)) h

-- what a read past the end of a list of disks would give
abbrev pub no_disk : Disk
no_disk = record { x = pos 0; y = pos 0; vx = pos 0; vy = pos 0; size = pos 0; base = 0; mark = 0 }

-- the disk that a read gives
pub disk_at : (disks : List Disk) (i : ℕ) → i < length disks →
    slice_get disks i ≡ Some (get_or disks i no_disk)
disk_at disks i lt = slice_get-get_or disks i no_disk lt
