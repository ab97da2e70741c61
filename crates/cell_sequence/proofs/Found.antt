-- The first events of the rows of a cell state.
use Rattle.std.proofs.Common.{◌≡◌, ◌⊎◌, inl, inr, ℕ, ◌+◌, ◌<◌, ◌≤◌, List, length, slice_get, sym}
use Rattle.std.proofs.Common.{ap, ◌∙◌, subst, arith, Option, Some, None}
use Rattle.std.specs.Prelude.{MatchOption}
use Rattle.std.proofs.lemmas.Option.{same_Some, slice_get_within}
use Rattle.fixed_motion.specs.declared.rules.Rules.{Rules}
use Rattle.event_stamps.specs.declared.Stamp.{Stamp}
use Rattle.event_stamps.specs.Least.{HasNone, IsOnly, IsLeastOf, earlier_of}
use Rattle.event_stamps.proofs.Least.{only_least, least_of_either, least_same}
use Rattle.event_rules.specs.Events.{IsWallEvent, IsPairEvent}
use Rattle.cell_grid.specs.Grid.{GridData}
use Rattle.cell_grid.specs.Crossing.{IsCrossEvent}
use Rattle.region_view.specs.declared.action.Placed.{Placed}
use Rattle.region_view.specs.Events.{IsAlone, IsNear}
use Rattle.cell_sequence.specs.Run.{IsStateCandidate}
use Rattle.cell_sequence.specs.Search.{IsNearBelow, IsOfFirstDisk}
use Rattle.cell_sequence.proofs.Next.{row_of_candidate}

below_one_more : (k n : ℕ) → k < n + 1 → (k < n) ⊎ (k ≡ n)
below_one_more k n lt = grind arith

-- ---- pairs
pub none_near : (rules : Rules) (grid : GridData) (placed : List Placed) (i : ℕ) (p : Placed) →
    IsLeastOf (IsNearBelow rules grid placed i p (i + 1)) None
none_near rules grid placed i p = λ s h. let gt = h.1 in let lt = h.2 in omega arith

-- one more disk
pub one_more_near : (rules : Rules) (grid : GridData) (placed : List Placed) (i : ℕ) (p : Placed)
    (j : ℕ) (q : Placed) (first own : Option Stamp) →
    i < j → slice_get placed j ≡ Some q →
    IsLeastOf (IsNearBelow rules grid placed i p j) first →
    MatchOption own (HasNone (IsNear rules grid i p j q)) (IsOnly (IsNear rules grid i p j q)) →
    IsLeastOf (IsNearBelow rules grid placed i p (j + 1)) (earlier_of first own)
one_more_near rules grid placed i p j q first own order at h k =
    least_of_either (IsNearBelow rules grid placed i p j) (IsNear rules grid i p j q)
    (IsNearBelow rules grid placed i p (j + 1)) first own
    (λ t n. (n.0, n.1, (let lt = n.2 in omega arith), n.3))
    (λ t n. (j, order, omega arith, (q, at, n)))
    (λ t r. elim (below_one_more r.0 j r.2) [
      | inl below ↦ inl (r.0, r.1, below, r.3)
      | inr same ↦ inr (at_last t r.0 same r.3)
    ])
    h (only_least (IsNear rules grid i p j q) own k)
  where
    at_last : (t : Stamp) (m : ℕ) → m ≡ j →
        ((d : Placed) × (slice_get placed m ≡ Some d) × IsNear rules grid i p m d t) →
        IsNear rules grid i p j q t
    at_last t m same found =
        let there : slice_get placed j ≡ Some found.0 =
        ap (λ (v : ℕ). slice_get placed v) (sym same) ∙ found.1 in
        let row : found.0 ≡ q = same_Some found.0 q (sym there ∙ at) in
        subst (λ (d : Placed). IsNear rules grid i p j d t) row
        (subst (λ (v : ℕ). IsNear rules grid i p v found.0 t) same found.2)

-- ---- all events of a disk
-- the stamp of an event by itself has the disk's number
alone_first : (rules : Rules) (grid : GridData) (i : ℕ) (p : Placed) (t : Stamp) →
    IsAlone rules grid i p t → t.first ≡ i
alone_first rules grid i p t h = elim h [
  | inl cross ↦ ap (λ (v : Stamp). v.first) cross.2
  | inr wall ↦ ap (λ (v : Stamp). v.first) wall.2
]

pub own_events : (rules : Rules) (grid : GridData) (placed : List Placed) (i : ℕ) (p : Placed)
    (alone near : Option Stamp) →
    slice_get placed i ≡ Some p → IsLeastOf (IsAlone rules grid i p) alone →
    IsLeastOf (IsNearBelow rules grid placed i p (length placed)) near →
    IsLeastOf (IsOfFirstDisk (IsStateCandidate rules grid placed) i) (earlier_of alone near)
own_events rules grid placed i p alone near at ha hn =
    least_of_either (IsAlone rules grid i p) (IsNearBelow rules grid placed i p (length placed))
    (IsOfFirstDisk (IsStateCandidate rules grid placed) i) alone near
    (λ t a. (by_itself t a, alone_first rules grid i p t a))
    (λ t n. with_other t n)
    (λ t c. split t c.0 c.1)
    ha hn
  where
    row : (t : Stamp) → t.first ≡ i → slice_get placed t.first ≡ Some p
    row t first = ap (λ (v : ℕ). slice_get placed v) first ∙ at

    by_itself : (t : Stamp) → IsAlone rules grid i p t → IsStateCandidate rules grid placed t
    by_itself t a =
        let first = alone_first rules grid i p t a in
        elim a [
          | inl cross ↦ inl (
            p,
            row t first,
            subst
                (λ (v : ℕ). IsCrossEvent rules grid v p.disk p.cell t) (sym first) cross,
          )
          | inr wall ↦ inr (inl (
            p,
            row t first,
            subst
                (λ (v : ℕ). IsWallEvent rules v p.disk t.second t) (sym first) wall,
          ))
        ]

    with_other : (t : Stamp) → IsNearBelow rules grid placed i p (length placed) t →
        IsOfFirstDisk (IsStateCandidate rules grid placed) i t
    with_other t n =
        let is = n.3.2.1.2 in
        let first : t.first ≡ i = ap (λ (v : Stamp). v.first) is in
        let second : t.second ≡ n.0 = ap (λ (v : Stamp). v.second) is in
        let order = n.1 in (
          inr (inr (
            omega arith,
            (
              p,
              row t first,
              (
                n.3.0,
                ap (λ (v : ℕ). slice_get placed v) second ∙ n.3.1,
                n.3.2.0,
                subst (λ (v : ℕ). IsPairEvent rules v p.disk t.second n.3.0.disk t) (sym first)
                    (subst (λ (v : ℕ). IsPairEvent rules i p.disk v n.3.0.disk t)
                    (sym second) n.3.2.1),
              ),
            ),
          )),
          first,
        )

    same_row : (t : Stamp) (r : Placed) → t.first ≡ i → slice_get placed t.first ≡ Some r → r ≡ p
    same_row t r first there = same_Some r p (sym there ∙ row t first)

    split : (t : Stamp) → IsStateCandidate rules grid placed t → t.first ≡ i →
        IsAlone rules grid i p t ⊎ IsNearBelow rules grid placed i p (length placed) t
    split t h first = elim h [
      | inl cross ↦ inl (inl (subst (λ (r : Placed). IsCrossEvent rules grid i r.disk r.cell t)
          (same_row t cross.0 first cross.1)
          (subst (λ (v : ℕ). IsCrossEvent rules grid v cross.0.disk cross.0.cell t) first cross.2)))
      | inr event ↦ elim event [
        | inl wall ↦ inl (inr (subst (λ (r : Placed). IsWallEvent rules i r.disk t.second t)
            (same_row t wall.0 first wall.1)
            (subst (λ (v : ℕ). IsWallEvent rules v wall.0.disk t.second t) first wall.2)))
        | inr pair ↦
            let q = pair.1.2.0 in
            let order = pair.0 in
            inr (
              t.second,
              omega arith,
              slice_get_within placed t.second q pair.1.2.1,
              (
                q,
                pair.1.2.1,
                subst (λ (r : Placed). IsNear rules grid i r t.second q t)
                    (same_row t pair.1.0 first pair.1.1) (
                      pair.1.2.2,
                      subst (λ (v : ℕ). IsPairEvent rules v pair.1.0.disk t.second q.disk
                          t) first pair.1.2.3,
                    ),
              ),
            )
      ]
    ]

-- ---- all disks
-- an event whose first disk is below n
abbrev pub IsBelow : (Stamp → Type 0) → ℕ → Stamp → Type 0
IsBelow P n s = P s × (s.first < n)

pub none_before : (rules : Rules) (grid : GridData) (placed : List Placed) →
    IsLeastOf (IsBelow (IsStateCandidate rules grid placed) 0) None
none_before rules grid placed = λ s h. let lt = h.1 in omega arith

-- one more first disk
pub one_more_disk : (rules : Rules) (grid : GridData) (placed : List Placed) (i : ℕ)
    (first own : Option Stamp) →
    IsLeastOf (IsBelow (IsStateCandidate rules grid placed) i) first →
    IsLeastOf (IsOfFirstDisk (IsStateCandidate rules grid placed) i) own →
    IsLeastOf (IsBelow (IsStateCandidate rules grid placed) (i + 1)) (earlier_of first own)
one_more_disk rules grid placed i first own h k =
    let candidate = IsStateCandidate rules grid placed in
    least_of_either (IsBelow candidate i) (IsOfFirstDisk candidate i)
    (IsBelow candidate (i + 1)) first own
    (λ t p. (p.0, let lt = p.1 in omega arith))
    (λ t q. (q.0, let same = q.1 in omega arith))
    (λ t r. elim (below_one_more t.first i r.1) [
      | inl below ↦ inl (r.0, below)
      | inr same ↦
          inr (r.0, same)
    ])
    h k

pub all_disks : (rules : Rules) (grid : GridData) (placed : List Placed) (n : ℕ)
    (first : Option Stamp) → length placed ≤ n →
    IsLeastOf (IsBelow (IsStateCandidate rules grid placed) n) first →
    IsLeastOf (IsStateCandidate rules grid placed) first
all_disks rules grid placed n first le h =
    least_same (IsBelow (IsStateCandidate rules grid placed) n)
    (IsStateCandidate rules grid placed) first (λ t p. p.0)
    (λ t c. (
      c,
      let row = row_of_candidate rules grid placed t c in let lt =
          slice_get_within placed t.first row.0 row.1 in omega arith,
    )) h
