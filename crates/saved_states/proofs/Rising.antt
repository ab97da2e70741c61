-- Positions that rise.
use Rattle.std.proofs.Common.{◌≡◌, ℕ, zero, suc, ◌<◌, ◌≤◌, [], ◌∷◌, ◌++◌, length, get_or, ◌-◌, Some, None, slice_get, take, drop, sym, ap, ◌∙◌, refl, arith}
use Rattle.std.specs.List.Sorted.{IsNonDecreasingBy, IsPartitionPoint}
use Rattle.std.proofs.lemmas.Option.{none-some, same_Some, slice_get_within, slice_get-get_or}
use Rattle.region_view.specs.Setting.{RowList}
use Rattle.saved_states.specs.Steps.{StepList, RiseAfter, last_position}

-- the first n steps are at positions up to this one, and the others after it
abbrev pub IsPlace : ℕ → StepList → ℕ → Type 0
IsPlace position steps n =
    IsPartitionPoint (λ step. step.0 ≤ position) (λ step. position < step.0) steps n

after : (n : ℕ) (steps : StepList) (k : ℕ) (d : ℕ × RowList) → RiseAfter n steps → k < length steps →
    n < (get_or steps k d).0
after n [] k d r lt = absurd (omega arith)
after n (step ∷ steps) zero d r lt = r.0
after n (step ∷ steps) (suc k) d r lt =
    let more = after step.0 steps k d r.1 (omega arith) in
    let first = r.0 in
    omega arith

pub non_decreasing : (n : ℕ) (steps : StepList) → RiseAfter n steps →
    IsNonDecreasingBy (λ step. step.0) steps
non_decreasing n [] r i j d le lt = absurd (omega arith)
non_decreasing n (step ∷ steps) r zero zero d le lt = omega arith
non_decreasing n (step ∷ steps) r zero (suc j) d le lt =
    let more = after step.0 steps j d r.1 (omega arith) in omega arith
non_decreasing n (step ∷ steps) r (suc i) zero d le lt = absurd (omega arith)
non_decreasing n (step ∷ steps) r (suc i) (suc j) d le lt =
    non_decreasing step.0 steps r.1 i j d (omega arith) (omega arith)

pub rise_push : (n : ℕ) (steps : StepList) (position : ℕ) (rows : RowList) → RiseAfter n steps →
    last_position n steps < position → RiseAfter n (steps ++ (position, rows) ∷ [])
rise_push n [] position rows r lt = (lt, tt)
rise_push n (step ∷ steps) position rows r lt =
    (r.0, rise_push step.0 steps position rows r.1 lt)

pub rise_take : (k n : ℕ) (steps : StepList) → RiseAfter n steps → RiseAfter n (take k steps)
rise_take zero n steps r = tt
rise_take (suc k) n [] r = tt
rise_take (suc k) n (step ∷ steps) r = (r.0, rise_take k step.0 steps r.1)

pub rise_drop : (k n : ℕ) (steps : StepList) → RiseAfter n steps →
    RiseAfter (last_position n (take k steps)) (drop k steps)
rise_drop zero n steps r = r
rise_drop (suc k) n [] r = tt
rise_drop (suc k) n (step ∷ steps) r = rise_drop k step.0 steps r.1

-- ---- the place of a position
pub next_place : (position : ℕ) (step : ℕ × RowList) (steps : StepList) (n : ℕ) →
    IsPlace position (step ∷ steps) (suc n) → IsPlace position steps n
next_place position step steps n h = (
  λ k d low high. h.0 (suc k) d (omega arith) (omega arith),
  λ k d low high. h.1 (suc k) d (omega arith) (omega arith),
)

not_before : (n k : ℕ) (steps : StepList) → RiseAfter n steps → n ≤ last_position n (take k steps)
not_before n zero steps r = omega arith
not_before n (suc k) [] r = omega arith
not_before n (suc k) (step ∷ steps) r =
    let first = r.0 in let more = not_before step.0 k steps r.1 in omega arith

-- the last position of some steps is that of their end
pub own_place : (k n : ℕ) (steps : StepList) → RiseAfter n steps → k ≤ length steps →
    IsPlace (last_position n (take k steps)) steps k
own_place zero n steps r le =
    (λ i d low high. absurd (omega arith), λ i d low high. after n steps i d r high)
own_place (suc k) n [] r le = absurd (omega arith)
own_place (suc k) n (step ∷ steps) r le = more (own_place k step.0 steps r.1 (omega arith))
  where
    more : IsPlace (last_position step.0 (take k steps)) steps k →
        IsPlace (last_position step.0 (take k steps)) (step ∷ steps) (suc k)
    more rest = (λ i d low high. up_to i d high, beyond)
      where
        up_to : (i : ℕ) (d : ℕ × RowList) → i < suc k →
            (get_or (step ∷ steps) i d).0 ≤ last_position step.0 (take k steps)
        up_to zero d high = not_before step.0 k steps r.1
        up_to (suc i) d high = rest.0 i d (omega arith) (omega arith)

        beyond : (i : ℕ) (d : ℕ × RowList) → suc k ≤ i → i < suc (length steps) →
            last_position step.0 (take k steps) < (get_or (step ∷ steps) i d).0
        beyond zero d low high = absurd (omega arith)
        beyond (suc i) d low high = rest.1 i d (omega arith) (omega arith)

-- the end of more steps than are at positions up to this one isn't before it
pub place_after : (position k j n : ℕ) (steps : StepList) → RiseAfter n steps →
    IsPlace position steps j → j < k → k ≤ length steps → position ≤ last_position n (take k steps)
place_after position k j n steps r place lt le =
    let low = (own_place k n steps r le).0 j (0, []) (omega arith) lt in
    let high = place.1 j (0, []) (omega arith) (omega arith) in
    omega arith

-- ---- the last step
last_there : (n first : ℕ) (steps : StepList) (step : ℕ × RowList) → length steps ≡ suc n →
    slice_get steps n ≡ Some step → last_position first steps ≡ step.0
last_there n first [] step long e = absurd (omega arith)
last_there zero first (s ∷ []) step long e = ap (λ (v : ℕ × RowList). v.0) (same_Some s step e)
last_there zero first (s ∷ t ∷ steps) step long e = absurd (omega arith)
last_there (suc n) first (s ∷ []) step long e = absurd (omega arith)
last_there (suc n) first (s ∷ t ∷ steps) step long e =
    last_there n s.0 (t ∷ steps) step (omega arith) e

pub last_read : (first : ℕ) (steps : StepList) (step : ℕ × RowList) →
    Some step ≡ slice_get steps (length steps - 1) → step.0 ≡ last_position first steps
last_read first steps step e =
    let within = slice_get_within steps (length steps - 1) step (sym e) in
    sym (last_there (length steps - 1) first steps step (omega arith) (sym e))

pub none_read : (first : ℕ) (steps : StepList) → None ≡ slice_get steps (length steps - 1) →
    first ≡ last_position first steps
none_read first [] e = refl
none_read first (step ∷ steps) e =
    absurd (none-some (get_or (step ∷ steps) (length (step ∷ steps) - 1) step) (e ∙ slice_get-get_or
    (step ∷ steps) (length (step ∷ steps) - 1) step (omega arith)))
