-- Messages that are given back: how many messages of a region are among some entries.
use Rattle.std.proofs.Common.{◌≡◌, ◌≢◌, inl, inr, ℕ, zero, suc, ◌+◌, ◌-◌, ◌<◌, ◌≤◌, List, [], ◌∷◌, ◌++◌, length, get_or, slice_set, slice_get, take, drop, Option, Some, None, sym, ap, subst, ◌∙◌, arith, refl}
use Rattle.std.proofs.lemmas.List.{take-append-drop, get_or-set_same, get_or-set_other}
use Rattle.std.proofs.lemmas.Option.{none-some, same_Some}
use Rattle.local_run.specs.declared.entry.Entry.{Entry}
use Rattle.local_run.specs.declared.entry.Entry.TheVariants.{Native, Heard}
use Rattle.local_run.specs.Taken.{taken_of}
use Rattle.event_log.specs.Logged.{Logged, entries_in, sender_of, senders_in}
use Rattle.local_run.proofs.Among.{same_or_other}
use Rattle.local_run.proofs.Taken.{taken_joined, taken_native, taken_heard, taken_from_other}
use Rattle.region_parts.proofs.Firsts.{below_or_past}

pub taken_in_parts : (q n : ℕ) (es : List Entry) →
    taken_of q es ≡ taken_of q (take n es) + taken_of q (drop n es)
taken_in_parts q n es =
    ap (taken_of q) (sym (take-append-drop n es)) ∙ taken_joined q (take n es) (drop n es)

-- ---- one entry after another
-- more entries took in no less
pub taken_grow : (q m n : ℕ) (es : List Entry) → m ≤ n → taken_of q (take m es) ≤ taken_of q (take n es)
taken_grow q zero n es le = let none : taken_of q [] ≡ 0 = refl in omega arith
taken_grow q (suc m) zero es le = absurd (omega arith)
taken_grow q (suc m) (suc n) [] le = omega arith
taken_grow q (suc m) (suc n) (e ∷ es) le =
    let rest = taken_grow q m n es (omega arith) in
    let first = taken_joined q (e ∷ []) (take m es) in
    let second = taken_joined q (e ∷ []) (take n es) in
    omega arith

-- the entry at a place, by who sent it
next_entry : (i : ℕ) (log : List Logged) (s : Option ℕ) → slice_get (senders_in log) i ≡ Some s →
    (e : Entry) × (sender_of e ≡ s) × (take (suc i) (entries_in log) ≡ take i (entries_in log) ++ e ∷ [])
next_entry i [] s is = absurd (none-some s is)
next_entry zero (l ∷ log) s is = (l.0, same_Some (sender_of l.0) s is, refl)
next_entry (suc i) (l ∷ log) s is =
    let rest = next_entry i log s is in (rest.0, rest.1, ap (λ (es : List Entry). l.0 ∷ es) rest.2)

-- no message more
pub taken_none : (q i : ℕ) (log : List Logged) → slice_get (senders_in log) i ≡ Some None →
    taken_of q (take (suc i) (entries_in log)) ≡ taken_of q (take i (entries_in log))
taken_none q i log is =
    let next = next_entry i log None is in ap (taken_of q) next.2 ∙ by_entry next.0 next.1
  where
    by_entry : (e : Entry) → sender_of e ≡ None →
        taken_of q (take i (entries_in log) ++ e ∷ []) ≡ taken_of q (take i (entries_in log))
    by_entry (Native x) is = taken_native q x (take i (entries_in log))
    by_entry (Heard p m) is = absurd (none-some p (sym is))

-- one of the region that sent it, and none of another
pub taken_one : (q i : ℕ) (log : List Logged) → slice_get (senders_in log) i ≡ Some (Some q) →
    taken_of q (take (suc i) (entries_in log)) ≡ taken_of q (take i (entries_in log)) + 1
taken_one q i log is =
    let next = next_entry i log (Some q) is in ap (taken_of q) next.2 ∙ by_entry next.0 next.1
  where
    by_entry : (e : Entry) → sender_of e ≡ Some q →
        taken_of q (take i (entries_in log) ++ e ∷ []) ≡ taken_of q (take i (entries_in log)) + 1
    by_entry (Native x) is = absurd (none-some q is)
    by_entry (Heard p m) is = subst (λ (k : ℕ). taken_of q (take i (entries_in log) ++ Heard k m ∷ [])
        ≡ taken_of q (take i (entries_in log)) + 1) (sym (same_Some p q is))
        (taken_heard q m (take i (entries_in log)))

pub taken_else : (p q i : ℕ) (log : List Logged) → slice_get (senders_in log) i ≡ Some (Some p) → q ≢ p →
    taken_of q (take (suc i) (entries_in log)) ≡ taken_of q (take i (entries_in log))
taken_else p q i log is other =
    let next = next_entry i log (Some p) is in ap (taken_of q) next.2 ∙ by_entry next.0 next.1
  where
    by_entry : (e : Entry) → sender_of e ≡ Some p →
        taken_of q (take i (entries_in log) ++ e ∷ []) ≡ taken_of q (take i (entries_in log))
    by_entry (Native x) is = absurd (none-some p is)
    by_entry (Heard k m) is = taken_from_other k q m (take i (entries_in log))
        (λ same. other (sym same ∙ same_Some k p is))

-- there is one to count if it is one of the entries before an end
pub one_to_come : (counts : List ℕ) (q i end all : ℕ) (log : List Logged) →
    slice_get (senders_in log) i ≡ Some (Some q) → i < end → taken_of q (take end (entries_in log)) ≤ all →
    get_or counts q 0 + taken_of q (take i (entries_in log)) ≡ all → 1 ≤ get_or counts q 0
one_to_come counts q i end all log is lt few so_far =
    let one = taken_one q i log is in
    let grow = taken_grow q (suc i) end (entries_in log) (omega arith) in
    omega arith

-- counts with one less for a region
pub counted_down : (counts : List ℕ) (p q i : ℕ) (log : List Logged) (all : ℕ) → p < length counts →
    1 ≤ get_or counts p 0 → slice_get (senders_in log) i ≡ Some (Some p) →
    get_or counts q 0 + taken_of q (take i (entries_in log)) ≡ all →
    get_or (slice_set counts p (get_or counts p 0 - 1)) q 0 + taken_of q (take (suc i) (entries_in log)) ≡ all
counted_down counts p q i log all lt some is so_far = elim (same_or_other q p) [
  | inl same ↦ subst (λ (k : ℕ). get_or (slice_set counts p (get_or counts p 0 - 1)) k 0
      + taken_of k (take (suc i) (entries_in log)) ≡ all) (sym same) (here (subst (λ (k : ℕ). get_or counts k 0
      + taken_of k (take i (entries_in log)) ≡ all) same so_far))
  | inr other ↦
      let set = get_or-set_other counts p q (get_or counts p 0 - 1) 0 other in
      let more = taken_else p q i log is other in
      omega arith
]
  where
    here : get_or counts p 0 + taken_of p (take i (entries_in log)) ≡ all →
        get_or (slice_set counts p (get_or counts p 0 - 1)) p 0 + taken_of p (take (suc i) (entries_in log)) ≡ all
    here before =
        let set = get_or-set_same counts p (get_or counts p 0 - 1) 0 lt in
        let more = taken_one p i log is in
        omega arith

pub in_range : (xs : List ℕ) (q : ℕ) → 1 ≤ get_or xs q 0 → q < length xs
in_range [] q some = absurd (omega arith)
in_range (x ∷ xs) zero some = omega arith
in_range (x ∷ xs) (suc q) some = let rest = in_range xs q some in omega arith

-- ---- counting anew
-- a message of a region that has no count isn't among the entries
pub has_count : (n p i : ℕ) (log : List Logged) → slice_get (senders_in log) i ≡ Some (Some p) →
    ((q : ℕ) → n ≤ q → taken_of q (entries_in log) ≡ 0) → p < n
has_count n p i log is none = elim (below_or_past p n) [
  | inl within ↦ within
  | inr past ↦
      let one = taken_one p i log is in
      let parts = taken_in_parts p (suc i) (entries_in log) in
      let all = none p past in
      absurd (omega arith)
]

-- counts with one more for a region
pub counted_up : (counts : List ℕ) (p q i gone : ℕ) (log : List Logged) → p < length counts →
    slice_get (senders_in log) i ≡ Some (Some p) → get_or counts q 0 + gone ≡ taken_of q (take i (entries_in log)) →
    get_or (slice_set counts p (get_or counts p 0 + 1)) q 0 + gone ≡ taken_of q (take (suc i) (entries_in log))
counted_up counts p q i gone log lt is so_far = elim (same_or_other q p) [
  | inl same ↦
      let set = ap (λ (k : ℕ). get_or (slice_set counts p (get_or counts p 0 + 1)) k 0) same
      ∙ get_or-set_same counts p (get_or counts p 0 + 1) 0 lt in
      let before = ap (λ (k : ℕ). get_or counts k 0) same in
      let more = taken_one q i log (subst (λ (k : ℕ). slice_get (senders_in log) i ≡ Some (Some k)) (sym same) is) in
      omega arith
  | inr other ↦
      let set = get_or-set_other counts p q (get_or counts p 0 + 1) 0 other in
      let more = taken_else p q i log is other in
      omega arith
]
