-- The place in a log where a stamp would be, given the heads.
use Rattle.std.proofs.Common.{◌≡◌, ℕ, ◌<◌, ◌≤◌, true, false, List, get_or, length, map, sym, ap, ◌∙◌, arith, ◌-◌, ◌==◌, Bool, [], ◌∷◌, take, slice_get, None, refl}
use Rattle.std.specs.List.Sorted.{IsPartitionedBy, IsPartitionPoint}
use Rattle.std.proofs.lemmas.List.{get_or-map, length-map}
use Rattle.event_stamps.specs.declared.Stamp.{Stamp}
use Rattle.region_messages.specs.Trails.{is_before}
use Rattle.local_run.specs.declared.entry.Entry.{Entry}
use Rattle.local_run.specs.Entries.{entry_stamp, RiseFrom}
use Rattle.local_run.proofs.Counted.{IsPlace, partitioned}
use Rattle.event_log.specs.declared.heads.Head.{Head}
use Rattle.event_log.proofs.Laid.{head_stamp, whole_head}
use Rattle.event_log.specs.Logged.{Logged}

-- heads have the stamps of these entries
abbrev pub HaveStamps : List Head → List Entry → Type 0
HaveStamps heads es = map head_stamp heads ≡ map entry_stamp es

same_length : (heads : List Head) (es : List Entry) → HaveStamps heads es → length heads ≡ length es
same_length heads es same = sym (length-map heads head_stamp) ∙ ap length same ∙ length-map es entry_stamp

same_stamp : (heads : List Head) (es : List Entry) (k : ℕ) (h : Head) (e : Entry) → HaveStamps heads es →
    k < length es → (get_or heads k h).stamp ≡ entry_stamp (get_or es k e)
same_stamp heads es k h e same lt =
    let count = same_length heads es same in
    sym (get_or-map head_stamp heads k h (entry_stamp e) (omega arith))
    ∙ ap (λ (l : List Stamp). get_or l k (entry_stamp e)) same
    ∙ get_or-map entry_stamp es k e (entry_stamp e) lt

-- a head for each entry, and the other way round
abbrev some_head : Entry → Head
some_head e = whole_head (entry_stamp e) 0 0

pub heads_partitioned : (f t : Stamp) (heads : List Head) (es : List Entry) (e : Entry) →
    HaveStamps heads es → RiseFrom f es → IsPartitionedBy (λ h. is_before h.stamp t) heads
heads_partitioned f t heads es e same r i j d le lt is =
    let count = same_length heads es same in
    let there = same_stamp heads es j d e same (omega arith) in
    let here = same_stamp heads es i d e same (omega arith) in
    ap (λ (s : Stamp). is_before s t) here
    ∙ partitioned f t es r i j e le (omega arith) (ap (λ (s : Stamp). is_before s t) (sym there) ∙ is)

pub place_of_heads : (t : Stamp) (heads : List Head) (es : List Entry) (n : ℕ) → HaveStamps heads es →
    n ≤ length heads →
    IsPartitionPoint (λ h. is_before h.stamp t ≡ true) (λ h. is_before h.stamp t ≡ false) heads n →
    IsPlace t es n
place_of_heads t heads es n same le point =
    let count = same_length heads es same in (
      λ k d low high.
          ap (λ (s : Stamp). is_before s t) (sym (same_stamp heads es k (some_head d) d same (omega arith)))
          ∙ point.0 k (some_head d) low high,
      λ k d low high.
          ap (λ (s : Stamp). is_before s t) (sym (same_stamp heads es k (some_head d) d same (omega arith)))
          ∙ point.1 k (some_head d) low (omega arith),
    )

-- ---- whether there is an entry
pub some_there : (b : Bool) (n : ℕ) → b ≡ (n == 0) → b ≡ false → 0 < n
some_there b n is off = grind arith

pub none_there : (b : Bool) (n : ℕ) → b ≡ (n == 0) → b ≡ true → n ≡ 0
none_there b n is on = grind arith

pub nothing_to_take : (log : List Logged) → length log ≡ 0 → log ≡ take (length log - 1) log
nothing_to_take [] none = refl
nothing_to_take (l ∷ log) none = absurd (omega arith)

pub nothing_last : (log : List Logged) → length log ≡ 0 → None ≡ slice_get log (length log - 1)
nothing_last [] none = refl
nothing_last (l ∷ log) none = absurd (omega arith)
