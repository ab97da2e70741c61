-- Logs that are split and joined, and what is before a stamp in them.
use Rattle.std.proofs.Common.{◌≡◌, ◌⊎◌, List, [], ◌∷◌, ◌++◌, sym, refl}
use Rattle.event_stamps.specs.declared.Stamp.{Stamp}
use Rattle.event_stamps.specs.Order.{Before}
use Rattle.event_stamps.specs.Ordered as ordered
use Rattle.event_stamps.proofs.StampOrder.{not_before_itself}
use Rattle.event_stamps.proofs.Rising as rising
use Rattle.event_stamps.proofs.Parts as parts
use Rattle.region_messages.specs.Trails.{IsAmong}
use Rattle.local_run.specs.declared.home.Home.{Home}
use Rattle.local_run.specs.declared.entry.Entry.{Entry}
use Rattle.local_run.specs.Entries.{entry_stamp, EntriesRiseAfter, RiseFrom, entries_below, entries_from, clock_of}
use Rattle.local_run.specs.LocalRun.{At, Local, after_entry, after_log, start_of}
use Rattle.local_run.specs.LocalRun.{now_of, Moves}
use Rattle.local_run.specs.Answers.{with_entry}

-- ---- moves and what they leave
pub moves_split : (h : Home) (a : At) (xs ys : List Entry) → Moves h a (xs ++ ys) →
    Moves h a xs × Moves h (after_log a xs) ys
moves_split h a [] ys m = (tt, m)
moves_split h a (x ∷ xs) ys m =
    let rest = moves_split h (after_entry a x) xs ys m.1 in ((m.0, rest.0), rest.1)

pub moves_join : (h : Home) (a : At) (xs ys : List Entry) → Moves h a xs →
    Moves h (after_log a xs) ys → Moves h a (xs ++ ys)
moves_join h a [] ys m n = n
moves_join h a (x ∷ xs) ys m n = (m.0, moves_join h (after_entry a x) xs ys m.1 n)

pub after_join : (a : At) (xs ys : List Entry) → after_log a (xs ++ ys) ≡ after_log (after_log a xs) ys
after_join a [] ys = refl
after_join a (x ∷ xs) ys = after_join (after_entry a x) xs ys

pub now_appended : (r : Local) (e : Entry) → now_of (with_entry r e) ≡ after_entry (now_of r) e
now_appended r e = after_join (start_of r) r.log (e ∷ [])

-- ---- lists by stamps, for proofs about logs
abbrev pub AllBefore : Stamp → List Entry → Type 0
AllBefore s log = ordered.AllBefore entry_stamp s log

pub below_then_from : (s : Stamp) (log : List Entry) → log ≡ entries_below s log ++ entries_from s log
below_then_from s log = sym (parts.split entry_stamp log s)

pub below_in : (s : Stamp) (e : Entry) (es : List Entry) → Before (entry_stamp e) s →
    entries_below s (e ∷ es) ≡ e ∷ entries_below s es
below_in s e es = parts.below_first entry_stamp s e es

pub below_out : (s : Stamp) (e : Entry) (es : List Entry) → ¬ Before (entry_stamp e) s →
    entries_below s (e ∷ es) ≡ []
below_out s e es = parts.below_none entry_stamp s e es

pub all_below : (s : Stamp) (log : List Entry) → AllBefore s (entries_below s log)
all_below s log = parts.all_below entry_stamp s log

pub rises_log_tail : (s : Stamp) (es : List Entry) → EntriesRiseAfter s es → RiseFrom s es
rises_log_tail s es = rising.from_if_after entry_stamp s es

pub among_after : (s : Stamp) (es : List Entry) (x : Entry) → EntriesRiseAfter s es → IsAmong x es →
    Before s (entry_stamp x)
among_after s es x = rising.among_after entry_stamp s es x

pub among_before : (s : Stamp) (log : List Entry) (x : Entry) → AllBefore s log → IsAmong x log →
    Before (entry_stamp x) s
among_before s log x = rising.among_before entry_stamp s log x

-- a stamp that the last is before comes after all
pub all_before_turn : (f s : Stamp) (log : List Entry) → RiseFrom f log →
    (log ≡ []) ⊎ Before (clock_of f log) s → AllBefore s log
all_before_turn f s log = rising.all_before_turn entry_stamp f s log

pub below_whole : (s : Stamp) (log : List Entry) → AllBefore s log → entries_below s log ≡ log
below_whole s log = parts.below_whole entry_stamp s log

-- if the last entry is before the stamp, or there is none, all stay
pub below_kept : (f s : Stamp) (log : List Entry) → RiseFrom f log →
    (log ≡ []) ⊎ Before (clock_of f log) s → entries_below s log ≡ log
below_kept f s log rises turn = below_whole s log (all_before_turn f s log rises turn)

-- and only then
pub kept_below : (f s : Stamp) (log : List Entry) → entries_below s log ≡ log →
    (log ≡ []) ⊎ Before (clock_of f log) s
kept_below f s log = parts.kept_below entry_stamp f s log

pub rises_appended : (f : Stamp) (log : List Entry) (e : Entry) → RiseFrom f log →
    ¬ Before (entry_stamp e) f → (log ≡ []) ⊎ Before (clock_of f log) (entry_stamp e) →
    RiseFrom f (log ++ e ∷ [])
rises_appended f log e rises late turn =
    rising.from_joined entry_stamp f (entry_stamp e) log (e ∷ []) rises
    (all_before_turn f (entry_stamp e) log rises turn) (not_before_itself (entry_stamp e), tt) (late, tt)
