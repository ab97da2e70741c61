-- The view at the floor and the newest one, and the log that leads from the one to the other.
use Rattle.std.proofs.Common.{◌≡◌, ℕ, zero, suc, ◌-◌, List, [], ◌∷◌, ◌++◌, length, take, drop, slice_get, sym, ap, ◌∙◌, subst, refl, arith}
use Rattle.std.specs.Prelude.{unwrap_or}
use Rattle.std.proofs.lemmas.List.{map-append, take-map, drop-map}
use Rattle.event_stamps.specs.declared.Stamp.{Stamp}
use Rattle.region_view.specs.Views.{ViewData}
use Rattle.region_queue.specs.Queue.{StandsFor}
use Rattle.local_run.specs.declared.home.Home.{Home}
use Rattle.local_run.specs.declared.entry.Entry.{Entry}
use Rattle.local_run.specs.Entries.{clock_of, last_entry_stamp}
use Rattle.local_run.specs.LocalRun.{after_log}
use Rattle.event_log.specs.Logged.{Logged, entries_in, backs_in, stamps_in}
use Rattle.event_log.specs.Undoing.{view_after, undone}
use Rattle.event_log.specs.Traced.{IsTraced}
use Rattle.event_log.proofs.AtFloor.{view_of_log}
use Rattle.event_log.proofs.Traced.{undone_is, traced_dropped}
use Rattle.region_core.specs.declared.live.Live.{Live}
use Rattle.region_core.specs.Live.{base_in, start_in, now_in, HasTrace, IsBodyOf}

-- ---- the two views
-- after the whole log the view is the newest one
pub now_is : (live : Live) → HasTrace live → (now_in live).view ≡ live.view
now_is live is = view_of_log (start_in live) live.log ∙ is.forth

-- if the log leads from a view to the newest one, that is the view at the floor
pub base_is : (base : ViewData) (live : Live) → IsTraced base live.view live.log → base_in live ≡ base
base_is base live is = undone_is base live.view live.log is

pub has_trace : (base : ViewData) (live : Live) → IsTraced base live.view live.log → HasTrace live
has_trace base live is =
    subst (λ (v : ViewData). IsTraced v live.view live.log) (sym (base_is base live is)) is

-- the queue stands for the newest view
pub stands_newest : (home : Home) (floor : Stamp) (live : Live) → IsBodyOf home floor live →
    StandsFor live.queue live.view
stands_newest home floor live is = subst (StandsFor live.queue) (now_is live is.traced) is.stands

-- without the first entries the view at the floor is the one after these
raised_traced : (old : Live) (view : ViewData) (log : List Logged) (gone : ℕ) → HasTrace old →
    view ≡ old.view → log ≡ drop gone old.log → IsTraced (view_after (base_in old) (take gone old.log)) view log
raised_traced old view log gone traced same left =
    let middle = view_after (base_in old) (take gone old.log) in
    subst (λ (v : ViewData). IsTraced middle v log) (sym same)
    (subst (IsTraced middle old.view) (sym left) (traced_dropped (base_in old) old.view old.log gone traced))

pub trace_raised : (old new : Live) (gone : ℕ) → HasTrace old → new.view ≡ old.view →
    new.log ≡ drop gone old.log → HasTrace new
trace_raised old new gone traced view log = has_trace (view_after (base_in old) (take gone old.log)) new
    (raised_traced old new.view new.log gone traced view log)

pub base_raised : (old : Live) (view : ViewData) (log : List Logged) (gone : ℕ) → HasTrace old →
    view ≡ old.view → log ≡ drop gone old.log →
    undone view (backs_in log) ≡ (after_log (start_in old) (take gone (entries_in old.log))).view
base_raised old view log gone traced same left =
    undone_is (view_after (base_in old) (take gone old.log)) view log
    (raised_traced old view log gone traced same left)
    ∙ sym (view_of_log (start_in old) (take gone old.log))
    ∙ ap (λ (es : List Entry). (after_log (start_in old) es).view) (sym (take-map (λ l. l.0) gone old.log))

-- ---- entries
pub entries_joined : (xs ys : List Logged) → entries_in (xs ++ ys) ≡ entries_in xs ++ entries_in ys
entries_joined xs ys = map-append (λ l. l.0) xs ys

pub entries_taken : (n : ℕ) (log : List Logged) → take n (entries_in log) ≡ entries_in (take n log)
entries_taken n log = take-map (λ l. l.0) n log

pub entries_dropped : (n : ℕ) (log : List Logged) → drop n (entries_in log) ≡ entries_in (drop n log)
entries_dropped n log = drop-map (λ l. l.0) n log

-- ---- the last one
last_at : (log : List Logged) (n : ℕ) → suc n ≡ length log →
    slice_get (stamps_in log) n ≡ last_entry_stamp (entries_in log)
last_at [] n len = absurd (omega arith)
last_at (l ∷ []) zero len = refl
last_at (l ∷ []) (suc n) len = absurd (omega arith)
last_at (l ∷ k ∷ log) zero len = absurd (omega arith)
last_at (l ∷ k ∷ log) (suc n) len = last_at (k ∷ log) n (omega arith)

pub last_stamp_is : (log : List Logged) → slice_get (stamps_in log) (length log - 1) ≡ last_entry_stamp (entries_in log)
last_stamp_is [] = refl
last_stamp_is (l ∷ log) = last_at (l ∷ log) (length (l ∷ log) - 1) (omega arith)

-- the last stamp, or the floor
pub clock_is : (floor : Stamp) (log : List Entry) → unwrap_or (last_entry_stamp log) floor ≡ clock_of floor log
clock_is floor [] = refl
clock_is floor (e ∷ es) = refl
