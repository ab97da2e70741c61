-- The stamps of what a region ran are in range.
use Rattle.std.proofs.Common.{◌≡◌, ℕ, ◌+◌, List, ◌∷◌, ◌++◌, take, drop, slice_get, Option, Some, None, sym, ap, ◌∙◌, subst, refl}
use Rattle.std.specs.Prelude.{IfSome, option_map}
use Rattle.std.proofs.lemmas.List.{take-append-drop, drop_more}
use Rattle.std.proofs.lemmas.Option.{none-some, same_Some, slice_get_within, get_or_from_slice_get}
use Rattle.event_stamps.specs.declared.Stamp.{Stamp}
use Rattle.event_stamps.specs.Order.{IsInRange}
use Rattle.region_view.specs.declared.action.Action.{Action}
use Rattle.region_view.specs.Acting.{stamp_of}
use Rattle.region_view.specs.Placing.{IsValidPlacing}
use Rattle.region_view.specs.Views.{ViewData, rows_in}
use Rattle.region_queue.proofs.InRange.{native_in_range}
use Rattle.local_run.specs.declared.home.Home.{Home}
use Rattle.local_run.specs.declared.entry.Entry.{Entry}
use Rattle.local_run.specs.declared.entry.Entry.TheVariants.{Native, Heard}
use Rattle.local_run.specs.Entries.{native_in}
use Rattle.local_run.specs.LocalRun.{At, Local, IsOwn, start_of, after_log, Moves, IsInPlace, IsRight}
use Rattle.local_run.proofs.Logs.{moves_split}
use Rattle.local_run.proofs.Valid.{valid_at}

native_entry : (found : Option Entry) (x : Action) → native_in found ≡ Some x → found ≡ Some (Native x)
native_entry None x is = absurd (none-some x is)
native_entry (Some (Native y)) x is = ap (λ (v : Action). Some (Native v)) (same_Some y x is)
native_entry (Some (Heard q m)) x is = absurd (none-some x is)

from_place : (log : List Entry) (i : ℕ) (e : Entry) → slice_get log i ≡ Some e → drop i log ≡ e ∷ drop (i + 1) log
from_place log i e at = drop_more log i e (slice_get_within log i e at)
    ∙ ap (λ (v : Entry). v ∷ drop (i + 1) log) (get_or_from_slice_get log i e e at)

own_in_range : (h : Home) (view : ViewData) (s : Stamp) → IsInPlace h → IsValidPlacing h.rules h.grid (rows_in view) →
    IsOwn h view s → IsInRange s
unfolding IsOwn
own_in_range h view s place valid own = native_in_range h.rules h.grid h.number (rows_in view) s place.checked valid own

-- that of an action, by its place
ran_in_range : (h : Home) (r : Local) (i : ℕ) (x : Action) → IsInPlace h → IsRight h r →
    native_in (slice_get r.log i) ≡ Some x → IsInRange (stamp_of x)
ran_in_range h r i x place right is =
    let middle : At = after_log (start_of r) (take i r.log) in
    let parts : r.log ≡ take i r.log ++ drop i r.log = sym (take-append-drop i r.log) in
    let later : Moves h middle (drop i r.log) =
    (moves_split h (start_of r) (take i r.log) (drop i r.log) (subst (Moves h (start_of r)) parts right.moves)).1 in
    let rest = from_place r.log i (Native x) (native_entry (slice_get r.log i) x is) in
    let move = (subst (Moves h middle) rest later).0 in
    own_in_range h middle.view (stamp_of x) place (valid_at h r i place right) move.native

-- what is told of a place
pub told_in_range : (h : Home) (r : Local) (i : ℕ) → IsInPlace h → IsRight h r →
    IfSome (option_map stamp_of (native_in (slice_get r.log i))) IsInRange
told_in_range h r i place right = by_action (native_in (slice_get r.log i)) refl
  where
    by_action : (found : Option Action) → native_in (slice_get r.log i) ≡ found →
        IfSome (option_map stamp_of found) IsInRange
    by_action None is = tt
    by_action (Some x) is = ran_in_range h r i x place right is
