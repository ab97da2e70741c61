-- The view at the floor, from the newest one.
use Rattle.std.proofs.Common.{◌≡◌, List, [], ◌∷◌, sym, ap, ◌∙◌, refl}
use Rattle.std.specs.FinMap as map
use Rattle.region_view.specs.Views.{ViewData}
use Rattle.local_run.specs.declared.entry.Entry.{Entry}
use Rattle.local_run.specs.declared.entry.Entry.TheVariants.{Native, Heard}
use Rattle.local_run.specs.LocalRun.{At, after_entry, after_log, start_of, now_of}
use Rattle.event_log.specs.Logged.{Logged, entries_in, backs_in}
use Rattle.event_log.specs.Undoing.{view_with, view_after, undone}
use Rattle.event_log.specs.AtFloor.{BaseViewsAreFound}
use Rattle.event_log.proofs.Undone.{base_is_undone, firsts_are_found}

pub view_of_entry : (a : At) (l : Logged) (e : Entry) → l.0 ≡ e → (after_entry a e).view ≡ view_with a.view l
view_of_entry a l (Native action) is = rw is refl
view_of_entry a l (Heard q m) is = rw is refl

pub view_of_log : (a : At) (log : List Logged) → (after_log a (entries_in log)).view ≡ view_after a.view log
view_of_log a [] = refl
view_of_log a (l ∷ log) =
    view_of_log (after_entry a l.0) log
    ∙ ap (λ (v : ViewData). view_after v log) (view_of_entry a l l.0 refl)

pub base_views_are_found : BaseViewsAreFound
base_views_are_found log r is =
    let now : view_after r.base log ≡ (now_of r).view =
    sym (view_of_log (start_of r) log) ∙ ap (λ (es : List Entry). (after_log (start_of r) es).view) is.entries in
    let base : r.base ≡ undone (now_of r).view (backs_in log) =
    sym (base_is_undone r.base log is.backs) ∙ ap (λ (v : ViewData). undone v (backs_in log)) now in
    record {
      base = base;
      row = λ disk.
          ap (λ (v : ViewData). map.get v disk) base ∙ firsts_are_found (now_of r).view (backs_in log) disk;
    }
