-- What each change of a log leaves of a view that it leads to.
use Rattle.std.proofs.Common.{◌≡◌, ℕ, List, [], ◌∷◌, ◌++◌, take, drop, sym, ap, subst, ◌∙◌}
use Rattle.std.proofs.lemmas.List.{take-append-drop}
use Rattle.region_view.specs.declared.rows.Message.{Message}
use Rattle.region_view.specs.Views.{ViewData, rows_in}
use Rattle.region_view.specs.Setting.{set_rows, rows_at}
use Rattle.region_view.proofs.Puts.{swap_is_undone}
use Rattle.local_run.specs.declared.entry.Entry.{Entry}
use Rattle.local_run.specs.declared.entry.Entry.TheVariants.{Heard}
use Rattle.event_log.specs.Logged.{Logged, backs_in}
use Rattle.event_log.specs.Undoing.{rows_by, view_with, view_after, undone, LoggedAreAside}
use Rattle.event_log.specs.Traced.{IsTraced}
use Rattle.event_log.proofs.Undone.{base_is_undone}
use Rattle.event_log.proofs.Woven.{after_join, back_split, changes_lead_back, woven_leads_back}

-- so the base view need not be kept
pub undone_is : (base newest : ViewData) (log : List Logged) → IsTraced base newest log →
    undone newest (backs_in log) ≡ base
undone_is base newest log is =
    ap (λ (v : ViewData). undone v (backs_in log)) (sym is.forth) ∙ base_is_undone base log is.back

-- one entry more
pub traced_pushed : (base newest : ViewData) (log : List Logged) (e : Entry) → IsTraced base newest log →
    IsTraced base (set_rows newest (rows_by newest e))
    (log ++ (e, rows_at (rows_in newest) (rows_by newest e)) ∷ [])
traced_pushed base newest log e is =
    subst (λ (v : ViewData). IsTraced base (set_rows v (rows_by v e))
    (log ++ (e, rows_at (rows_in v) (rows_by v e)) ∷ [])) is.forth record {
      forth = after_join base log
          ((e, rows_at (rows_in (view_after base log)) (rows_by (view_after base log) e)) ∷ []);
      back = (changes_lead_back base log is.back).pushed e;
    }

-- the last entry taken back
pub traced_popped : (base newest : ViewData) (xs : List Logged) (l : Logged) →
    IsTraced base newest (xs ++ l ∷ []) → IsTraced base (set_rows newest l.1) xs
traced_popped base newest xs l is =
    let parts = back_split base xs (l ∷ []) is.back in
    let at = view_after base xs in
    let here : newest ≡ view_with at l = sym is.forth ∙ after_join base xs (l ∷ []) in
    record {
      forth = sym (ap (λ (v : ViewData). set_rows v l.1) here
          ∙ ap (set_rows (view_with at l)) parts.1.0 ∙ swap_is_undone at (rows_by at l.0));
      back = parts.0;
    }

-- the first entries dropped
pub traced_dropped : (base newest : ViewData) (log : List Logged) (n : ℕ) → IsTraced base newest log →
    IsTraced (view_after base (take n log)) newest (drop n log)
traced_dropped base newest log n is = record {
  forth = sym (after_join base (take n log) (drop n log))
      ∙ ap (view_after base) (take-append-drop n log) ∙ is.forth;
  back = (changes_lead_back base log is.back).rest n;
}

-- a late message put in
pub traced_woven : (base newest : ViewData) (before after : List Logged) (q : ℕ) (m : Message) →
    IsTraced base newest (before ++ after) → LoggedAreAside m.rows (view_after base before) after →
    IsTraced base (set_rows newest m.rows)
    (before ++ (Heard q m, rows_at (rows_in newest) m.rows) ∷ after)
traced_woven base newest before after q m is aside =
    subst (λ (v : ViewData). IsTraced base (set_rows v m.rows)
    (before ++ (Heard q m, rows_at (rows_in v) m.rows) ∷ after)) is.forth
    (let woven = woven_leads_back base before after q m is.back aside in record {
      forth = woven.newest;
      back = woven.back;
    })
