-- What the tests of weaving tell.
use Rattle.std.proofs.Common.{◌≡◌, ℕ, zero, suc, ◌==◌, ◌∙◌, Bool, ◌&&◌, true, List, [], ◌∷◌, drop, slice_get, Option, Some, None, sym, ap, subst}
use Rattle.fixed_motion.specs.declared.disk.Disk.{Disk}
use Rattle.std.specs.Prelude.{IfSome}
use Rattle.std.proofs.lemmas.Option.{none-some, same_Some}
use Rattle.cell_grid.specs.Grid.{GridData}
use Rattle.region_view.specs.declared.action.Placed.{Placed}
use Rattle.fixed_motion.specs.declared.rules.Rules.{Rules}
use Rattle.event_stamps.specs.declared.Stamp.{Stamp}
use Rattle.event_stamps.specs.Order.{Before}
use Rattle.event_stamps.specs.Least.{IsLeastOf}
use Rattle.region_view.specs.Placing.{IsValidPlacing}
use Rattle.region_view.specs.Setting.{RowList, set_rows, rows_at, numbers_of}
use Rattle.region_view.specs.Views.{ViewData, rows_in}
use Rattle.region_view.proofs.SamePlaced.{disk_eq, placed_decides}
use Rattle.region_view.proofs.Puts.{get_put_here, get_put_other, swap_is_undone}
use Rattle.region_messages.proofs.Order.{before_not_before}
use Rattle.region_view.specs.Naming.{IsSameBut, IsMoved}
use Rattle.region_queue.specs.Queue.{QueueData, IsOf}
use Rattle.event_log.specs.Logged.{Logged, logged_stamp, entries_in, stamps_in}
use Rattle.local_run.proofs.Touched.{same_but}
use Rattle.region_core.specs.Weaving.{record_in, BeginsAfter}

pub begins_at : (at s : Stamp) (log : List Logged) (n : ℕ) → slice_get (stamps_in log) n ≡ Some s → Before at s →
    BeginsAfter at (drop n (entries_in log))
begins_at at s [] n is before = absurd (none-some s is)
begins_at at s (l ∷ log) zero is before = subst (Before at) (sym (same_Some (logged_stamp l) s is)) before
begins_at at s (l ∷ log) (suc n) is before = begins_at at s log n is before

-- ---- rows that are set and set back
pub swapped_back : (view new again : ViewData) (rows back : RowList) → new ≡ set_rows view rows →
    back ≡ rows_at (rows_in view) rows → again ≡ set_rows new back → again ≡ view
swapped_back view new again rows back set was is =
    is ∙ (λ i. set_rows (set i) (was i)) ∙ swap_is_undone view rows

pub set_differs : (view new : ViewData) (rows : RowList) → new ≡ set_rows view rows →
    IsSameBut (numbers_of rows) view new
set_differs view new rows set i not = ap (λ (v : ViewData). rows_in v i) set ∙ same_but view rows i not

-- two records that were compared
pub same_record : (a b : Disk) → disk_eq a b ≡ true → a ≡ b
same_record a b e = ap (λ (p : Placed). p.disk) ((placed_decides (record { disk = a; cell = 0 })
    (record { disk = b; cell = 0 })).0 (ap (λ (v : Bool). v && (0 == 0)) e))

-- a disk whose only row has the record that stood there is moved
pub moved_by_row : (was : ViewData) (rows before : RowList) (row old : ℕ × Option Placed) → rows ≡ row ∷ [] →
    before ≡ old ∷ [] → record_in row.1 ≡ record_in old.1 → before ≡ rows_at (rows_in was) rows →
    IsMoved row.0 was (set_rows was rows)
moved_by_row was rows before row old one other same is =
    let there : old ∷ [] ≡ (row.0, rows_in was row.0) ∷ [] = sym other ∙ is ∙ ap (rows_at (rows_in was)) one in
    let first : old ≡ (row.0, rows_in was row.0) = cc in
    subst (λ (v : RowList). IsMoved row.0 was (set_rows was v)) (sym one) (
      λ i not. get_put_other was row.0 row.1 i not,
      ap record_in (get_put_here was row.0 row.1) ∙ same ∙ ap (λ (r : ℕ × Option Placed). record_in r.1) first,
    )

pub back_differs : (view new again : ViewData) (rows : RowList) → new ≡ set_rows view rows → again ≡ view →
    IsSameBut (numbers_of rows) new again
back_differs view new again rows set back i not =
    ap (λ (v : ViewData). rows_in v i) back ∙ sym (set_differs view new rows set i not)

pub after_least : (P : Stamp → Type 0) (o : Option Stamp) (last s : Stamp) → IsLeastOf P o →
    IfSome o (Before last) → P s → Before last s
after_least P None last s none after p = absurd (none s p)
after_least P (Some t) last s least after p = before_not_before last s t after (least.1 s p)

pub still_valid : (queue : QueueData) (rules : Rules) (grid : GridData) (region : ℕ) (view again : ViewData) →
    IsOf queue rules grid region → again ≡ view → IsValidPlacing rules grid (rows_in view) →
    IsValidPlacing queue.rules queue.grid (rows_in again)
still_valid queue rules grid region view again of same valid =
    subst (λ (v : ViewData). IsValidPlacing queue.rules queue.grid (rows_in v)) (sym same)
    (subst (λ (r : Rules). IsValidPlacing r queue.grid (rows_in view)) (sym of.rules)
    (subst (λ (g : GridData). IsValidPlacing rules g (rows_in view)) (sym of.grid) valid))
