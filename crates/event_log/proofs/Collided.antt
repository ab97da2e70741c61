-- The rows that a collision of two disks sets, and those that lead back over it.
use Rattle.std.proofs.Common.{◌≡◌, ℕ, [], ◌∷◌, ◌++◌, map, sym, ap, subst, ◌∙◌, refl, Option, Some, None}
use Rattle.std.specs.Prelude.{IsTrue, is_some}
use Rattle.std.specs.FinMap as finmap
use Rattle.std.proofs.lemmas.Bool.{false≢true}
use Rattle.fixed_motion.specs.declared.disk.Disk.{Disk}
use Rattle.event_stamps.specs.declared.Stamp.{Stamp}
use Rattle.region_view.specs.declared.action.Placed.{Placed}
use Rattle.region_view.specs.declared.action.Action.TheVariants.{Hit}
use Rattle.region_view.specs.Acting.{redisked}
use Rattle.region_view.specs.Views.{ViewData, rows_in}
use Rattle.region_view.specs.Setting.{RowList, rows_at, rows_set}
use Rattle.event_log.specs.declared.running.HitRows.{HitRows}
use Rattle.event_log.specs.Heads.{disk_or}
use Rattle.event_log.specs.Running.{collision, IsMovedRow}

-- two rows that are there are set, each with another record
both_set : (i j : ℕ) (a b : Disk) (one other : Option Placed) (first second : HitRows) → IsMovedRow one a first →
    IsMovedRow other b second →
    ◌≡◌ {A = RowList}
    (map (λ r. (r.0, Some r.1)) (redisked i (Some a) one ++ redisked j (Some b) other))
    ((i, first.after) ∷ (j, second.after) ∷ [])
both_set i j a b None other first second m n = absurd (false≢true m.is_there)
both_set i j a b (Some p) None first second m n = absurd (false≢true n.is_there)
both_set i j a b (Some p) (Some q) first second m n = λ k. (i, sym m.after k) ∷ (j, sym n.after k) ∷ []

-- a collision sets the rows after it
pub collision_sets : (view : ViewData) (s : Stamp) (first second : HitRows) →
    IsMovedRow (finmap.get view s.first) (disk_or first.after) first →
    IsMovedRow (finmap.get view s.second) (disk_or second.after) second →
    rows_set (rows_in view) (Hit (collision s first second))
    ≡ (s.first, first.after) ∷ (s.second, second.after) ∷ []
collision_sets view s first second m n =
    both_set s.first s.second (disk_or first.after) (disk_or second.after) (finmap.get view s.first)
    (finmap.get view s.second) first second m n

-- those before it lead back
pub collision_leads_back : (view : ViewData) (s : Stamp) (first second : HitRows) →
    IsMovedRow (finmap.get view s.first) (disk_or first.after) first →
    IsMovedRow (finmap.get view s.second) (disk_or second.after) second →
    rows_at (rows_in view) (rows_set (rows_in view) (Hit (collision s first second)))
    ≡ (s.first, first.before) ∷ (s.second, second.before) ∷ []
collision_leads_back view s first second m n =
    ap (rows_at (rows_in view)) (collision_sets view s first second m n)
    ∙ (λ k. (s.first, sym m.before k) ∷ (s.second, sym n.before k) ∷ [])

-- a row that is there is so after it, too
pub row_is_there : (there : Option Placed) (a : Disk) (rows : HitRows) → IsMovedRow there a rows →
    IsTrue (is_some rows.after)
row_is_there None a rows m = absurd (false≢true m.is_there)
row_is_there (Some p) a rows m = subst (λ (o : Option Placed). IsTrue (is_some o)) (sym m.after) refl
