-- What an action leaves as it was: the rows of disks that its event hasn't, and at a crossing the disk's record.
use Rattle.std.proofs.Common.{◌≡◌, ◌≢◌, inl, inr, ℕ, ◌==◌, Bool, true, false, List, ◌++◌, Option, Some, None, Ok, Err, sym, ap, ◌∙◌, subst, refl}
use Rattle.std.specs.Prelude.{map as each, if◌then◌else◌, option_map, IfSome}
use Rattle.std.specs.FinMap as map
use Rattle.fixed_motion.specs.declared.disk.Disk.{Disk}
use Rattle.fixed_motion.specs.Motion.{place_of}
use Rattle.event_stamps.specs.declared.Stamp.{Stamp}
use Rattle.event_stamps.specs.declared.Kind.{Kind}
use Rattle.event_stamps.specs.declared.Kind.TheVariants.{Cross as Crossing, Wall, Pair}
use Rattle.event_rules.specs.declared.change.Change.{Change}
use Rattle.event_rules.specs.declared.change.Limit.TheVariants.{Rounds, Speed}
use Rattle.event_rules.specs.Effect.{change_of, keeps_speed}
use Rattle.cell_grid.specs.Grid.{cell_at}
use Rattle.region_view.specs.declared.action.Placed.{Placed}
use Rattle.region_view.specs.declared.action.Action.{Action}
use Rattle.region_view.specs.declared.action.Action.TheVariants.{Cross, Hit}
use Rattle.region_view.specs.Acting.{stamp_of, action_of, hit_of, partner_in, recelled, redisked}
use Rattle.region_view.specs.Setting.{RowList, put, set_rows, after_action}
use Rattle.region_view.specs.Views.{ViewData, rows_in}
use Rattle.region_view.proofs.Puts.{get_put_here, get_put_other}
use Rattle.region_view.specs.Naming.{IsSameButBy, IsMoved}
use Rattle.local_run.specs.declared.home.Home.{Home}
use Rattle.local_run.specs.LocalRun.{ComesToInView}

-- what a list of new records sets
abbrev pub as_rows : List (ℕ × Placed) → RowList
as_rows rows = each (λ r. (r.0, Some r.1)) rows

-- ---- crossings
crossing_leaves : (view : ViewData) (s : Stamp) (cell i : ℕ) → i ≢ s.first →
    map.get (after_action view (Cross s cell)) i ≡ map.get view i
crossing_leaves view s cell i other = by_row (map.get view s.first)
  where
    by_row : (o : Option Placed) →
        map.get (set_rows view (as_rows (recelled s.first cell o))) i ≡ map.get view i
    by_row None = refl
    by_row (Some p) = get_put_other view s.first (Some (record { disk = p.disk; cell = cell })) i other

abbrev disk_in : Option Placed → Option Disk
disk_in row = option_map (λ p. p.disk) row

crossing_keeps : (view : ViewData) (s : Stamp) (cell : ℕ) →
    disk_in (map.get (after_action view (Cross s cell)) s.first) ≡ disk_in (map.get view s.first)
crossing_keeps view s cell = by_row (map.get view s.first) refl
  where
    by_row : (o : Option Placed) → map.get view s.first ≡ o →
        disk_in (map.get (set_rows view (as_rows (recelled s.first cell o))) s.first) ≡ disk_in o
    by_row None is = ap disk_in is
    by_row (Some p) is =
        ap disk_in (get_put_here view s.first (Some (record { disk = p.disk; cell = cell })))

-- a crossing moves only its disk, and the disk keeps its record
pub crossing_moves : (view : ViewData) (s : Stamp) (cell : ℕ) →
    IsMoved s.first view (after_action view (Cross s cell))
crossing_moves view s cell = (crossing_leaves view s cell, crossing_keeps view s cell)

-- ---- collisions
-- the same place with another record
abbrev with_disk : Disk → Placed → Option Placed
with_disk disk p = Some (record { disk = disk; cell = p.cell })

hit_leaves : (view : ViewData) (change : Change) (i : ℕ) → i ≢ change.stamp.first →
    IfSome change.second (λ _. i ≢ change.stamp.second) →
    map.get (after_action view (Hit change)) i ≡ map.get view i
hit_leaves view change i other both =
    by_rows change.second (map.get view first) (map.get view second) both
  where
    first : ℕ
    first = change.stamp.first

    second : ℕ
    second = change.stamp.second

    by_rows : (b : Option Disk) (o p : Option Placed) → IfSome b (λ _. i ≢ second) →
        map.get (set_rows view (as_rows (redisked first (Some change.first) o ++ redisked second b p))) i
        ≡ map.get view i
    by_rows None None p also = refl
    by_rows None (Some o) p also = get_put_other view first (with_disk change.first o) i other
    by_rows (Some b) None None also = refl
    by_rows (Some b) None (Some p) also = get_put_other view second (with_disk b p) i also
    by_rows (Some b) (Some o) None also = get_put_other view first (with_disk change.first o) i other
    by_rows (Some b) (Some o) (Some p) also =
        get_put_other (put view first (with_disk change.first o)) second (with_disk b p) i also
        ∙ get_put_other view first (with_disk change.first o) i other

-- a collision that changes two disks is that of a pair
pub two_are_a_pair : (h : Home) (view : ViewData) (change : Change) →
    ComesToInView h view change.stamp (Ok (Hit change)) → IfSome change.second (λ _. change.stamp.kind ≡ Pair)
two_are_a_pair h view change (p, there, comes) = by_kind s.kind refl comes
  where
    s : Stamp
    s = change.stamp

    never_crosses : (late : Bool) → Ok (Hit change)
        ≡ (if late then Err (Rounds s) else Ok (Cross s (cell_at h.grid (place_of p.disk s.tick)))) →
        IfSome change.second (λ _. s.kind ≡ Pair)
    never_crosses true e = cc
    never_crosses false e = cc

    by_tests : (late slow : Bool) → Ok (Hit change) ≡ hit_of (if late then Err (Rounds s)
        else (if slow then Ok (change_of s p.disk None) else Err (Speed s))) → change.second ≡ None
    by_tests true slow e = cc
    by_tests false true e =
        let same : change ≡ change_of s p.disk None = cc in ap (λ (c : Change). c.second) same
    by_tests false false e = cc

    always : (b : Option Disk) → s.kind ≡ Pair → IfSome b (λ _. s.kind ≡ Pair)
    always None is = tt
    always (Some b) is = is

    by_kind : (k : Kind) → s.kind ≡ k → Ok (Hit change)
        ≡ action_of h.rules h.grid s p.disk (partner_in k (rows_in view) s.second) k →
        IfSome change.second (λ _. s.kind ≡ Pair)
    by_kind Crossing is e = never_crosses (s.round == h.rules.round_limit) e
    by_kind Wall is e = subst (λ (b : Option Disk). IfSome b (λ _. s.kind ≡ Pair))
        (sym (by_tests (s.round == h.rules.round_limit) (keeps_speed h.rules (change_of s p.disk None)) e)) tt
    by_kind Pair is e = always change.second is

-- ---- any action
pub action_leaves : (h : Home) (view : ViewData) (x : Action) → ComesToInView h view (stamp_of x) (Ok x) →
    IsSameButBy (stamp_of x) (after_action view x) view
action_leaves h view (Cross s cell) comes i not =
    sym (crossing_leaves view s cell i (λ same. not (inl (sym same))))
action_leaves h view (Hit change) comes i not =
    sym (hit_leaves view change i (λ same. not (inl (sym same)))
    (others change.second (two_are_a_pair h view change comes)))
  where
    others : (b : Option Disk) → IfSome b (λ _. change.stamp.kind ≡ Pair) →
        IfSome b (λ _. i ≢ change.stamp.second)
    others None is = tt
    others (Some b) is = λ same. not (inr (is, sym same))
