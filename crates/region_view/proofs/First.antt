-- The first events of placed disks.
use Rattle.std.proofs.Common.{inl, inr, ℕ, ◌≤◌, ap, arith, subst, sym, Option}
use Rattle.std.specs.Prelude.{Some, None, MatchOption}
use Rattle.fixed_motion.specs.declared.rules.Rules.{Rules}
use Rattle.fixed_motion.specs.declared.disk.Disk.{Disk}
use Rattle.fixed_motion.specs.Motion.{IsValidDisk}
use Rattle.event_stamps.specs.declared.Stamp.{Stamp}
use Rattle.event_stamps.specs.Order.{Before}
use Rattle.event_stamps.specs.Least.{HasNone, IsLeast, IsOnly, IsLeastOf}
use Rattle.event_stamps.proofs.Least.{least_same}
use Rattle.event_stamps.proofs.StampOrder.{not_before_itself}
use Rattle.event_rules.specs.Events.{IsPairEvent, IsWallEvent, IsWallBelow, wall_stamp}
use Rattle.event_rules.proofs.Ranges.{side_range}
use Rattle.event_rules.proofs.Walls.{wall_not_before}
use Rattle.cell_grid.specs.Grid.{GridData, IsAdjacent}
use Rattle.cell_grid.specs.Crossing.{IsCrossEvent, cross_stamp}
use Rattle.region_view.specs.declared.action.Placed.{Placed}
use Rattle.region_view.specs.Events.{IsAlone, IsNear}

-- in one tick a disk leaves its cell before it hits a side
crossing_before_wall : (i : ℕ) (a : Disk) (side tick wall : ℕ) → tick ≤ wall → ¬ Before (wall_stamp i a side wall) (cross_stamp i a tick)
crossing_before_wall i a side tick wall le before = grind arith

-- a crossing is the first event of a disk by itself, since the disk is inside the box then
pub crossing_is_first : (rules : Rules) (grid : GridData) (i : ℕ) (p : Placed) (s : Stamp) → IsValidDisk rules p.disk →
    IsOnly (IsCrossEvent rules grid i p.disk p.cell) s → IsLeast (IsAlone rules grid i p) s
crossing_is_first rules grid i p s valid only = (inl only.0, not_before)
  where
    not_before : (t : Stamp) → IsAlone rules grid i p t → ¬ Before t s
    not_before t (inl cross) before = not_before_itself s (subst (λ (v : Stamp). Before v s) (only.1 t cross) before)
    not_before t (inr wall) before =
        crossing_before_wall i p.disk t.second s.tick t.tick
        (wall_not_before rules p.disk t.second s.tick t.tick valid.centre only.0.0.inside wall.0)
        (subst (λ (v : Stamp). Before (wall_stamp i p.disk t.second t.tick) v) only.0.2
        (subst (λ (v : Stamp). Before v s) wall.2 before))

-- the first event of a disk that doesn't leave its cell is at its first wall
pub wall_is_first : (rules : Rules) (grid : GridData) (i : ℕ) (p : Placed) (wall : Option Stamp) →
    HasNone (IsCrossEvent rules grid i p.disk p.cell) → IsLeastOf (IsWallBelow rules i p.disk 4) wall →
    IsLeastOf (IsAlone rules grid i p) wall
wall_is_first rules grid i p wall none least =
    least_same (IsWallBelow rules i p.disk 4) (IsAlone rules grid i p) wall
    (λ t w. inr (subst (λ (v : ℕ). IsWallEvent rules i p.disk v t)
    (sym (ap (λ (v : Stamp). v.second) w.2.2)) w.2))
    (λ t r. elim r [
      | inl c ↦ absurd (none t c)
      | inr w ↦ (t.second, side_range rules p.disk t.second _ w.0.past, w)
    ])
    least

-- what two disks do with each other, if their cells are adjacent
pub near_if_adjacent : (rules : Rules) (grid : GridData) (i : ℕ) (p : Placed) (j : ℕ) (q : Placed) (found : Option Stamp) →
    IsAdjacent grid p.cell q.cell →
    MatchOption found (HasNone (IsPairEvent rules i p.disk j q.disk)) (IsOnly (IsPairEvent rules i p.disk j q.disk)) →
    MatchOption found (HasNone (IsNear rules grid i p j q)) (IsOnly (IsNear rules grid i p j q))
near_if_adjacent rules grid i p j q None adjacent none = λ s near. none s near.1
near_if_adjacent rules grid i p j q (Some s) adjacent only = ((adjacent, only.0), λ t near. only.1 t near.1)
