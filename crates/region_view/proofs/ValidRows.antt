-- Rows that are valid, and what they leave valid.
use Rattle.std.proofs.Common.{◌≡◌, ◌≢◌, ◌⊎◌, inl, inr, ℕ, ◌<◌, ◌==◌, Bool, true, false, List, [], ◌∷◌, ◌++◌, map as each, sym, ap, ◌∙◌, subst, refl, arith, Option, Some, None, Ok, Err}
use Rattle.std.specs.Prelude.{if◌then◌else◌, IfSome}
use Rattle.std.specs.Option.{ForSome}
use Rattle.std.proofs.lemmas.Option.{same_Some}
use Rattle.std.specs.FinMap as map
use Rattle.fixed_motion.specs.declared.rules.Rules.{Rules}
use Rattle.fixed_motion.specs.declared.disk.Disk.{Disk}
use Rattle.fixed_motion.specs.Motion.{IsValidDisk, place_of}
use Rattle.event_stamps.specs.declared.Stamp.{Stamp}
use Rattle.event_stamps.specs.declared.Kind.{Kind}
use Rattle.event_stamps.specs.declared.Kind.TheVariants.{Cross as Crossing, Wall, Pair}
use Rattle.event_rules.specs.declared.change.Change.{Change}
use Rattle.event_rules.specs.declared.change.Limit.TheVariants.{Rounds, Speed}
use Rattle.event_rules.specs.Events.{IsEventOf}
use Rattle.event_rules.specs.Effect.{change_of, keeps_speed, applied, KeepsValid}
use Rattle.event_rules.proofs.Valid.{change_valid}
use Rattle.cell_grid.specs.Grid.{GridData, HasSizes, IsCell, cell_at}
use Rattle.cell_grid.proofs.Cells.{grids_have_sizes, places_have_cells}
use Rattle.region_view.specs.declared.action.Placed.{Placed}
use Rattle.region_view.specs.declared.action.Action.{Action}
use Rattle.region_view.specs.declared.action.Action.TheVariants.{Cross, Hit}
use Rattle.region_view.specs.Placing.{Placing, IsValidPlacing}
use Rattle.region_view.specs.Acting.{action_of, crossed, hit_of, partner_in, disk_in, recelled, redisked}
use Rattle.region_view.specs.Views.{ViewData}
use Rattle.region_view.specs.Setting.{RowList, put, set_row, rows_set, AreRows, IsValidPlaced, AreValidRows}
use Rattle.region_view.specs.Laws.{SettingKeepsValid, ActionsHaveRows, ActionsAreValid, IsValidAction}
use Rattle.region_view.proofs.Puts.{get_put, is_same}

-- ---- rows that are set
-- what is found after a row is put
found : (view : ViewData) (i : ℕ) (row : Option Placed) (j : ℕ) (p : Placed) →
    map.get (put view i row) j ≡ Some p →
    ((j ≡ i) × (row ≡ Some p)) ⊎ (map.get view j ≡ Some p)
found view i row j p e = by_test (j == i) refl (sym (get_put view i row j) ∙ e)
  where
    by_test : (b : Bool) → (j == i) ≡ b → (if b then row else map.get view j) ≡ Some p →
        ((j ≡ i) × (row ≡ Some p)) ⊎ (map.get view j ≡ Some p)
    by_test true is h = inl (is_same j i is, h)
    by_test false is h = inr h

put_valid : (rules : Rules) (grid : GridData) (view : ViewData) (i : ℕ) (row : Option Placed) →
    IsValidPlacing rules grid (map.get view) → i < 65536 → IsValidPlaced rules grid row →
    IsValidPlacing rules grid (map.get (put view i row))
put_valid rules grid view i row valid lt h = record {
  number = λ j p e. elim (found view i row j p e) [
    | inl new ↦ subst (λ (n : ℕ). n < 65536) (sym new.0) lt
    | inr old ↦ valid.number j p old
  ];
  disk = λ j p e. elim (found view i row j p e) [
    | inl new ↦ (placed p new.1).0
    | inr old ↦ valid.disk j p old
  ];
  cell = λ j p e. elim (found view i row j p e) [
    | inl new ↦ (placed p new.1).1
    | inr old ↦ valid.cell j p old
  ];
}
  where
    placed : (p : Placed) → row ≡ Some p → IsValidDisk rules p.disk × IsCell grid p.cell
    placed p e = subst (IsValidPlaced rules grid) e h

pub setting_keeps_valid : SettingKeepsValid
setting_keeps_valid rules grid view [] valid h = valid
setting_keeps_valid rules grid view (r ∷ rows) valid h =
    setting_keeps_valid rules grid (set_row view r) rows
    (put_valid rules grid view r.0 r.1 valid h.0 h.1) h.2

-- ---- the rows of actions
abbrev as_rows : List (ℕ × Placed) → RowList
as_rows rows = each (λ r. (r.0, Some r.1)) rows

pub actions_have_rows : ActionsHaveRows
actions_have_rows at (Cross s cell) order = by_row (at s.first)
  where
    by_row : (o : Option Placed) → AreRows (as_rows (recelled s.first cell o))
    by_row None = tt
    by_row (Some p) = tt
actions_have_rows at (Hit change) order =
    by_rows change.second (at change.stamp.first) (at change.stamp.second) order
  where
    by_rows : (b : Option Disk) (o second : Option Placed) →
        IfSome b (λ _. change.stamp.first < change.stamp.second) →
        AreRows (as_rows (redisked change.stamp.first (Some change.first) o
        ++ redisked change.stamp.second b second))
    by_rows None None second lt = tt
    by_rows None (Some p) second lt = tt
    by_rows (Some b) None None lt = tt
    by_rows (Some b) None (Some q) lt = tt
    by_rows (Some b) (Some p) None lt = tt
    by_rows (Some b) (Some p) (Some q) lt = lt

-- a row that stands there has the number of a disk and a cell of the grid
stands : (rules : Rules) (grid : GridData) (at : Placing) (i : ℕ) →
    IsValidPlacing rules grid at →
    IfSome (at i) (λ p. (i < 65536) × IsValidDisk rules p.disk × IsCell grid p.cell)
stands rules grid at i valid = by_row (at i) refl
  where
    by_row : (o : Option Placed) → at i ≡ o →
        IfSome o (λ p. (i < 65536) × IsValidDisk rules p.disk × IsCell grid p.cell)
    by_row None e = tt
    by_row (Some p) e = (valid.number i p e, valid.disk i p e, valid.cell i p e)

valid_cross : (rules : Rules) (grid : GridData) (at : Placing) (s : Stamp) (cell : ℕ) →
    IsValidPlacing rules grid at → IsCell grid cell →
    AreValidRows rules grid (rows_set at (Cross s cell))
valid_cross rules grid at s cell valid is =
    by_row (at s.first) (stands rules grid at s.first valid)
  where
    by_row : (o : Option Placed) →
        IfSome o (λ p. (s.first < 65536) × IsValidDisk rules p.disk × IsCell grid p.cell) →
        AreValidRows rules grid (as_rows (recelled s.first cell o))
    by_row None h = tt
    by_row (Some p) h = (h.0, (h.1, is), tt)

valid_hit : (rules : Rules) (grid : GridData) (at : Placing) (change : Change) →
    IsValidPlacing rules grid at → IsValidDisk rules change.first →
    IfSome change.second (IsValidDisk rules) →
    AreValidRows rules grid (rows_set at (Hit change))
valid_hit rules grid at change valid first second =
    by_rows change.second (at change.stamp.first) (at change.stamp.second) second
    (stands rules grid at change.stamp.first valid) (stands rules grid at change.stamp.second valid)
  where
    by_rows : (b : Option Disk) (o other : Option Placed) → IfSome b (IsValidDisk rules) →
        IfSome o
        (λ p. (change.stamp.first < 65536) × IsValidDisk rules p.disk × IsCell grid p.cell) →
        IfSome other
        (λ p. (change.stamp.second < 65536) × IsValidDisk rules p.disk × IsCell grid p.cell) →
        AreValidRows rules grid (as_rows (redisked change.stamp.first (Some change.first) o
        ++ redisked change.stamp.second b other))
    by_rows None None other k h l = tt
    by_rows None (Some p) other k h l = (h.0, (first, h.2), tt)
    by_rows (Some b) None None k h l = tt
    by_rows (Some b) None (Some q) k h l = (l.0, (k, l.2), tt)
    by_rows (Some b) (Some p) None k h l = (h.0, (first, h.2), tt)
    by_rows (Some b) (Some p) (Some q) k h l = (h.0, (first, h.2), (l.0, (k, l.2), tt))

-- ---- the results of events
cross_valid : (rules : Rules) (grid : GridData) (at : Placing) (s : Stamp) (a : Disk) (x : Action) →
    HasSizes grid → IsValidPlacing rules grid at → Ok x ≡ crossed rules grid s a →
    IsValidAction rules grid at s x
cross_valid rules grid at s a x sizes valid is = by_test (s.round == rules.round_limit) is
  where
    by_test : (b : Bool) → Ok x ≡ (if b then Err (Rounds s) else Ok (Cross s (cell_at grid (place_of a s.tick)))) →
        IsValidAction rules grid at s x
    by_test true e = cc
    by_test false e =
        let is : Cross s (cell_at grid (place_of a s.tick)) ≡ x = cc in
        let cell_is = places_have_cells grid (place_of a s.tick) sizes in
        subst (IsValidAction rules grid at s) is (record {
          stamp = refl;
          order = tt;
          cell = cell_is;
          rows = valid_cross rules grid at s (cell_at grid (place_of a s.tick)) valid cell_is;
        })

-- a collision that is within the limits
record IsWithin (rules : Rules) (s : Stamp) (a : Disk) (b : Option Disk) (x : Action) : Type 0 where
  round : s.round ≢ rules.round_limit
  slow : keeps_speed rules (change_of s a b) ≡ true
  is : Hit (change_of s a b) ≡ x

within : (rules : Rules) (s : Stamp) (a : Disk) (b : Option Disk) (x : Action) →
    Ok x ≡ hit_of (applied rules s a b) → IsWithin rules s a b x
within rules s a b x e =
    by_tests (s.round == rules.round_limit) (keeps_speed rules (change_of s a b)) refl refl e
  where
    other : (s.round == rules.round_limit) ≡ false → s.round ≢ rules.round_limit
    other e is = grind arith

    by_tests : (late slow : Bool) → (s.round == rules.round_limit) ≡ late →
        keeps_speed rules (change_of s a b) ≡ slow →
        Ok x ≡ hit_of (if late then Err (Rounds s)
        else (if slow then Ok (change_of s a b) else Err (Speed s))) →
        IsWithin rules s a b x
    by_tests true slow l k e = cc
    by_tests false true l k e = record { round = other l; slow = k; is = cc }
    by_tests false false l k e = cc

hit_valid : (rules : Rules) (grid : GridData) (at : Placing) (s : Stamp) (a : Disk) (b : Option Disk)
    (x : Action) → IsValidPlacing rules grid at → IsValidDisk rules a → ForSome b (IsValidDisk rules) →
    IsEventOf rules s a b → IfSome b (λ _. s.first < s.second) →
    Ok x ≡ hit_of (applied rules s a b) → IsValidAction rules grid at s x
hit_valid rules grid at s a b x valid first second event order e =
    let h = within rules s a b x e in
    let keeps = change_valid rules s a b first second event h.round h.slow in
    subst (IsValidAction rules grid at s) h.is (by_partner b order keeps)
  where
    by_partner : (b : Option Disk) → IfSome b (λ _. s.first < s.second) →
        KeepsValid rules (change_of s a b) → IsValidAction rules grid at s (Hit (change_of s a b))
    by_partner None lt keeps = record {
      stamp = refl;
      order = tt;
      cell = tt;
      rows = valid_hit rules grid at (change_of s a None) valid keeps.0 tt;
    }
    by_partner (Some d) lt keeps = record {
      stamp = refl;
      order = lt;
      cell = tt;
      rows = valid_hit rules grid at (change_of s a (Some d)) valid keeps.0 keeps.1;
    }

pub actions_are_valid : ActionsAreValid
actions_are_valid rules grid at s x checked grid_of valid candidate acts = elim candidate [
  | inl cross ↦
      cross_valid rules grid at s acts.0.disk x (grids_have_sizes rules grid checked grid_of) valid
      (acts.2 ∙ by_kind s.kind Crossing (ap (λ (t : Stamp). t.kind) cross.2.2))
  | inr event ↦ elim event [
    | inl wall ↦
        let same = same_Some wall.0 acts.0 (sym wall.1 ∙ acts.1) in
        hit_valid rules grid at s acts.0.disk None x valid (valid.disk s.first acts.0 acts.1)
        (λ d e. cc)
        (subst (λ (p : Placed). IsEventOf rules s p.disk None) same wall.2) tt
        (acts.2 ∙ by_kind s.kind Wall (ap (λ (t : Stamp). t.kind) wall.2.2))
    | inr pair ↦
        let q = pair.1.2.0 in
        let same = same_Some pair.1.0 acts.0 (sym pair.1.1 ∙ acts.1) in
        hit_valid rules grid at s acts.0.disk (Some q.disk) x valid (valid.disk s.first acts.0 acts.1)
        (λ d e. subst (IsValidDisk rules) (same_Some q.disk d e) (valid.disk s.second q pair.1.2.1))
        (subst (λ (p : Placed). IsEventOf rules s p.disk (Some q.disk)) same pair.1.2.3) pair.0
        (acts.2 ∙ by_kind s.kind Pair (ap (λ (t : Stamp). t.kind) pair.1.2.3.2)
        ∙ ap (λ (o : Option Placed). hit_of (applied rules s acts.0.disk (disk_in o))) pair.1.2.1)
  ]
]
  where
    by_kind : (k l : Kind) → k ≡ l →
        action_of rules grid s acts.0.disk (partner_in k at s.second) k
        ≡ action_of rules grid s acts.0.disk (partner_in l at s.second) l
    by_kind k l e = ap (λ (m : Kind). action_of rules grid s acts.0.disk (partner_in m at s.second) m) e
