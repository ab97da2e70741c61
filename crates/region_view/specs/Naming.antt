-- The disks of an event, and what a change of some disks leaves as it was.
use Rattle.std.specs.Prelude.{◌≡◌, ◌≢◌, ◌⊎◌, ◌↔◌, ℕ, List, option_map}
use Rattle.std.specs.List.{Contains}
use Rattle.fixed_motion.specs.declared.rules.Rules.{Rules}
use Rattle.event_stamps.specs.declared.Stamp.{Stamp}
use Rattle.event_stamps.specs.declared.Kind.TheVariants.{Pair}
use Rattle.cell_grid.specs.Grid.{GridData}
use Rattle.region_view.specs.Placing.{IsNative}
use Rattle.region_view.specs.Views.{ViewData, rows_in}

-- the disk is one of the event's
abbrev pub Names : Stamp → ℕ → Type 0
Names s disk = (s.first ≡ disk) ⊎ ((s.kind ≡ Pair) × (s.second ≡ disk))

-- the event's disks are these two, in some order
abbrev pub IsPairOf : Stamp → ℕ → ℕ → Type 0
IsPairOf s i j = ((s.first ≡ i) × (s.second ≡ j)) ⊎ ((s.first ≡ j) × (s.second ≡ i))

-- one of the event's disks is among these
abbrev pub NamesAny : Stamp → List ℕ → Type 0
NamesAny s ids = Contains ids s.first ⊎ ((s.kind ≡ Pair) × Contains ids s.second)

-- at numbers other than these the same stands before and after
abbrev pub IsSameBut : List ℕ → ViewData → ViewData → Type 0
IsSameBut ids before after = (i : ℕ) → ¬ Contains ids i → rows_in after i ≡ rows_in before i

-- at numbers other than those of an event's disks the same stands before and after
abbrev pub IsSameButBy : Stamp → ViewData → ViewData → Type 0
IsSameButBy s before after = (i : ℕ) → ¬ Names s i → rows_in after i ≡ rows_in before i

-- at other numbers the same stands before and after, and this disk has the same record
abbrev pub IsMoved : ℕ → ViewData → ViewData → Type 0
IsMoved disk before after = ((i : ℕ) → i ≢ disk → rows_in after i ≡ rows_in before i)
    × (option_map (λ p. p.disk) (rows_in after disk) ≡ option_map (λ p. p.disk) (rows_in before disk))

-- an event that names no changed disk is native if and only if it was
abbrev pub NativesStay : Type 0
NativesStay = (rules : Rules) (grid : GridData) (region : ℕ) (before after : ViewData) (ids : List ℕ) (s : Stamp) →
    IsSameBut ids before after → ¬ NamesAny s ids →
    (IsNative rules grid region (rows_in before) s ↔ IsNative rules grid region (rows_in after) s)
