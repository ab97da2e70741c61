-- The stamps of a region's events are in range.
use Rattle.std.proofs.Common.{◌≡◌, ◌⊎◌, inl, inr, ◌<◌, ℕ, max, arith, ap}
use Rattle.std.specs.Prelude.{Option, Some, None, IfSome, MatchOption}
use Rattle.fixed_motion.specs.declared.rules.Rules.{Rules}
use Rattle.fixed_motion.specs.declared.disk.Disk.{Disk}
use Rattle.fixed_motion.specs.Rules.{IsChecked}
use Rattle.fixed_motion.specs.Motion.{IsValidDisk, mark_at}
use Rattle.event_stamps.specs.declared.Stamp.{Stamp}
use Rattle.event_stamps.specs.Order.{IsInRange}
use Rattle.event_stamps.specs.Least.{IsLeastOf, IsOnly}
use Rattle.event_rules.specs.Events.{IsPairEvent, IsChance, HaveNoEvent}
use Rattle.event_rules.proofs.Ranges.{rounds, side_range}
use Rattle.event_rules.proofs.Valid.{mark_within}
use Rattle.cell_grid.specs.Grid.{GridData}
use Rattle.region_view.specs.declared.action.Placed.{Placed}
use Rattle.region_view.specs.Events.{IsAlone}
use Rattle.region_view.specs.Placing.{Placing, IsCellCandidate, IsNative, IsValidPlacing}

alone_range : (rules : Rules) (grid : GridData) (disk : ℕ) (p : Placed) (s : Stamp) → IsChecked rules → IsValidDisk rules p.disk → disk < 65536 →
    IsAlone rules grid disk p s → IsInRange s
alone_range rules grid disk p s checked valid lt (inl cross) =
    let limit = rounds rules checked in
    let mark = mark_within p.disk s.tick rules.round_limit valid.mark in
    let round : s.round ≡ mark_at p.disk s.tick = ap (λ (v : Stamp). v.round) cross.2 in
    let first : s.first ≡ disk = ap (λ (v : Stamp). v.first) cross.2 in
    let second : s.second ≡ 0 = ap (λ (v : Stamp). v.second) cross.2 in
    (omega arith, omega arith, omega arith)
alone_range rules grid disk p s checked valid lt (inr wall) =
    let limit = rounds rules checked in
    let mark = mark_within p.disk s.tick rules.round_limit valid.mark in
    let round : s.round ≡ mark_at p.disk s.tick = ap (λ (v : Stamp). v.round) wall.2 in
    let first : s.first ≡ disk = ap (λ (v : Stamp). v.first) wall.2 in
    let side = side_range rules p.disk s.second _ wall.0.past in
    (omega arith, omega arith, omega arith)

pub alone_in_range : (rules : Rules) (grid : GridData) (disk : ℕ) (p : Placed) (o : Option Stamp) → IsChecked rules → IsValidDisk rules p.disk →
    disk < 65536 → IsLeastOf (IsAlone rules grid disk p) o → IfSome o IsInRange
alone_in_range rules grid disk p None checked valid lt least = tt
alone_in_range rules grid disk p (Some s) checked valid lt least = alone_range rules grid disk p s checked valid lt least.0

pair_range : (rules : Rules) (i j : ℕ) (a b : Disk) (s : Stamp) → IsChecked rules → IsValidDisk rules a → IsValidDisk rules b →
    i < 65536 → j < 65536 → IsPairEvent rules i a j b s → IsInRange s
pair_range rules i j a b s checked first second low high event =
    let limit = rounds rules checked in
    let one = mark_within a s.tick rules.round_limit first.mark in
    let other = mark_within b s.tick rules.round_limit second.mark in
    let round : s.round ≡ max (mark_at a s.tick) (mark_at b s.tick) = ap (λ (v : Stamp). v.round) event.2 in
    let from : s.first ≡ i = ap (λ (v : Stamp). v.first) event.2 in
    let to : s.second ≡ j = ap (λ (v : Stamp). v.second) event.2 in
    (omega arith, omega arith, omega arith)

pair_in_range : (rules : Rules) (i j : ℕ) (a b : Disk) (o : Option Stamp) → IsChecked rules → IsValidDisk rules a → IsValidDisk rules b →
    i < 65536 → j < 65536 → MatchOption o ((s : Stamp) → IsPairEvent rules i a j b s → ⊥) (IsOnly (IsPairEvent rules i a j b)) → IfSome o IsInRange
pair_in_range rules i j a b None checked first second low high event = tt
pair_in_range rules i j a b (Some s) checked first second low high event =
    pair_range rules i j a b s checked first second low high event.0

-- whichever is the lower one
pub between_in_range : (rules : Rules) (i j : ℕ) (a b : Disk) (o : Option Stamp) → IsChecked rules → IsValidDisk rules a → IsValidDisk rules b →
    i < 65536 → j < 65536 → (i < j) ⊎ (j < i) →
    (i < j → MatchOption o ((s : Stamp) → IsPairEvent rules i a j b s → ⊥) (IsOnly (IsPairEvent rules i a j b))) →
    (j < i → MatchOption o ((s : Stamp) → IsPairEvent rules j b i a s → ⊥) (IsOnly (IsPairEvent rules j b i a))) → IfSome o IsInRange
between_in_range rules i j a b o checked first second low high (inl rising) up down =
    pair_in_range rules i j a b o checked first second low high (up rising)
between_in_range rules i j a b o checked first second low high (inr falling) up down =
    pair_in_range rules j i b a o checked second first high low (down falling)

-- so is the one at which two disks can hit each other
pub chance_in_range : (rules : Rules) (i j : ℕ) (a b : Disk) (o : Option Stamp) → IsChecked rules → IsValidDisk rules a → IsValidDisk rules b →
    i < 65536 → j < 65536 → MatchOption o (HaveNoEvent rules i a j b) (IsChance rules i a j b) → IfSome o IsInRange
chance_in_range rules i j a b None checked first second low high chance = tt
chance_in_range rules i j a b (Some s) checked first second low high chance =
    let limit = rounds rules checked in
    let one = mark_within a s.tick rules.round_limit first.mark in
    let other = mark_within b s.tick rules.round_limit second.mark in
    let round = chance.round in
    let from = chance.first in
    let to = chance.second in
    (omega arith, omega arith, omega arith)

-- those of native candidates of a valid placing
pub native_in_range : (rules : Rules) (grid : GridData) (region : ℕ) (at : Placing) (s : Stamp) → IsChecked rules →
    IsValidPlacing rules grid at → IsNative rules grid region at s → IsInRange s
native_in_range rules grid region at s checked valid native = from native.0
  where
    from : IsCellCandidate rules grid at s → IsInRange s
    from (inl cross) = alone_range rules grid s.first cross.0 s checked (valid.disk s.first cross.0 cross.1) (valid.number s.first cross.0 cross.1) (inl cross.2)
    from (inr (inl wall)) = alone_range rules grid s.first wall.0 s checked (valid.disk s.first wall.0 wall.1) (valid.number s.first wall.0 wall.1) (inr wall.2)
    from (inr (inr near)) =
        let p = near.1.0 in
        let q = near.1.2.0 in
        let here = near.1.1 in
        let there = near.1.2.1 in
        pair_range rules s.first s.second p.disk q.disk s checked (valid.disk s.first p here) (valid.disk s.second q there)
        (valid.number s.first p here) (valid.number s.second q there) near.1.2.3
