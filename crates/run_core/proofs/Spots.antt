-- The rows of a cell state one after the other, and the spots of its disks at the end.
use Rattle.std.proofs.Common.{◌≡◌, ℕ, ◌+◌, ◌<◌, List, [], ◌∷◌, ◌++◌}
use Rattle.std.proofs.Common.{length, take, get_or, slice_get, sym, ap, ◌∙◌, refl, Some}
use Rattle.std.specs.Prelude.{option_map}
use Rattle.std.proofs.lemmas.List.{map-append, take_more}
use Rattle.std.proofs.lemmas.Option.{same_Some, slice_get_within, slice_get-get_or, slice_get-map}
use Rattle.event_rules.specs.declared.outcome.Spot.{Spot}
use Rattle.event_rules.specs.Run.{spots_of, spot_of}
use Rattle.region_view.specs.declared.action.Placed.{Placed}
use Rattle.cell_sequence.specs.Run.{disks_of}

pub one_more_row : (placed : List Placed) (i : ℕ) (row : Placed) (rows : List Placed) →
    slice_get placed i ≡ Some row → rows ≡ take i placed → rows ++ row ∷ [] ≡ take (i + 1) placed
one_more_row placed i row rows at so_far =
    let within : i < length placed = slice_get_within placed i row at in
    let same = same_Some row (get_or placed i row) (sym at ∙ slice_get-get_or placed i row within) in
    ap (λ (v : List Placed). v ++ row ∷ []) so_far ∙ ap (λ (v : Placed). take i placed ++ v ∷ []) same
    ∙ sym (take_more placed i row within)

-- the disk of a row
pub disk_at : (placed : List Placed) (i : ℕ) (row : Placed) → slice_get placed i ≡ Some row →
    slice_get (disks_of placed) i ≡ Some row.disk
disk_at placed i row at = slice_get-map (λ (p : Placed). p.disk) placed i
    ∙ ap (option_map (λ (p : Placed). p.disk)) at

pub one_spot : (tick : ℕ) (placed : List Placed) (i : ℕ) (row : Placed) (spots : List Spot) →
    slice_get placed i ≡ Some row → spots ≡ spots_of tick (disks_of (take i placed)) →
    spots ++ spot_of tick row.disk ∷ [] ≡ spots_of tick (disks_of (take (i + 1) placed))
one_spot tick placed i row spots at so_far =
    ap (λ (v : List Spot). v ++ spot_of tick row.disk ∷ []) so_far
    ∙ sym (map-append (spot_of tick) (disks_of (take i placed)) (row.disk ∷ []))
    ∙ ap (spots_of tick) (sym (map-append (λ p. p.disk) (take i placed) (row ∷ [])))
    ∙ ap (λ (v : List Placed). spots_of tick (disks_of v)) (one_more_row placed i row (take i placed) at refl)
