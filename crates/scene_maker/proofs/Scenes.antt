-- The scene of a number and a number of disks: there is one, it is valid, and there is no other.
use Rattle.std.proofs.Common.{◌≡◌, ◌∙◌, ap, sym, refl, ℕ, ◌+◌, ◌*◌, ◌<◌, ◌≤◌, List, [], ◌∷◌, ◌++◌, map, length, arith}
use Rattle.std.specs.Prelude.{Some, None, slice_get}
use Rattle.std.specs.List.{range_with_len}
use Rattle.std.proofs.lemmas.List.FromFn.{length-map-range_with_len, get_or-map-range_with_len, map-range_with_len_more, fill_by_all}
use Rattle.std.proofs.lemmas.Option.{slice_get-get_or, get_or_from_slice_get, slice_get_within, same_Some}
use Rattle.fixed_motion.specs.declared.rules.Rules.{Rules}
use Rattle.fixed_motion.specs.declared.disk.Disk.{Disk}
use Rattle.fixed_motion.specs.Scene.{SceneData, IsValidScene}
use Rattle.scene_maker.specs.Laws.{OneScene}
use Rattle.scene_maker.specs.Made.{IsSide, IsMade, made_rules, made_disk}
use Rattle.scene_maker.proofs.Sides.{side_most, side_of, same_side}
use Rattle.scene_maker.proofs.Valid.{rules_checked, disk_at_start, disks_apart}

abbrev pub made_disks : ℕ → ℕ → ℕ → List Disk
made_disks number side count = map (made_disk number side) (range_with_len 0 count)

abbrev pub made_scene : ℕ → ℕ → ℕ → SceneData
made_scene number side count = record { rules = made_rules side; disks = made_disks number side count; every = None }

made_disk_at : (number side count index : ℕ) → index < count → slice_get (made_disks number side count) index ≡ Some (made_disk number side index)
made_disk_at number side count index h =
    let d = made_disk number side index in
    let within : index < length (made_disks number side count) = rw (length-map-range_with_len (made_disk number side) 0 count) h in
    slice_get-get_or (made_disks number side count) index d within
    ∙ ap Some (get_or-map-range_with_len (made_disk number side) 0 count index index d h (omega arith))

pub is_made : (number side count : ℕ) → IsSide count side → IsMade number count (made_scene number side count)
is_made number side count h = record {
  side = side;
  is_side = h;
  rules = refl;
  length_is = length-map-range_with_len (made_disk number side) 0 count;
  disks = made_disk_at number side count;
  every = refl;
}

-- the list with the disk of the next index
pub one_more_disk : (number side index : ℕ) (disks later : List Disk) (disk : Disk) → disks ≡ made_disks number side index →
    disk ≡ made_disk number side index → later ≡ disks ++ disk ∷ [] → later ≡ made_disks number side (index + 1)
one_more_disk number side index disks later disk e f g =
    g ∙ (λ i. e i ++ f i ∷ []) ∙ sym (map-range_with_len_more (made_disk number side) 0 index index (omega arith))

-- what the code makes once its index has reached the number of disks
pub made_of : (number side count index : ℕ) (rules : Rules) (disks : List Disk) → IsSide count side → index ≡ count →
    rules ≡ made_rules side → disks ≡ made_disks number side index →
    IsMade number count (record { rules = rules; disks = disks; every = None })
made_of number side count index rules disks h e f g = rw (f, g, e) (is_made number side count h)

disks_are : (number side count : ℕ) (disks : List Disk) → length disks ≡ count →
    ((i : ℕ) → i < count → slice_get disks i ≡ Some (made_disk number side i)) → disks ≡ made_disks number side count
disks_are number side count disks h k =
    fill_by_all (made_disk number side) disks count (made_disk number side 0) h
    (λ i below. get_or_from_slice_get disks i (made_disk number side i) (made_disk number side 0) (k i below))

made_is : (number count : ℕ) (scene : SceneData) (h : IsMade number count scene) → scene ≡ made_scene number h.side count
made_is number count scene h =
    let disks = disks_are number h.side count scene.disks h.length_is h.disks in
    λ i. record { rules = h.rules i; disks = disks i; every = h.every i }

-- an index of a disk has its place
index_within : (count side index : ℕ) → IsSide count side → index < count → index < side * side
index_within count side index h k = let room = h.room in omega arith

-- what stands in the list is the disk of its index
one_of_them : (number side count index : ℕ) (disk : Disk) → slice_get (made_disks number side count) index ≡ Some disk →
    (index < count) × (disk ≡ made_disk number side index)
one_of_them number side count index disk at =
    let within : index < length (made_disks number side count) = slice_get_within (made_disks number side count) index disk at in
    let below : index < count = rw (length-map-range_with_len (made_disk number side) 0 count) at within in
    (below, same_Some disk (made_disk number side index) (sym at ∙ made_disk_at number side count index below))

made_valid : (number side count : ℕ) → count ≤ 65536 → IsSide count side → IsValidScene (made_scene number side count)
made_valid number side count h k = record {
  rules = rules_checked side k.some (side_most count side h k);
  count = rw (length-map-range_with_len (made_disk number side) 0 count) h;
  disks = λ i disk at. let here = one_of_them number side count i disk at in rw here.1 (disk_at_start number side i k.some (index_within count side i k here.0));
  apart = λ i j a b below at_a at_b.
      let first = one_of_them number side count i a at_a in
      let second = one_of_them number side count j b at_b in
      rw (first.1, second.1) (disks_apart number side i j k.some below);
  every = tt;
}

pub is_valid : (number count : ℕ) (scene : SceneData) → count ≤ 65536 → IsMade number count scene → IsValidScene scene
is_valid number count scene h k = rw (made_is number count scene k) (made_valid number k.side count h k.is_side)

pub no_other : (number side count : ℕ) (other : SceneData) → IsSide count side → IsMade number count other → other ≡ made_scene number side count
no_other number side count other h k =
    made_is number count other k ∙ ap (λ n. made_scene number n count) (same_side count k.side side k.is_side h)

-- for each number and number of disks exactly one scene is made, and it is valid
pub one_scene : OneScene
one_scene number count few =
    let (side, is_side) = side_of count few in (
      made_scene number side count,
      is_made number side count is_side,
      is_valid number count (made_scene number side count) few (is_made number side count is_side),
      λ other. no_other number side count other is_side,
    )
