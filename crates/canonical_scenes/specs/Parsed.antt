-- A canonical text as a document.
use Rattle.std.specs.Prelude.{◌≡◌, ℕ, ℤ, pos, if◌then◌else◌, List, [], ◌∷◌, codes, Option, Some, None, FitsSigned, ⊤}
use Rattle.std.specs.Int.{w64}
use Rattle.std.specs.Ordering.{int_eq}
use Rattle.toml.specs.Data.{integer, array, Items, no_items, item, Members, no_members, member}
use Rattle.toml.specs.Parse.{parse_document}
use Rattle.fixed_motion.specs.declared.rules.Rules.{Rules}
use Rattle.fixed_motion.specs.declared.disk.Disk.{Disk}
use Rattle.fixed_motion.specs.Scene.{SceneData}
use Rattle.scene_maker.specs.Canonical.{canonical_text}

-- the numbers of a row
abbrev pub row_numbers : Rules → Disk → List ℤ
row_numbers rules disk =
    disk.x ∷ disk.y ∷ disk.vx ∷ disk.vy ∷ (if int_eq disk.size rules.diameter then [] else disk.size ∷ [])

-- numbers as items of an array
abbrev pub cells : List ℤ → Items
cells [] = no_items
cells (n ∷ ns) = item (integer n) (cells ns)

-- the rows of disks as items of an array, each row an array of its numbers
abbrev pub rows : Rules → List Disk → Items
rows rules [] = no_items
rows rules (disk ∷ disks) = item (array (cells (row_numbers rules disk))) (rows rules disks)

-- one more member, if the state is asked for again
abbrev pub with_every : Option ℕ → Members → Members
with_every None ms = ms
with_every (Some ticks) ms = member (codes "every") (integer (pos ticks)) ms

-- the members of a scene's document, in the order of their keys
abbrev pub members_of : SceneData → Members
members_of scene =
    member (codes "diameter") (integer scene.rules.diameter)
    (member (codes "disks") (array (rows scene.rules scene.disks))
    (member (codes "end") (integer (pos scene.rules.end))
    (with_every scene.every
    (member (codes "height") (integer scene.rules.height)
    (member (codes "round_limit") (integer (pos scene.rules.round_limit))
    (member (codes "speed_limit") (integer scene.rules.speed_limit)
    (member (codes "width") (integer scene.rules.width) no_members)))))))

-- each number fits 64 bits, with its sign
abbrev pub AllFit : List ℤ → Type 0
AllFit [] = ⊤
AllFit (n ∷ ns) = FitsSigned w64 n × AllFit ns

-- each number in the rows of the disks fits 64 bits, with its sign
abbrev pub RowsFit : Rules → List Disk → Type 0
RowsFit rules [] = ⊤
RowsFit rules (disk ∷ disks) = AllFit (row_numbers rules disk) × RowsFit rules disks

-- the number at `every`, if there is one
abbrev pub every_numbers : Option ℕ → List ℤ
every_numbers None = []
every_numbers (Some ticks) = pos ticks ∷ []

-- each number fits 64 bits
pub record FitsNumbers (scene : SceneData) : Type 0 where
  pub rules : AllFit (scene.rules.width ∷ scene.rules.height ∷ scene.rules.diameter ∷ scene.rules.speed_limit
      ∷ pos scene.rules.round_limit ∷ pos scene.rules.end ∷ [])
  pub every : AllFit (every_numbers scene.every)
  pub rows : RowsFit scene.rules scene.disks

-- the canonical text of a scene whose numbers fit is the document of its members
abbrev pub CanonicalTextsParse : Type 0
CanonicalTextsParse = (scene : SceneData) → FitsNumbers scene → parse_document (canonical_text scene) ≡ Some (members_of scene)
