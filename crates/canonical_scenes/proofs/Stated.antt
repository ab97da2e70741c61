-- A canonical text says its scene.
use Rattle.std.proofs.Common.{◌≡◌, ℕ, suc, ◌+◌, ◌≤◌, ℤ, pos, Bool, true, false, List, [], ◌∷◌, length, slice_get, Option, Some, None, Result, Ok, Err, refl, sym, ap, ◌∙◌, arith}
use Rattle.std.specs.Prelude.{nat_lt, if◌then◌else◌, ⊤}
use Rattle.std.specs.Str.{is_utf8}
use Rattle.std.specs.Ordering.{int_eq}
use Rattle.std.proofs.lemmas.Bool.Decides.{nat_tests, Decides-int_eq}
use Rattle.std.proofs.lemmas.Int.{ints}
use Rattle.std.proofs.lemmas.Str.{IsUtf8-from_ascii, is_utf8-from_IsUtf8}
use Rattle.toml.specs.Data.{Data, array, Members}
use Rattle.toml.specs.Parse.{parse_document}
use Rattle.fixed_motion.specs.declared.rules.Rules.{Rules}
use Rattle.fixed_motion.specs.declared.disk.Disk.{Disk}
use Rattle.fixed_motion.specs.Rules.{six_numbers, IsChecked, is_in}
use Rattle.fixed_motion.specs.Scene.{SceneData, IsAtStart, IsEvery, IsValidScene}
use Rattle.fixed_motion.proofs.Ranges.{no_fault}
use Rattle.scene_reader.specs.declared.fault.SceneFault.{SceneFault}
use Rattle.scene_reader.specs.declared.fault.SceneFault.TheVariants.{NotToml, BadRow, BadSize, Outside, TooFast, Overlap, Rules as BadRules}
use Rattle.scene_reader.specs.Steps.{◌>>=◌, ◌>>◌, none_found, needed}
use Rattle.scene_reader.specs.Numbers.{Parts, rules_with, rules_of, every_range, every_of}
use Rattle.scene_reader.specs.Rows.{disk_in_row, disks_from_row, item_count, disks_of_rows}
use Rattle.scene_reader.specs.Disks.{disks_pass}
use Rattle.scene_reader.specs.Laws.{Claims}
use Rattle.scene_reader.specs.Says.{parts_of, scene_of, document_says, document_of}
use Rattle.scene_reader.proofs.Least.{claims}
use Rattle.scene_maker.specs.Canonical.{canonical_text}
use Rattle.canonical_scenes.specs.Parsed.{cells, row_numbers, rows, members_of}
use Rattle.canonical_scenes.specs.Laws.{CanonicalTextsSay}
use Rattle.canonical_scenes.proofs.Readable.{canonical_texts_parse}
use Rattle.canonical_scenes.proofs.Small.{valid_fits, valid_short}

-- ---- the disks
abbrev row_data : List ℤ → Data
row_data ns = array (cells ns)

row_back : (rules : Rules) (disk : Disk) → disk.base ≡ 0 → disk.mark ≡ 0 →
    disk_in_row rules.diameter (row_data (row_numbers rules disk)) ≡ Some disk
row_back rules disk base mark = by_size (int_eq disk.size rules.diameter) refl
  where
    by_size : (t : Bool) → int_eq disk.size rules.diameter ≡ t →
        disk_in_row rules.diameter (row_data (disk.x ∷ disk.y ∷ disk.vx ∷ disk.vy ∷ (if t then [] else disk.size ∷ []))) ≡ Some disk
    by_size true e =
        let same : disk.size ≡ rules.diameter = (Decides-int_eq disk.size rules.diameter).0 e in
        (λ i. Some (record { x = disk.x; y = disk.y; vx = disk.vx; vy = disk.vy; size = sym same i; base = sym base i; mark = sym mark i }))
    by_size false e =
        (λ i. Some (record { x = disk.x; y = disk.y; vx = disk.vx; vy = disk.vy; size = disk.size; base = sym base i; mark = sym mark i }))

abbrev AreAtStart : Rules → List Disk → Type 0
AreAtStart rules disks = (i : ℕ) (disk : Disk) → slice_get disks i ≡ Some disk → IsAtStart rules disk

rows_back : (rules : Rules) (i : ℕ) (disks : List Disk) → AreAtStart rules disks → disks_from_row rules.diameter i (rows rules disks) ≡ Ok disks
rows_back rules i [] h = refl
rows_back rules i (disk ∷ disks) h =
    let at = h 0 disk refl in
    let here = row_back rules disk at.base at.mark in
    let later = rows_back rules (i + 1) disks (λ k d e. h (suc k) d e) in
    ap (λ (o : Option Disk). needed (BadRow i) o >>= (λ d. disks_from_row rules.diameter (i + 1) (rows rules disks) >>= (λ ds. Ok (d ∷ ds)))) here
    ∙ ap (λ (r : Result (List Disk) SceneFault). r >>= (λ ds. Ok (disk ∷ ds))) later

count_rows : (rules : Rules) (disks : List Disk) → item_count (rows rules disks) ≡ length disks
count_rows rules [] = refl
count_rows rules (disk ∷ disks) = let more = count_rows rules disks in omega arith

not_above : (m n : ℕ) → m ≤ n → nat_lt n m ≡ false
not_above m n h = grind (arith, nat_tests)

disks_back : (scene : SceneData) → IsValidScene scene → disks_of_rows scene.rules.diameter (rows scene.rules scene.disks) ≡ Ok scene.disks
disks_back scene h =
    let count = h.count in
    let few : nat_lt 65536 (item_count (rows scene.rules scene.disks)) ≡ false =
    not_above (item_count (rows scene.rules scene.disks)) 65536 (omega (arith, count_rows scene.rules scene.disks)) in
    rw few (rows_back scene.rules 0 scene.disks h.disks)

-- no refusal of the disks is true of them
no_claim : (scene : SceneData) → IsValidScene scene → (fault : SceneFault) → Claims scene.rules scene.disks fault → ⊥
no_claim scene h (BadSize i) c = let a = c.bad in a.2 (h.disks i a.0 a.1).valid.size
no_claim scene h (Outside i) c = let a = c.bad in a.2 (h.disks i a.0 a.1).valid.centre
no_claim scene h (TooFast i) c = let a = c.bad in a.2 (h.disks i a.0 a.1).valid.velocity
no_claim scene h (Overlap i j) c = let m = c.meet in h.apart i j m.0 m.1 c.order m.2 m.3 m.4
no_claim scene h _ c = c

all_pass : (scene : SceneData) → IsValidScene scene → disks_pass scene.rules scene.disks ≡ Ok tt
all_pass scene h = by_result (disks_pass scene.rules scene.disks) refl
  where
    by_result : (r : Result ⊤ SceneFault) → disks_pass scene.rules scene.disks ≡ r → r ≡ Ok tt
    by_result (Ok a) e = refl
    by_result (Err fault) e = absurd (no_claim scene h fault (claims scene.rules scene.disks fault e))

-- ---- the numbers
rules_back : (rules : Rules) → IsChecked rules → rules_of (six_numbers rules) ≡ Ok rules
rules_back rules h =
    ap (λ o. none_found BadRules o >> Ok (rules_with (six_numbers rules))) (no_fault (six_numbers rules) h)

abbrev every_number : Option ℕ → Option ℤ
every_number None = None
every_number (Some ticks) = Some (pos ticks)

every_back : (every : Option ℕ) → IsEvery every → every_of (every_number every) ≡ Ok every
every_back None h = refl
every_back (Some ticks) h =
    let test : is_in every_range (pos ticks) ≡ true = grind (arith, ints, h.0, h.1) in
    rw test

-- ---- the scene
abbrev parts : SceneData → Parts
parts scene = record { numbers = six_numbers scene.rules; every = every_number scene.every; rows = rows scene.rules scene.disks }

parts_back : (scene : SceneData) → parts_of (members_of scene) ≡ Ok (parts scene)
parts_back scene = by_every scene.every
  where
    by_every : (every : Option ℕ) → parts_of (members_of (record scene { every = every })) ≡ Ok (parts (record scene { every = every }))
    by_every None = refl
    by_every (Some ticks) = refl

scene_back : (scene : SceneData) → IsValidScene scene → scene_of (parts scene) ≡ Ok scene
scene_back scene h =
    rw (rules_back scene.rules h.rules, every_back scene.every h.every, disks_back scene h, all_pass scene h)

document_back : (scene : SceneData) → IsValidScene scene → document_says (members_of scene) ≡ Ok scene
document_back scene h = ap (λ (r : Result Parts SceneFault). r >>= (λ p. scene_of p)) (parts_back scene) ∙ scene_back scene h

pub canonical_texts_say : CanonicalTextsSay
canonical_texts_say scene h =
    let text : List ℕ = canonical_text scene in
    let short = valid_short scene h in
    let size : nat_lt 67108864 (length text) ≡ false = not_above (length text) 67108864 short.short in
    let utf8 : is_utf8 text ≡ true = is_utf8-from_IsUtf8 text (IsUtf8-from_ascii text short.ascii) in
    let parsed : parse_document text ≡ Some (members_of scene) = canonical_texts_parse scene (valid_fits scene h) in
    let read : document_of text ≡ Ok (members_of scene) =
    ap (λ (t : Bool). if t then needed NotToml (parse_document text) else Err NotToml) utf8 ∙ ap (needed NotToml) parsed in
    rw size (ap (λ (r : Result Members SceneFault). r >>= (λ ms. document_says ms)) read ∙ document_back scene h)
