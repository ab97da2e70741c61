-- The numbers of a valid scene are small, and so is its canonical text.
use Rattle.std.proofs.Common.{◌≡◌, ℕ, suc, ◌+◌, ◌*◌, ◌^◌, ◌<◌, ◌≤◌, ℤ, pos, negsuc, nat_abs, ◌≤ℤ◌, Bool, true, false, ◌&&◌, List, [], ◌∷◌, ◌++◌, length, slice_get, codes, Option, Some, None, FitsSigned, w64, refl, arith, length-append}
use Rattle.std.specs.Prelude.{flat_map, nat_lt, if◌then◌else◌, ⊤}
use Rattle.std.specs.Fmt.{signed_decimal}
use Rattle.std.specs.Int.Signed.{mag}
use Rattle.std.specs.Ordering.{int_eq}
use Rattle.std.specs.Str.{IsAscii}
use Rattle.std.proofs.lemmas.Bool.{and_parts}
use Rattle.std.proofs.lemmas.Bool.Decides.{nat_tests}
use Rattle.std.proofs.lemmas.Int.{ints, fits_signed_from_abs}
use Rattle.std.proofs.lemmas.Fmt.{IsAscii-signed, length_signed_le}
use Rattle.std.proofs.lemmas.Str.{IsAscii-append}
use Rattle.std.proofs.lemmas.Str.Ascii.{IsAscii-nil, IsAscii-cons}
use Rattle.fixed_motion.specs.declared.rules.Rules.{Rules}
use Rattle.fixed_motion.specs.declared.disk.Disk.{Disk}
use Rattle.fixed_motion.specs.Rules.{IsChecked}
use Rattle.fixed_motion.specs.Motion.{centre_of, velocity_of}
use Rattle.fixed_motion.specs.Scene.{SceneData, IsAtStart, IsEvery, IsValidScene}
use Rattle.fixed_motion.proofs.Sizes.{slow_size, inside_in_box, in_box_size}
use Rattle.text_lines.specs.Lines.{ended}
use Rattle.scene_maker.specs.Canonical.{key_line, rules_text, every_text, size_text, row_line, canonical_text}
use Rattle.canonical_scenes.specs.Parsed.{row_numbers, AllFit, RowsFit, every_numbers, FitsNumbers}

-- ---- small numbers
abbrev pub IsSmall : ℤ → Type 0
IsSmall z = nat_abs z ≤ 2 ^ 41

small_fits : (z : ℤ) → IsSmall z → FitsSigned w64 z
small_fits (pos n) h = fits_signed_from_abs w64 (pos n) (omega arith)
small_fits (negsuc n) h = fits_signed_from_abs w64 (negsuc n) (omega arith)

mag_le : (z : ℤ) → mag z ≤ nat_abs z
mag_le (pos n) = omega arith
mag_le (negsuc n) = omega arith

between : (z : ℤ) (low high : ℕ) → pos low ≤ℤ z → z ≤ℤ pos high → high ≤ 2 ^ 41 → IsSmall z
between z low high h k most = omega (arith, ints)

-- the numbers of the rules
pub record AreSmall (rules : Rules) : Type 0 where
  pub width : IsSmall rules.width
  pub height : IsSmall rules.height
  pub diameter : IsSmall rules.diameter
  pub speed_limit : IsSmall rules.speed_limit
  pub round_limit : IsSmall (pos rules.round_limit)
  pub end : IsSmall (pos rules.end)

rules_small : (rules : Rules) → IsChecked rules → AreSmall rules
rules_small rules h =
    let width = h.width in let height = h.height in let diameter = h.diameter in
    let speed = h.speed_limit in let rounds = h.round_limit in let last = h.end in
    record {
      width = omega (arith, ints);
      height = omega (arith, ints);
      diameter = omega (arith, ints);
      speed_limit = omega (arith, ints);
      round_limit = omega (arith, ints);
      end = omega (arith, ints);
    }

pub record IsSmallDisk (disk : Disk) : Type 0 where
  pub x : IsSmall disk.x
  pub y : IsSmall disk.y
  pub vx : IsSmall disk.vx
  pub vy : IsSmall disk.vy
  pub size : IsSmall disk.size

disk_small : (rules : Rules) (disk : Disk) → IsChecked rules → IsAtStart rules disk → IsSmallDisk disk
disk_small rules disk checked h =
    let v = slow_size rules (velocity_of disk) checked h.valid.velocity in
    let c = in_box_size (centre_of disk) (inside_in_box rules disk (centre_of disk) checked h.valid.size h.valid.centre) in
    let cx = c.x in let cy = c.y in let vx = v.x in let vy = v.y in
    let width = checked.width in let diameter = checked.diameter in let size = h.valid.size.range in
    record { x = omega arith; y = omega arith; vx = omega arith; vy = omega arith; size = omega (arith, ints) }

every_small : (every : Option ℕ) → IsEvery every → AllFit (every_numbers every)
every_small None h = tt
every_small (Some ticks) h = (small_fits (pos ticks) (omega (arith, h.0, h.1)), tt)

row_fits : (rules : Rules) (disk : Disk) → IsSmallDisk disk → AllFit (row_numbers rules disk)
row_fits rules disk h = (
  small_fits disk.x h.x,
  (
    small_fits disk.y h.y,
    (
      small_fits disk.vx h.vx,
      (
        small_fits disk.vy h.vy,
        by_size (int_eq disk.size rules.diameter),
      ),
    ),
  ),
)
  where
    by_size : (t : Bool) → AllFit (if t then [] else disk.size ∷ [])
    by_size true = tt
    by_size false = (small_fits disk.size h.size, tt)

abbrev pub AllSmall : List Disk → Type 0
AllSmall [] = ⊤
AllSmall (disk ∷ disks) = IsSmallDisk disk × AllSmall disks

all_small : (rules : Rules) (disks : List Disk) → IsChecked rules →
    ((i : ℕ) (disk : Disk) → slice_get disks i ≡ Some disk → IsAtStart rules disk) → AllSmall disks
all_small rules [] checked h = tt
all_small rules (disk ∷ disks) checked h =
    (disk_small rules disk checked (h 0 disk refl), all_small rules disks checked (λ i d e. h (suc i) d e))

rows_fit : (rules : Rules) (disks : List Disk) → AllSmall disks → RowsFit rules disks
rows_fit rules [] h = tt
rows_fit rules (disk ∷ disks) h = (row_fits rules disk h.0, rows_fit rules disks h.1)

pub valid_fits : (scene : SceneData) → IsValidScene scene → FitsNumbers scene
valid_fits scene h =
    let r = rules_small scene.rules h.rules in
    record {
      rules = (
        small_fits scene.rules.width r.width,
        (
          small_fits scene.rules.height r.height,
          (
            small_fits scene.rules.diameter r.diameter,
            (
              small_fits scene.rules.speed_limit r.speed_limit,
              (small_fits (pos scene.rules.round_limit) r.round_limit, (small_fits (pos scene.rules.end) r.end, tt)),
            ),
          ),
        ),
      );
      every = every_small scene.every h.every;
      rows = rows_fit scene.rules scene.disks (all_small scene.rules scene.disks h.rules h.disks);
    }

-- ---- short texts
-- a text of ASCII of at most this many bytes
pub record IsShort (most : ℕ) (text : List ℕ) : Type 0 where
  pub ascii : IsAscii text
  pub short : length text ≤ most

both : (m n : ℕ) (a b : List ℕ) → IsShort m a → IsShort n b → IsShort (m + n) (a ++ b)
both m n a b h k =
    let size = length-append a b in
    let x = h.short in let y = k.short in
    record { ascii = IsAscii-append a b h.ascii k.ascii; short = omega arith }

widen : (m n : ℕ) (a : List ℕ) → IsShort m a → m ≤ n → IsShort n a
widen m n a h le = let x = h.short in record { ascii = h.ascii; short = omega arith }

abbrev all_ascii : List ℕ → Bool
all_ascii [] = true
all_ascii (b ∷ bs) = nat_lt b 128 && all_ascii bs

word_ascii : (word : List ℕ) → all_ascii word ≡ true → IsAscii word
word_ascii [] e = IsAscii-nil
word_ascii (b ∷ bs) e =
    let parts = and_parts (nat_lt b 128) (all_ascii bs) e in
    let low : b < 128 = grind (arith, nat_tests) in
    IsAscii-cons b bs low (word_ascii bs parts.1)

word : (w : List ℕ) (n : ℕ) → all_ascii w ≡ true → length w ≤ n → IsShort n w
word w n e le = record { ascii = word_ascii w e; short = le }

number : (z : ℤ) → IsSmall z → IsShort 20 (signed_decimal z)
number z h =
    let m = mag_le z in
    record { ascii = IsAscii-signed z (omega arith); short = length_signed_le 19 z (omega arith) (omega arith) }

key_short : (key : List ℕ) (z : ℤ) → all_ascii key ≡ true → length key ≤ 11 → IsSmall z → IsShort 40 (key_line key z)
key_short key z e le h =
    widen 35 40 (key_line key z)
    (both 34 1 (key ++ (codes " = " ++ signed_decimal z)) (10 ∷ [])
    (both 11 23 key (codes " = " ++ signed_decimal z) (word key 11 e le)
    (both 3 20 (codes " = ") (signed_decimal z) (word (codes " = ") 3 refl (omega arith)) (number z h)))
    (word (10 ∷ []) 1 refl (omega arith))) (omega arith)

size_short : (rules : Rules) (disk : Disk) → IsSmall disk.size → IsShort 22 (size_text rules disk)
size_short rules disk h = by_size (int_eq disk.size rules.diameter)
  where
    by_size : (t : Bool) → IsShort 22 (if t then [] else codes ", " ++ signed_decimal disk.size)
    by_size true = word [] 22 refl (omega arith)
    by_size false = both 2 20 (codes ", ") (signed_decimal disk.size) (word (codes ", ") 2 refl (omega arith)) (number disk.size h)

row_short : (rules : Rules) (disk : Disk) → IsSmallDisk disk → IsShort 128 (row_line rules disk)
row_short rules disk h =
    let comma = word (codes ", ") 2 refl (omega arith) in
    widen 115 128 (row_line rules disk)
    (both 114 1 _ (10 ∷ [])
    (both 3 111 (codes "  [") _ (word (codes "  [") 3 refl (omega arith))
    (both 20 91 (signed_decimal disk.x) _ (number disk.x h.x)
    (both 2 89 (codes ", ") _ comma
    (both 20 69 (signed_decimal disk.y) _ (number disk.y h.y)
    (both 2 67 (codes ", ") _ comma
    (both 20 47 (signed_decimal disk.vx) _ (number disk.vx h.vx)
    (both 2 45 (codes ", ") _ comma
    (both 20 25 (signed_decimal disk.vy) _ (number disk.vy h.vy)
    (both 22 3 (size_text rules disk) (codes "],") (size_short rules disk h.size) (word (codes "],") 3 refl (omega arith)))))))))))
    (word (10 ∷ []) 1 refl (omega arith))) (omega arith)

rows_short : (rules : Rules) (disks : List Disk) → AllSmall disks → IsShort (128 * length disks) (flat_map (row_line rules) disks)
rows_short rules [] h = word [] 0 refl (omega arith)
rows_short rules (disk ∷ disks) h =
    widen (128 + 128 * length disks) (128 * length (disk ∷ disks)) (flat_map (row_line rules) (disk ∷ disks))
    (both 128 (128 * length disks) (row_line rules disk) (flat_map (row_line rules) disks)
    (row_short rules disk h.0) (rows_short rules disks h.1)) (omega arith)

rules_short : (rules : Rules) → AreSmall rules → IsShort 240 (rules_text rules)
rules_short rules h =
    both 40 200 (key_line (codes "width") rules.width) _ (key_short (codes "width") rules.width refl (omega arith) h.width)
    (both 40 160 (key_line (codes "height") rules.height) _ (key_short (codes "height") rules.height refl (omega arith) h.height)
    (both 40 120 (key_line (codes "diameter") rules.diameter) _ (key_short (codes "diameter") rules.diameter refl (omega arith) h.diameter)
    (both 40 80 (key_line (codes "speed_limit") rules.speed_limit) _ (key_short (codes "speed_limit") rules.speed_limit refl (omega arith) h.speed_limit)
    (both 40 40 (key_line (codes "round_limit") (pos rules.round_limit)) _ (key_short (codes "round_limit") (pos rules.round_limit) refl (omega arith) h.round_limit)
    (key_short (codes "end") (pos rules.end) refl (omega arith) h.end)))))

every_short : (every : Option ℕ) → IsEvery every → IsShort 40 (every_text every)
every_short None h = word [] 40 refl (omega arith)
every_short (Some ticks) h = key_short (codes "every") (pos ticks) refl (omega arith) (omega (arith, h.0, h.1))

pub valid_short : (scene : SceneData) → IsValidScene scene → IsShort 67108864 (canonical_text scene)
valid_short scene h =
    let r = rules_small scene.rules h.rules in
    let count = h.count in
    let rows : List ℕ = flat_map (row_line scene.rules) scene.disks in
    let n : ℕ = 128 * length scene.disks in
    widen (240 + (40 + (10 + (n + 2)))) 67108864 (canonical_text scene)
    (both 240 (40 + (10 + (n + 2))) (rules_text scene.rules) _ (rules_short scene.rules r)
    (both 40 (10 + (n + 2)) (every_text scene.every) _ (every_short scene.every h.every)
    (both 10 (n + 2) (ended (codes "disks = [")) _ (word (ended (codes "disks = [")) 10 refl (omega arith))
    (both n 2 rows (ended (codes "]")) (rows_short scene.rules scene.disks (all_small scene.rules scene.disks h.rules h.disks))
    (word (ended (codes "]")) 2 refl (omega arith)))))) (omega arith)
