-- The values at the keys three at a time, and the numbers before the values of other types.
use Rattle.std.proofs.Common.{◌≡◌, ℤ, Option, Result, Ok, Err, refl}
use Rattle.toml.specs.Data.{Data, Items, Members, get_member, as_array}
use Rattle.fixed_motion.specs.Rules.{Numbers}
use Rattle.scene_reader.specs.declared.key.Key.TheVariants.{Width, Height, Diameter, SpeedLimit, RoundLimit, End, Every, Disks}
use Rattle.scene_reader.specs.declared.fault.SceneFault.{SceneFault}
use Rattle.scene_reader.specs.declared.fault.SceneFault.TheVariants.{WrongType}
use Rattle.scene_reader.specs.Steps.{◌>>=◌, needed}
use Rattle.scene_reader.specs.Keys.{Values, key_text, value_at, three_at, values_of}
use Rattle.scene_reader.specs.Numbers.{Parts, integer_at, every_at, numbers_at, types_of}

abbrev Step : Type 0 → Type 0
Step A = Result A SceneFault

abbrev pub with_disks : Option Data → Data × Data × Data → Data × Data × Data → Step Data → Step Values
with_disks every sizes limits disks = do
  d ← disks
  Ok (record {
    width = sizes.0;
    height = sizes.1;
    diameter = sizes.2;
    speed_limit = limits.0;
    round_limit = limits.1;
    end = limits.2;
    every = every;
    disks = d;
  })

abbrev pub with_limits : Option Data → Step Data → Data × Data × Data → Step (Data × Data × Data) → Step Values
with_limits every disks sizes limits = do
  l ← limits
  with_disks every sizes l disks

abbrev pub with_sizes : Option Data → Step Data → Step (Data × Data × Data) → Step (Data × Data × Data) → Step Values
with_sizes every disks limits sizes = do
  s ← sizes
  with_limits every disks s limits

abbrev three : Step Data → Step Data → Step Data → Step (Data × Data × Data)
three first second third = do
  a ← first
  b ← second
  c ← third
  Ok (a, b, c)

abbrev one_by_one : Option Data → Step Data → Step Data → Step Data → Step Data → Step Data → Step Data → Step Data → Step Values
one_by_one every width height diameter speed_limit round_limit end disks = do
  w ← width
  h ← height
  d ← diameter
  s ← speed_limit
  r ← round_limit
  e ← end
  ds ← disks
  Ok (record {
    width = w;
    height = h;
    diameter = d;
    speed_limit = s;
    round_limit = r;
    end = e;
    every = every;
    disks = ds;
  })

joined : (every : Option Data) (w h d s r e ds : Step Data) → one_by_one every w h d s r e ds ≡ with_sizes every ds (three s r e) (three w h d)
joined every (Err f) h d s r e ds = refl
joined every (Ok w) (Err f) d s r e ds = refl
joined every (Ok w) (Ok h) (Err f) s r e ds = refl
joined every (Ok w) (Ok h) (Ok d) (Err f) r e ds = refl
joined every (Ok w) (Ok h) (Ok d) (Ok s) (Err f) e ds = refl
joined every (Ok w) (Ok h) (Ok d) (Ok s) (Ok r) (Err f) ds = refl
joined every (Ok w) (Ok h) (Ok d) (Ok s) (Ok r) (Ok e) ds = refl

pub by_threes : (ms : Members) → values_of ms ≡ with_sizes (get_member (key_text Every) ms) (value_at ms Disks) (three_at ms SpeedLimit RoundLimit End) (three_at ms Width Height Diameter)
by_threes ms =
    joined (get_member (key_text Every) ms) (value_at ms Width) (value_at ms Height) (value_at ms Diameter) (value_at ms SpeedLimit) (value_at ms RoundLimit) (value_at ms End) (value_at ms Disks)

-- what follows the numbers
abbrev pub with_numbers : Step (Option ℤ) → Step Items → Step Numbers → Step Parts
with_numbers every rows numbers = do
  n ← numbers
  e ← every
  r ← rows
  Ok (record { numbers = n; every = e; rows = r })

abbrev six : Step ℤ → Step ℤ → Step ℤ → Step ℤ → Step ℤ → Step ℤ → Step Numbers
six width height diameter speed_limit round_limit end = do
  w ← width
  h ← height
  d ← diameter
  s ← speed_limit
  r ← round_limit
  e ← end
  Ok (record { width = w; height = h; diameter = d; speed_limit = s; round_limit = r; end = e })

abbrev typed : Step (Option ℤ) → Step Items → Step ℤ → Step ℤ → Step ℤ → Step ℤ → Step ℤ → Step ℤ → Step Parts
typed every rows width height diameter speed_limit round_limit end = do
  w ← width
  h ← height
  d ← diameter
  s ← speed_limit
  r ← round_limit
  l ← end
  e ← every
  rs ← rows
  Ok (record {
    numbers = record { width = w; height = h; diameter = d; speed_limit = s; round_limit = r; end = l };
    every = e;
    rows = rs;
  })

first_six : (every : Step (Option ℤ)) (rows : Step Items) (w h d s r e : Step ℤ) → typed every rows w h d s r e ≡ with_numbers every rows (six w h d s r e)
first_six every rows (Err f) h d s r e = refl
first_six every rows (Ok w) (Err f) d s r e = refl
first_six every rows (Ok w) (Ok h) (Err f) s r e = refl
first_six every rows (Ok w) (Ok h) (Ok d) (Err f) r e = refl
first_six every rows (Ok w) (Ok h) (Ok d) (Ok s) (Err f) e = refl
first_six every rows (Ok w) (Ok h) (Ok d) (Ok s) (Ok r) (Err f) = refl
first_six every rows (Ok w) (Ok h) (Ok d) (Ok s) (Ok r) (Ok e) = refl

pub by_numbers : (v : Values) → types_of v ≡ with_numbers (every_at v.every) (needed (WrongType Disks) (as_array v.disks)) (numbers_at v)
by_numbers v =
    first_six (every_at v.every) (needed (WrongType Disks) (as_array v.disks)) (integer_at Width v.width) (integer_at Height v.height) (integer_at Diameter v.diameter)
    (integer_at SpeedLimit v.speed_limit) (integer_at RoundLimit v.round_limit) (integer_at End v.end)
