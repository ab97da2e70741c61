-- What the rows of a report say before its end.
use Rattle.std.proofs.Common.{◌≡◌, ℕ, zero, suc, ◌+◌, ◌-◌, ◌*◌, ◌/◌, ◌^◌, ◌<◌, ◌≤◌, min, ℤ, pos, negsuc, nat_abs, Bool, true, false, List, [], ◌∷◌, ◌++◌, map, length, append-nil, Option, Some, None, Ok, arith, sym, ap, ◌∙◌, refl}
use Rattle.std.specs.Prelude.{codes, decimal, flat_map, ⊤, if◌then◌else◌}
use Rattle.std.specs.Fmt.{signed_decimal}
use Rattle.std.specs.List.{filter_map, cons_option}
use Rattle.std.specs.Int.Signed.{mag}
use Rattle.std.proofs.lemmas.Grind.{flat_map-append}
use Rattle.std.proofs.lemmas.List.Elements.{filter_map-append}
use Rattle.plane_vectors.specs.declared.Vector.{Vector}
use Rattle.plane_vectors.specs.Vectors.{vector, IsWithin}
use Rattle.fixed_motion.specs.declared.rules.Rules.{Rules}
use Rattle.fixed_motion.specs.declared.disk.Disk.{Disk}
use Rattle.fixed_motion.specs.Rules.{IsChecked}
use Rattle.fixed_motion.specs.Motion.{IsValidDisk, velocity_of}
use Rattle.fixed_motion.specs.Scene.{SceneData}
use Rattle.text_lines.specs.Lines.{line_of}
use Rattle.event_stamps.specs.declared.Stamp.{Stamp}
use Rattle.event_stamps.specs.declared.Kind.{Kind}
use Rattle.event_stamps.specs.declared.Kind.TheVariants.{Cross, Wall, Pair}
use Rattle.event_rules.specs.declared.change.Change.{Change}
use Rattle.event_rules.specs.declared.outcome.Spot.{Spot}
use Rattle.event_rules.specs.declared.outcome.Outcome.{Outcome}
use Rattle.event_rules.specs.Run.{Runs, IsCandidate, ComesTo, IsValidState, effect, spot_of, spots_of}
use Rattle.event_rules.specs.Outcomes.{IsRecordOf}
use Rattle.event_rules.specs.Told.{HasDisksOf}
use Rattle.event_rules.proofs.Ran.{event_valid}
use Rattle.event_rules.proofs.Fits.{change_fits}
use Rattle.event_rules.proofs.Ranges.{ticks}
use Rattle.collision_report.specs.Lines.{wall_line, pair_line, event_line, number_line, momentum_line, energy_line, disk_line, state_line}
use Rattle.collision_report.specs.Blocks.{disk_lines, block, blocks, numbers_from, times}
use Rattle.collision_report.specs.Report.{latest, changes_text, counts_text}
use Rattle.collision_report.proofs.Widths.{IsOfRun, IsShown}
use Rattle.report_reader.specs.Reader.{Said, said, said_of, event_in, limit_in, is_done, spot, spot_in, outcome_said, outcome_in}
use Rattle.report_reader.proofs.Rows.{IsRow, AreRows, both_rows, is_plain, word_plain, decimal_plain, decimal_back, signed_plain, signed_back, number_no_word}
use Rattle.collision_report.proofs.ShortRuns.{slow, shown, AreValid, multiple_most, of_run}

-- ---- rows that a report has before its end
-- none of the rows says a limit or the end
abbrev pub GoOn : List (List (List ℕ)) → Type 0
GoOn [] = ⊤
GoOn (row ∷ rows) = (limit_in row ≡ None) × (is_done row ≡ false) × GoOn rows

pub go_on : (rows more : List (List (List ℕ))) → GoOn rows → outcome_in (rows ++ more) ≡ outcome_in more
go_on [] more h = refl
go_on (row ∷ rows) more h =
    (λ i. outcome_said (h.0 i) (h.1 i) (filter_map spot_in (rows ++ more)) (outcome_in (rows ++ more))) ∙ go_on rows more h.2

both_go_on : (a b : List (List (List ℕ))) → GoOn a → GoOn b → GoOn (a ++ b)
both_go_on [] b h k = k
both_go_on (row ∷ rows) b h k = (h.0, h.1, both_go_on rows b h.2 k)

-- the rows of a text, and the events and the places that they say
pub record IsBody (text : List ℕ) (events : List Said) (spots : List Spot) : Type 0 where
  pub rows : List (List (List ℕ))
  pub whole : text ≡ flat_map line_of rows
  pub plain : AreRows rows
  pub told : filter_map event_in rows ≡ events
  pub places : filter_map spot_in rows ≡ spots
  pub go_on : GoOn rows

pub nothing : IsBody [] [] []
nothing = record { rows = []; whole = refl; plain = tt; told = refl; places = refl; go_on = tt }

pub both : (a b : List ℕ) (es fs : List Said) (ss ts : List Spot) → IsBody a es ss → IsBody b fs ts →
    IsBody (a ++ b) (es ++ fs) (ss ++ ts)
both a b es fs ss ts h k = record {
  rows = h.rows ++ k.rows;
  whole = (λ i. h.whole i ++ k.whole i) ∙ sym (flat_map-append line_of h.rows k.rows);
  plain = both_rows h.rows k.rows h.plain k.plain;
  told = filter_map-append event_in h.rows k.rows ∙ (λ i. h.told i ++ k.told i);
  places = filter_map-append spot_in h.rows k.rows ∙ (λ i. h.places i ++ k.places i);
  go_on = both_go_on h.rows k.rows h.go_on k.go_on;
}

pub one_row : (row : List (List ℕ)) (event : Option Said) (place : Option Spot) → IsRow row → event_in row ≡ event →
    spot_in row ≡ place → limit_in row ≡ None → is_done row ≡ false →
    IsBody (line_of row) (cons_option event []) (cons_option place [])
one_row row event place plain says shows limit done = record {
  rows = row ∷ [];
  whole = sym (append-nil (line_of row));
  plain = (plain, tt);
  told = ap (λ (o : Option Said). cons_option o []) says;
  places = ap (λ (o : Option Spot). cons_option o []) shows;
  go_on = (limit, done, tt);
}

pub none_of : {A : Type 0} (t : Bool) (x : A) → t ≡ false → (if t then Some x else None) ≡ None
none_of t x e = ap (λ (b : Bool). if b then Some x else None) e

-- ---- numbers in lines
mag_le : (z : ℤ) → mag z ≤ nat_abs z
mag_le (pos n) = omega arith
mag_le (negsuc n) = omega arith

-- a velocity or a place
pub small : (z : ℤ) (n : ℕ) → nat_abs z ≤ n → n ≤ 2 ^ 61 → mag z < 2 ^ 63
small z n h k = let m = mag_le z in omega arith

-- ---- events
pub wall_body : (s : Stamp) (a : Disk) → IsOfRun s → IsWithin (2 ^ 20) (velocity_of a) → s.kind ≡ Wall →
    IsBody (wall_line s a) (said s (velocity_of a) None ∷ []) []
wall_body s a h v kind =
    let tick : s.tick < 10 ^ 64 = let t = h.tick in omega arith in
    let round : s.round < 10 ^ 64 = let r = h.range.0 in omega arith in
    let first : s.first < 10 ^ 64 = let r = h.range.1 in omega arith in
    let second : s.second < 10 ^ 64 = let r = h.range.2 in omega arith in
    let vx = small a.vx (2 ^ 20) v.x (omega arith) in
    let vy = small a.vy (2 ^ 20) v.y (omega arith) in
    one_row (decimal s.tick ∷ decimal s.round ∷ codes "wall" ∷ decimal s.first ∷ decimal s.second
    ∷ signed_decimal a.vx ∷ signed_decimal a.vy ∷ []) (Some (said s (velocity_of a) None)) None (
      decimal_plain s.tick tick,
      (
        decimal_plain s.round round,
        (
          word_plain (codes "wall") refl,
          (
            decimal_plain s.first first,
            (
              decimal_plain s.second second,
              (signed_plain a.vx vx, (signed_plain a.vy vy, tt)),
            ),
          ),
        ),
      ),
    )
    (λ i. Some (said (record {
      tick = decimal_back s.tick tick i;
      round = decimal_back s.round round i;
      kind = sym kind i;
      first = decimal_back s.first first i;
      second = decimal_back s.second second i;
    }) (vector (signed_back a.vx vx i) (signed_back a.vy vy i)) None))
    refl
    (none_of _ _ (number_no_word s.tick 108 (105 ∷ 109 ∷ 105 ∷ 116 ∷ []) tick (omega arith)))
    refl

pub pair_body : (s : Stamp) (a b : Disk) → IsOfRun s → IsWithin (2 ^ 20) (velocity_of a) → IsWithin (2 ^ 20) (velocity_of b) →
    s.kind ≡ Pair → IsBody (pair_line s a b) (said s (velocity_of a) (Some (velocity_of b)) ∷ []) []
pair_body s a b h v w kind =
    let tick : s.tick < 10 ^ 64 = let t = h.tick in omega arith in
    let round : s.round < 10 ^ 64 = let r = h.range.0 in omega arith in
    let first : s.first < 10 ^ 64 = let r = h.range.1 in omega arith in
    let second : s.second < 10 ^ 64 = let r = h.range.2 in omega arith in
    let vx = small a.vx (2 ^ 20) v.x (omega arith) in
    let vy = small a.vy (2 ^ 20) v.y (omega arith) in
    let wx = small b.vx (2 ^ 20) w.x (omega arith) in
    let wy = small b.vy (2 ^ 20) w.y (omega arith) in
    one_row (decimal s.tick ∷ decimal s.round ∷ codes "pair" ∷ decimal s.first ∷ decimal s.second
    ∷ signed_decimal a.vx ∷ signed_decimal a.vy ∷ signed_decimal b.vx ∷ signed_decimal b.vy ∷ [])
    (Some (said s (velocity_of a) (Some (velocity_of b)))) None (
      decimal_plain s.tick tick,
      (
        decimal_plain s.round round,
        (
          word_plain (codes "pair") refl,
          (
            decimal_plain s.first first,
            (
              decimal_plain s.second second,
              (signed_plain a.vx vx, (signed_plain a.vy vy, (signed_plain b.vx wx, (signed_plain b.vy wy, tt)))),
            ),
          ),
        ),
      ),
    )
    (λ i. Some (said (record {
      tick = decimal_back s.tick tick i;
      round = decimal_back s.round round i;
      kind = sym kind i;
      first = decimal_back s.first first i;
      second = decimal_back s.second second i;
    }) (vector (signed_back a.vx vx i) (signed_back a.vy vy i))
    (Some (vector (signed_back b.vx wx i) (signed_back b.vy wy i)))))
    refl refl refl

alone_at_wall : (kind : Kind) → HasDisksOf kind None → kind ≡ Wall
alone_at_wall Cross h = absurd h
alone_at_wall Wall h = refl
alone_at_wall Pair h = absurd h

two_of_pair : (kind : Kind) (b : Disk) → HasDisksOf kind (Some b) → kind ≡ Pair
two_of_pair Cross b h = absurd h
two_of_pair Wall b h = absurd h
two_of_pair Pair b h = refl

parts_body : (rules : Rules) (count : ℕ) (s : Stamp) (a : Disk) (second : Option Disk) → IsChecked rules → IsOfRun s →
    IsValidDisk rules a → IsRecordOf rules count s.tick s.second second → HasDisksOf s.kind second →
    IsBody (event_line (record { stamp = s; first = a; second = second }))
    (said_of (record { stamp = s; first = a; second = second }) ∷ []) []
parts_body rules count s a None checked h first other kind =
    wall_body s a h (slow rules a checked first) (alone_at_wall s.kind kind)
parts_body rules count s a (Some b) checked h first other kind =
    pair_body s a b h (slow rules a checked first) (slow rules b checked other.valid) (two_of_pair s.kind b kind)

event_body : (rules : Rules) (disks : List Disk) (c : Change) → IsChecked rules → IsValidState rules disks →
    IsCandidate rules disks c.stamp → ComesTo rules disks c.stamp (Ok c) → IsBody (event_line c) (said_of c ∷ []) []
event_body rules disks c checked valid candidate comes =
    let fits = change_fits rules disks c valid candidate comes in
    parts_body rules (length disks) c.stamp c.first c.second checked (of_run rules disks c.stamp checked valid candidate)
    fits.first.valid fits.second fits.tellable

-- ---- disks
disk_body : (i : ℕ) (place : Spot) → i < 65536 → IsShown place → IsBody (disk_line i place) [] (place ∷ [])
disk_body i place lt h =
    let number : i < 10 ^ 64 = omega arith in
    let x = small place.x (2 ^ 61) h.x (omega arith) in
    let y = small place.y (2 ^ 61) h.y (omega arith) in
    let vx = small place.vx (2 ^ 20) h.vx (omega arith) in
    let vy = small place.vy (2 ^ 20) h.vy (omega arith) in
    one_row (codes "disk" ∷ decimal i ∷ signed_decimal place.x ∷ signed_decimal place.y
    ∷ signed_decimal place.vx ∷ signed_decimal place.vy ∷ []) None (Some place) (
      word_plain (codes "disk") refl,
      (
        decimal_plain i number,
        (
          signed_plain place.x x,
          (
            signed_plain place.y y,
            (signed_plain place.vx vx, (signed_plain place.vy vy, tt)),
          ),
        ),
      ),
    )
    refl
    (λ i. Some (spot (signed_back place.x x i) (signed_back place.y y i) (signed_back place.vx vx i) (signed_back place.vy vy i)))
    refl refl

pub disks_body : (rules : Rules) (tick i : ℕ) (disks : List Disk) → IsChecked rules → tick ≤ 1099511627776 →
    i + length disks ≤ 65536 → AreValid rules disks → IsBody (disk_lines i (spots_of tick disks)) [] (spots_of tick disks)
disks_body rules tick i [] checked le few valid = nothing
disks_body rules tick i (a ∷ others) checked le few valid =
    both (disk_line i (spot_of tick a)) (disk_lines (i + 1) (spots_of tick others)) [] [] (spot_of tick a ∷ []) (spots_of tick others)
    (disk_body i (spot_of tick a) (omega arith) (shown rules tick a checked (valid 0 a refl) le))
    (disks_body rules tick (i + 1) others checked le (omega arith) (λ k b e. valid (suc k) b e))

-- ---- other lines
pub named_body : (name : List ℕ) (n : ℕ) → is_plain name ≡ true → is_done (name ∷ decimal n ∷ []) ≡ false → n < 10 ^ 64 →
    IsBody (number_line name n) [] []
named_body name n plain done h =
    one_row (name ∷ decimal n ∷ []) None None (word_plain name plain, (decimal_plain n h, tt)) refl refl refl done

pub counts_body : (walls pairs : ℕ) → walls < 2 ^ 90 → pairs < 2 ^ 90 → IsBody (counts_text walls pairs) [] []
counts_body walls pairs h k =
    both (number_line (codes "walls") walls) (number_line (codes "pairs") pairs) [] [] [] []
    (named_body (codes "walls") walls refl refl (omega arith)) (named_body (codes "pairs") pairs refl refl (omega arith))

pub momentum_body : (v : Vector) → IsWithin (2 ^ 61) v → IsBody (momentum_line v) [] []
momentum_body v h =
    one_row (codes "momentum" ∷ signed_decimal v.x ∷ signed_decimal v.y ∷ []) None None (
      word_plain (codes "momentum") refl,
      (
        signed_plain v.x (small v.x (2 ^ 61) h.x (omega arith)),
        (signed_plain v.y (small v.y (2 ^ 61) h.y (omega arith)), tt),
      ),
    )
    refl refl refl refl

pub energy_body : (before after : ℕ) → before < 2 ^ 64 → after < 2 ^ 64 → IsBody (energy_line before after) [] []
energy_body before after h k =
    one_row (codes "energy" ∷ decimal before ∷ decimal after ∷ []) None None
    (word_plain (codes "energy") refl, (decimal_plain before (omega arith), (decimal_plain after (omega arith), tt)))
    refl refl refl refl

-- ---- blocks
-- the rows of a text say no events, and some places
abbrev pub IsQuiet : List ℕ → Type 0
IsQuiet text = (spots : List Spot) × IsBody text [] spots

both_quiet : (a b : List ℕ) → IsQuiet a → IsQuiet b → IsQuiet (a ++ b)
both_quiet a b h k = (h.0 ++ k.0, both a b [] [] h.0 k.0 h.1 k.1)

block_quiet : (rules : Rules) (disks : List Disk) (tick : ℕ) → IsChecked rules → IsValidState rules disks →
    tick ≤ 1099511627776 → IsQuiet (block disks tick)
block_quiet rules disks tick checked valid le = (
  spots_of tick disks,
  both (state_line tick) (disk_lines 0 (spots_of tick disks)) [] [] [] (spots_of tick disks)
      (named_body (codes "state") tick refl refl (omega arith))
      (disks_body rules tick 0 disks checked le (let count = valid.count in omega arith) valid.valid),
)

numbers_quiet : (f : ℕ → List ℕ) (every n count : ℕ) → ((k : ℕ) → n ≤ k → k < n + count → IsQuiet (f (k * every))) →
    IsQuiet (flat_map f (times every (numbers_from n count)))
numbers_quiet f every n zero h = ([], nothing)
numbers_quiet f every n (suc count) h =
    both_quiet (f (n * every)) (flat_map f (times every (numbers_from (n + 1) count))) (h n (omega arith) (omega arith))
    (numbers_quiet f every (n + 1) count (λ k le lt. h k (omega arith) (omega arith)))

pub blocks_quiet : (rules : Rules) (every : Option ℕ) (disks : List Disk) (from to : ℕ) → IsChecked rules →
    IsValidState rules disks → IsQuiet (blocks every rules.end disks from to)
blocks_quiet rules None disks from to checked valid = ([], nothing)
blocks_quiet rules (Some every) disks from to checked valid =
    let end = ticks rules checked in
    let last : ℕ = min to (rules.end - 1) in
    let before : last ≤ 1099511627776 = omega arith in
    numbers_quiet (block disks) every (from / every + 1) (last / every - from / every)
    (λ k le lt.
    let most = multiple_most every k last (omega arith) in
    block_quiet rules disks (k * every) checked valid (omega arith))

-- ---- changes
-- the rows of a text say these events, and some places
abbrev pub Says : List ℕ → List Said → Type 0
Says text events = (spots : List Spot) × IsBody text events spots

pub both_say : (a b : List ℕ) (es fs : List Said) → Says a es → Says b fs → Says (a ++ b) (es ++ fs)
both_say a b es fs h k = (h.0 ++ k.0, both a b es fs h.0 k.0 h.1 k.1)

pub changes_body : (scene : SceneData) (disks : List Disk) (from : ℕ) (cs : List Change) (outcome : Outcome) →
    IsChecked scene.rules → IsValidState scene.rules disks → Runs scene.rules disks cs outcome →
    Says (changes_text scene disks from cs) (map said_of cs)
changes_body scene disks from [] outcome checked valid run = ([], nothing)
changes_body scene disks from (c ∷ cs) outcome checked valid run =
    let text = changes_text scene (effect disks c) (latest from c) cs in
    let later = event_valid scene.rules disks c valid run.0.0 run.1 in
    both_say (blocks scene.every scene.rules.end disks from c.stamp.tick) (event_line c ++ text) [] (map said_of (c ∷ cs))
    (blocks_quiet scene.rules scene.every disks from c.stamp.tick checked valid)
    (both_say (event_line c) text (said_of c ∷ []) (map said_of cs)
    ([], event_body scene.rules disks c checked valid run.0.0 run.1)
    (changes_body scene (effect disks c) (latest from c) cs outcome checked later run.2))
