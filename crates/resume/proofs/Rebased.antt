-- A disk's record, and the record that it has in a run that starts some ticks later.
use Rattle.std.proofs.Common.{◌≡◌, ℕ, ◌+◌, ◌-◌, ◌<◌, ◌≤◌, max, sym, ap, ◌∙◌, subst, refl, arith}
use Rattle.std.specs.Prelude.{ℤ, pos, ◌+ℤ◌, ◌*ℤ◌}
use Rattle.std.proofs.lemmas.Int.{ints}
use Rattle.std.proofs.Math.IntN.{*ℤ_comm}
use Rattle.plane_vectors.specs.declared.Vector.{Vector}
use Rattle.plane_vectors.specs.Vectors.{vector, difference, after}
use Rattle.plane_vectors.proofs.Products.{distributes}
use Rattle.fixed_motion.specs.declared.rules.Rules.{Rules}
use Rattle.fixed_motion.specs.declared.disk.Disk.{Disk}
use Rattle.fixed_motion.specs.Motion.{FitsAt, IsInside, half_of, place_of, centre_of, velocity_of, radius_of, mark_at}
use Rattle.contact_predictor.specs.Contact.{IsContact}
use Rattle.event_stamps.specs.declared.Stamp.{Stamp}
use Rattle.event_rules.specs.Events.{IsWallTick, IsContactTick, IsPast, IsWallEvent, IsPairEvent, wall_stamp, pair_stamp}
use Rattle.event_rules.specs.Run.{spot_of}
use Rattle.resume.specs.Shift.{later_stamp, later_disk}
use Rattle.resume.specs.Parts.{ending_at, started}

-- b is the record, in a run that starts this many ticks later, of the disk whose record is a
pub record IsRebased (at : ℕ) (a b : Disk) : Type 0 where
  pub size : a.size ≡ b.size
  pub vx : a.vx ≡ b.vx
  pub vy : a.vy ≡ b.vy
  pub begun : (t : ℕ) → b.base ≤ t → a.base ≤ t + at
  pub begins : (t : ℕ) → a.base ≤ t + at → b.base ≤ t
  pub place : (t : ℕ) → place_of a (t + at) ≡ place_of b t
  pub mark : (t : ℕ) → mark_at a (t + at) ≡ mark_at b t

pub same_velocity : (at : ℕ) (a b : Disk) → IsRebased at a b → velocity_of a ≡ velocity_of b
same_velocity at a b h = λ i. vector (h.vx i) (h.vy i)

later_mark : (a : Disk) (at t : ℕ) → mark_at (later_disk at a) (t + at) ≡ mark_at a t
later_mark a at t = grind arith

-- a record that an event made
pub rebased_later : (at : ℕ) (a : Disk) → IsRebased at (later_disk at a) a
rebased_later at a = record {
  size = refl;
  vx = refl;
  vy = refl;
  begun = λ t le. omega arith;
  begins = λ t le. omega arith;
  place = λ t. let e : (t + at) - (a.base + at) ≡ t - a.base = omega arith in
      ap (after (centre_of a) (velocity_of a)) e;
  mark = λ t. later_mark a at t;
}

-- a disk whose course has begun at the tick, and whose last event has left nothing there
pub record HasStarted (at : ℕ) (a : Disk) : Type 0 where
  pub begun : a.base ≤ at
  pub mark : mark_at a at ≡ 0

after_both : (x v : ℤ) (m n : ℕ) → x +ℤ (v *ℤ pos (m + n)) ≡ (x +ℤ (v *ℤ pos m)) +ℤ (v *ℤ pos n)
after_both x v m n =
    let split : pos (m + n) ≡ pos m +ℤ pos n = omega (arith, ints) in
    let product : v *ℤ (pos m +ℤ pos n) ≡ (v *ℤ pos m) +ℤ (v *ℤ pos n) =
    *ℤ_comm v (pos m +ℤ pos n) ∙ distributes (pos m) (pos n) v
    ∙ (λ i. *ℤ_comm (pos m) v i +ℤ *ℤ_comm (pos n) v i) in
    ap (λ (z : ℤ). x +ℤ (v *ℤ z)) split ∙ ap (λ (z : ℤ). x +ℤ z) product
    ∙ gathered x (v *ℤ pos m) (v *ℤ pos n)
  where
    gathered : (x y z : ℤ) → x +ℤ (y +ℤ z) ≡ (x +ℤ y) +ℤ z
    gathered x y z = omega (arith, ints)

started_place : (at : ℕ) (a : Disk) (t : ℕ) → a.base ≤ at →
    place_of a (t + at) ≡ after (place_of a at) (velocity_of a) (t - 0)
started_place at a t le =
    let e : (t + at) - a.base ≡ (at - a.base) + (t - 0) = omega arith in
    ap (after (centre_of a) (velocity_of a)) e
    ∙ (λ i. vector (after_both a.x a.vx (at - a.base) (t - 0) i)
    (after_both a.y a.vy (at - a.base) (t - 0) i))

started_mark : (at : ℕ) (a : Disk) (t : ℕ) → a.base ≤ at → mark_at a at ≡ 0 → mark_at a (t + at) ≡ 0
started_mark at a t le mark = grind arith

none_marked : (a : Disk) (t : ℕ) → a.mark ≡ 0 → mark_at a t ≡ 0
none_marked a t e = grind arith

-- the record of a disk that starts at the place of another one
pub rebased_start : (at : ℕ) (d a : Disk) → d.size ≡ a.size → HasStarted at a →
    IsRebased at a (started (d, spot_of at a))
rebased_start at d a size has =
    let begun = has.begun in
    let b = started (d, spot_of at a) in record {
      size = sym size;
      vx = refl;
      vy = refl;
      begun = λ t le. omega arith;
      begins = λ t le. omega arith;
      place = λ t. started_place at a t begun;
      mark = λ t. started_mark at a t begun has.mark ∙ sym (none_marked b t refl);
    }

-- ---- ticks
-- other last ticks, and the same size and place
fits_ending : (rules : Rules) (e : ℕ) (r : ℤ) (p : Vector) → FitsAt rules r p → FitsAt (ending_at e rules) r p
fits_ending rules e r p h =
    record { left = h.left; right = h.right; bottom = h.bottom; top = h.top }

pub inside_same : (rules : Rules) (e : ℕ) (a b : Disk) (p q : Vector) → a.size ≡ b.size → p ≡ q →
    IsInside rules a p → IsInside (ending_at e rules) b q
inside_same rules e a b p q size place h =
    fits_ending rules e (radius_of b) q
    (subst (λ (n : ℤ). FitsAt rules (half_of n) q) size
    (subst (λ (v : Vector). FitsAt rules (radius_of a) v) place h))

past_same : (rules : Rules) (a b : Disk) (side : ℕ) (p q : Vector) → a.size ≡ b.size → p ≡ q →
    IsPast rules a side p → IsPast rules b side q
past_same rules a b side p q size place h =
    subst (λ (n : ℤ). IsPast rules (record a { size = n }) side q) size
    (subst (λ (v : Vector). IsPast rules a side v) place h)

pub wall_tick_same : (rules : Rules) (e : ℕ) (a b : Disk) (side m n : ℕ) → a.size ≡ b.size →
    b.base ≤ n → place_of a m ≡ place_of b n → place_of a (m + 1) ≡ place_of b (n + 1) →
    IsWallTick rules a side m → IsWallTick (ending_at e rules) b side n
wall_tick_same rules e a b side m n size le here next h = record {
  base = le;
  inside = inside_same rules e a b (place_of a m) (place_of b n) size here h.inside;
  past = past_same rules a b side (place_of a (m + 1)) (place_of b (n + 1)) size next h.past;
}

-- what decides with another disk whether the two meet
abbrev Course : Type 0
Course = ℤ × Vector × Vector

abbrev AreMeeting : Course → Course → Type 0
AreMeeting c d = IsContact (difference c.2 d.2) (difference c.1 d.1) (half_of c.0 +ℤ half_of d.0)

pub contact_tick_same : (rules : Rules) (e : ℕ) (a b c d : Disk) (m n : ℕ) → a.size ≡ c.size →
    b.size ≡ d.size → velocity_of a ≡ velocity_of c → velocity_of b ≡ velocity_of d →
    c.base ≤ n → d.base ≤ n → place_of a m ≡ place_of c n → place_of b m ≡ place_of d n →
    IsContactTick rules a b m → IsContactTick (ending_at e rules) c d n
contact_tick_same rules e a b c d m n sa sb va vb lc ld pa pb h = record {
  first_base = lc;
  second_base = ld;
  first_inside = inside_same rules e a c (place_of a m) (place_of c n) sa pa h.first_inside;
  second_inside = inside_same rules e b d (place_of b m) (place_of d n) sb pb h.second_inside;
  contact =
      let first : ◌≡◌ {A = Course} (a.size, velocity_of a, place_of a m) (c.size, velocity_of c, place_of c n) =
      λ i. (sa i, va i, pa i) in
      let second : ◌≡◌ {A = Course} (b.size, velocity_of b, place_of b m) (d.size, velocity_of d, place_of d n) =
      λ i. (sb i, vb i, pb i) in
      subst (AreMeeting (c.size, velocity_of c, place_of c n)) second
      (subst (λ (x : Course). AreMeeting x (b.size, velocity_of b, place_of b m)) first h.contact);
}

-- ---- events
-- the end of the rest
abbrev pub rest_rules : Rules → ℕ → Rules
rest_rules rules at = ending_at (rules.end - at) rules

next_place : (at : ℕ) (a b : Disk) (t : ℕ) → IsRebased at a b → place_of a ((t + at) + 1) ≡ place_of b (t + 1)
next_place at a b t h =
    let e : (t + at) + 1 ≡ (t + 1) + at = omega arith in ap (place_of a) e ∙ h.place (t + 1)

pub wall_later : (rules : Rules) (at : ℕ) (i : ℕ) (a b : Disk) (side : ℕ) (s : Stamp) → IsRebased at a b →
    IsWallEvent (rest_rules rules at) i b side s → IsWallEvent rules i a side (later_stamp at s)
wall_later rules at i a b side s h event =
    let lt : s.tick < rules.end - at = event.1 in
    let mark : mark_at b s.tick ≡ mark_at a (s.tick + at) = sym (h.mark s.tick) in (
      wall_tick_same (rest_rules rules at) rules.end b a side s.tick (s.tick + at) (sym h.size)
          (h.begun s.tick event.0.base) (sym (h.place s.tick)) (sym (next_place at a b s.tick h)) event.0,
      omega arith,
      ap (later_stamp at) event.2
          ∙ ap (λ (m : ℕ). record (wall_stamp i a side (s.tick + at)) { round = m }) mark,
    )

pub wall_earlier : (rules : Rules) (at : ℕ) (i : ℕ) (a b : Disk) (side : ℕ) (s : Stamp) → IsRebased at a b →
    IsWallEvent rules i a side (later_stamp at s) → IsWallEvent (rest_rules rules at) i b side s
wall_earlier rules at i a b side s h event =
    let base = h.begins s.tick event.0.base in
    let lt : s.tick + at < rules.end = event.1 in
    let round : s.round ≡ mark_at b s.tick =
    ap (λ (v : Stamp). v.round) event.2 ∙ h.mark s.tick in (
      wall_tick_same rules (rules.end - at) a b side (s.tick + at) s.tick h.size base
          (h.place s.tick) (next_place at a b s.tick h) event.0,
      omega arith,
      λ j. record {
        tick = s.tick;
        round = round j;
        kind = (event.2 j).kind;
        first = (event.2 j).first;
        second = (event.2 j).second;
      },
    )

pub pair_later : (rules : Rules) (at : ℕ) (i j : ℕ) (a b c d : Disk) (s : Stamp) → IsRebased at a c →
    IsRebased at b d → IsPairEvent (rest_rules rules at) i c j d s → IsPairEvent rules i a j b (later_stamp at s)
pair_later rules at i j a b c d s h k event =
    let lt : s.tick < rules.end - at = event.1 in (
      contact_tick_same (rest_rules rules at) rules.end c d a b s.tick (s.tick + at) (sym h.size) (sym k.size)
          (sym (same_velocity at a c h)) (sym (same_velocity at b d k)) (h.begun s.tick event.0.first_base)
          (k.begun s.tick event.0.second_base) (sym (h.place s.tick)) (sym (k.place s.tick)) event.0,
      omega arith,
      ap (later_stamp at) event.2
          ∙ (λ x. record (pair_stamp i a j b (s.tick + at)) {
            round = max (sym (h.mark s.tick) x) (sym (k.mark s.tick) x);
          }),
    )

pub pair_earlier : (rules : Rules) (at : ℕ) (i j : ℕ) (a b c d : Disk) (s : Stamp) → IsRebased at a c →
    IsRebased at b d → IsPairEvent rules i a j b (later_stamp at s) → IsPairEvent (rest_rules rules at) i c j d s
pair_earlier rules at i j a b c d s h k event =
    let first = h.begins s.tick event.0.first_base in
    let second = k.begins s.tick event.0.second_base in
    let lt : s.tick + at < rules.end = event.1 in
    let round : s.round ≡ max (mark_at c s.tick) (mark_at d s.tick) =
    ap (λ (v : Stamp). v.round) event.2 ∙ (λ x. max (h.mark s.tick x) (k.mark s.tick x)) in (
      contact_tick_same rules (rules.end - at) a b c d (s.tick + at) s.tick h.size k.size
          (same_velocity at a c h) (same_velocity at b d k) first second
          (h.place s.tick) (k.place s.tick) event.0,
      omega arith,
      λ x. record {
        tick = s.tick;
        round = round x;
        kind = (event.2 x).kind;
        first = (event.2 x).first;
        second = (event.2 x).second;
      },
    )
