-- How long a coordinate is within its bounds.
use Rattle.std.proofs.Common.{◌≡◌, true, false, ◌↔◌, ◌⊎◌, inl, inr, ℕ, suc, ◌+◌, ◌*◌, ◌/◌, ◌^◌, ◌<◌, ◌≤◌, ◌∙◌, ap, arith, sym, subst}
use Rattle.std.specs.Prelude.{Some, None, ℤ, pos, negsuc, nat_abs, ◌+ℤ◌, ◌-ℤ◌, ◌≤ℤ◌, ◌<ℤ◌, FitsSigned}
use Rattle.std.specs.Int.{int_max, int_min}
use Rattle.std.proofs.lemmas.Int.{ints, by_lt_z}
use Rattle.plane_vectors.proofs.Sizes.{sent, sent_same, difference_exact}
use lib.Dec.{T}
use lib.Signed.{lt_z, non_neg, yes_non_neg}
use mir.Val.{Fits, of_z}
use mir.Syntax.{w32, w64}
use Rattle.std.proofs.lemmas.Bool.{cases_lt}
use Rattle.std.proofs.Math.Nat.{mul-le-mul_left, le-div_iff_mul-le}
use Rattle.contact_predictor.specs.Contact.{coordinate_after, IsBetween}
use Rattle.fixed_motion.specs.declared.rules.Rules.{Rules}
use Rattle.fixed_motion.specs.declared.disk.Disk.{Disk}
use Rattle.fixed_motion.specs.Motion.{IsSize, radius_of}
use Rattle.fixed_motion.proofs.Sizes.{radius_least, two_radii}
use Rattle.cell_grid.specs.declared.bounds.Bounds.{Bounds}
use Rattle.cell_grid.specs.declared.bounds.Course.{Course}
use Rattle.cell_grid.specs.Grid.{along}
use Rattle.cell_grid.specs.Leaving.{EndsAt, IsWithinBounds, IsWithinAfter, AreSmall, AreOfColumn}

abbrev pub bounds : ℤ → ℤ → Bounds
bounds least greatest = record { least = least; greatest = greatest }

-- ---- courses
rises : (x v : ℤ) (m n : ℕ) → pos 0 ≤ℤ v → m ≤ n → coordinate_after x v m ≤ℤ coordinate_after x v n
rises x (pos k) m n up le = omega (arith, ints, mul-le-mul_left k le)
rises x (negsuc k) m n up le = absurd (omega (arith, ints))

falls : (x v : ℤ) (m n : ℕ) → v ≤ℤ pos 0 → m ≤ n → coordinate_after x v n ≤ℤ coordinate_after x v m
falls x (pos k) m n down le = let still : k ≡ 0 = omega (arith, ints) in rw still (omega (arith, ints))
falls x (negsuc k) m n down le = omega (arith, ints, mul-le-mul_left (suc k) le)

-- one that rises is within until it is past the greatest bound
ends_rising : (least greatest x v : ℤ) (s : ℕ) → pos 0 <ℤ v →
    ((n : ℕ) → (coordinate_after x v n ≤ℤ greatest) ↔ (n ≤ s)) →
    EndsAt (λ n. IsBetween least greatest (coordinate_after x v n)) (Some (s + 1))
ends_rising least greatest x v s up stays = record {
  never = λ n from within. let still : n ≤ s = (stays n).0 within.1 in absurd (omega arith);
  until = λ m n le not within.
      let high = rises x v m n (omega (arith, ints)) le in
      let here = within.0 in
      let still : n ≤ s = (elim (cases_lt s n) [ inl lt ↦ absurd (not (omega arith)) | inr le ↦ le ]) in
      (omega (arith, ints), (stays n).1 still);
  always = λ none. cc;
}

-- one that falls, until it is past the least
ends_falling : (least greatest x v : ℤ) (s : ℕ) → v <ℤ pos 0 →
    ((n : ℕ) → (least ≤ℤ coordinate_after x v n) ↔ (n ≤ s)) →
    EndsAt (λ n. IsBetween least greatest (coordinate_after x v n)) (Some (s + 1))
ends_falling least greatest x v s down stays = record {
  never = λ n from within. let still : n ≤ s = (stays n).0 within.0 in absurd (omega arith);
  until = λ m n le not within.
      let low = falls x v m n (omega (arith, ints)) le in
      let here = within.1 in
      let still : n ≤ s = (elim (cases_lt s n) [ inl lt ↦ absurd (not (omega arith)) | inr le ↦ le ]) in
      ((stays n).1 still, omega (arith, ints));
  always = λ none. cc;
}

-- a rising coordinate isn't past the bound as long as it hasn't gone further than the bound is ahead
reaches_rising : (greatest x : ℤ) (k n : ℕ) → x ≤ℤ greatest → 0 < k →
    (coordinate_after x (pos k) n ≤ℤ greatest) ↔ (n ≤ nat_abs (greatest -ℤ x) / k)
reaches_rising greatest x k n ahead some =
    let q = le-div_iff_mul-le {k = k} {x = n} {y = nat_abs (greatest -ℤ x)} some in
    (λ h. q.1 (near h), λ h. let far : n * k ≤ nat_abs (greatest -ℤ x) = q.0 h in omega (arith, ints))
  where
    near : coordinate_after x (pos k) n ≤ℤ greatest → n * k ≤ nat_abs (greatest -ℤ x)
    near h = omega (arith, ints)

-- nor is a falling one
reaches_falling : (least x : ℤ) (k s n : ℕ) → s ≡ suc k → least ≤ℤ x →
    (least ≤ℤ coordinate_after x (negsuc k) n) ↔ (n ≤ nat_abs (x -ℤ least) / s)
reaches_falling least x k s n e ahead =
    let q = le-div_iff_mul-le {k = s} {x = n} {y = nat_abs (x -ℤ least)} (omega arith) in (
      λ h. q.1 (near h),
      λ h. let far : n * s ≤ nat_abs (x -ℤ least) = q.0 h in let same = ap (λ (m : ℕ). n * m) e in omega (arith, ints),
    )
  where
    near : least ≤ℤ coordinate_after x (negsuc k) n → n * s ≤ nat_abs (x -ℤ least)
    near h = omega (arith, ints, ap (λ (m : ℕ). n * m) e)

-- ---- the code's numbers
-- a course that the code treats as rising doesn't fall, and one that it doesn't treat so doesn't rise
pub up_or_not : (v : ℤ) → nat_abs v ≤ 2 ^ 20 →
    (lt_z (pos 0) (sent v) ≡ true → v <ℤ pos 0 → ⊥) × (lt_z (pos 0) (sent v) ≡ false → pos 0 <ℤ v → ⊥)
up_or_not v slow =
    rw (sent_same v (omega (arith, ints))) (λ is down. omega (arith, ints), λ isnt up. omega (arith, ints))

pub small_sent : (n : ℤ) → nat_abs n ≤ 2 ^ 30 → sent n ≡ n
small_sent n h = sent_same n (omega (arith, ints))

-- the difference of two of them as the code computes it
pub difference_sent : (m n : ℤ) → nat_abs m ≤ 2 ^ 30 → nat_abs n ≤ 2 ^ 30 → sent (sent m -ℤ sent n) ≡ m -ℤ n
difference_sent m n hm hn =
    (difference_exact m n (omega arith) (omega arith)).value

pub difference_fits : (m n : ℤ) → nat_abs m ≤ 2 ^ 30 → nat_abs n ≤ 2 ^ 30 → FitsSigned w64 (sent m -ℤ sent n)
difference_fits m n hm hn =
    (difference_exact m n (omega arith) (omega arith)).fits

-- a small number that isn't below 0, cast to one without a sign
pub cast_fits : (n : ℤ) → pos 0 ≤ℤ n → nat_abs n ≤ 2 ^ 31 → T (non_neg (sent n)) × Fits w32 (nat_abs (sent n))
cast_fits n least most =
    subst (λ (z : ℤ). T (non_neg z) × Fits w32 (nat_abs z)) (sym (sent_same n (omega (arith, ints))))
    (yes_non_neg {z = n} least, omega (arith, ints))

pub side_cast : (n : ℤ) → pos 0 ≤ℤ n → n ≤ℤ pos 1073741824 → T (non_neg (sent n)) × Fits w32 (nat_abs (sent n))
side_cast n least most = cast_fits n least (omega (arith, ints))

-- the lesser of two small numbers, which the code's comparison gives
record IsLesser (m n k : ℤ) : Type 0 where
  pub below : (p : ℤ) → (p ≤ℤ k) ↔ ((p ≤ℤ m) × (p ≤ℤ n))
  pub size : nat_abs k ≤ 2 ^ 30

lesser_sent : (m n k : ℤ) → nat_abs m ≤ 2 ^ 30 → nat_abs n ≤ 2 ^ 30 → k ≡ int_min (sent m) (sent n) →
    IsLesser m n (sent k)
lesser_sent m n k hm hn e =
    let is : k ≡ int_min m n = rw (small_sent m hm, small_sent n hn) at e in
    elim (either m n k is) [
      | inl h ↦ rw (h.0, small_sent m hm) (first m n h.1 hm)
      | inr h ↦ rw (h.0, small_sent n hn) (second m n h.1 hn)
    ]
  where
    either : (m n k : ℤ) → k ≡ int_min m n → ((k ≡ m) × (m ≤ℤ n)) ⊎ ((k ≡ n) × (n ≤ℤ m))
    either m n k e = grind (arith, ints)

    first : (m n : ℤ) → m ≤ℤ n → nat_abs m ≤ 2 ^ 30 → IsLesser m n m
    first m n le small = record { below = λ p. (λ h. (h, omega (arith, ints)), λ h. h.0); size = small }

    second : (m n : ℤ) → n ≤ℤ m → nat_abs n ≤ 2 ^ 30 → IsLesser m n n
    second m n le small = record { below = λ p. (λ h. (omega (arith, ints), h), λ h. h.1); size = small }

-- the greater
record IsGreater (m n k : ℤ) : Type 0 where
  pub above : (p : ℤ) → (k ≤ℤ p) ↔ ((m ≤ℤ p) × (n ≤ℤ p))
  pub size : nat_abs k ≤ 2 ^ 30

greater_sent : (m n k : ℤ) → nat_abs m ≤ 2 ^ 30 → nat_abs n ≤ 2 ^ 30 → k ≡ int_max (sent m) (sent n) →
    IsGreater m n (sent k)
greater_sent m n k hm hn e =
    let is : k ≡ int_max m n = rw (small_sent m hm, small_sent n hn) at e in
    elim (either m n k is) [
      | inl h ↦ rw (h.0, small_sent m hm) (first m n h.1 hm)
      | inr h ↦ rw (h.0, small_sent n hn) (second m n h.1 hn)
    ]
  where
    either : (m n k : ℤ) → k ≡ int_max m n → ((k ≡ m) × (n ≤ℤ m)) ⊎ ((k ≡ n) × (m ≤ℤ n))
    either m n k e = grind (arith, ints)

    first : (m n : ℤ) → n ≤ℤ m → nat_abs m ≤ 2 ^ 30 → IsGreater m n m
    first m n le small = record { above = λ p. (λ h. (h, omega (arith, ints)), λ h. h.0); size = small }

    second : (m n : ℤ) → m ≤ℤ n → nat_abs n ≤ 2 ^ 30 → IsGreater m n n
    second m n le small = record { above = λ p. (λ h. (omega (arith, ints), h), λ h. h.1); size = small }

-- the bounds that two have in common
pub record AreShared (a b c : Bounds) : Type 0 where
  pub both : (n : ℤ) → IsWithinBounds c n ↔ (IsWithinBounds a n × IsWithinBounds b n)
  pub small : AreSmall c

pub shared : (a b : Bounds) (least greatest : ℤ) → AreSmall a → AreSmall b →
    least ≡ int_max (sent a.least) (sent b.least) →
    greatest ≡ int_min (sent a.greatest) (sent b.greatest) → AreShared a b (bounds (sent least) (sent greatest))
shared a b least greatest ha hb low high =
    let lo = greater_sent a.least b.least least ha.least hb.least low in
    let hi = lesser_sent a.greatest b.greatest greatest ha.greatest hb.greatest high in
    record {
      both = λ n. (
        λ h. let p = (lo.above n).0 h.0 in let q = (hi.below n).0 h.1 in ((p.0, q.0), (p.1, q.1)),
        λ h. ((lo.above n).1 (h.0.0, h.1.0), (hi.below n).1 (h.0.1, h.1.1)),
      );
      small = record { least = lo.size; greatest = hi.size };
    }

-- how far ahead the bound is that a course goes towards
pub record IsAhead (b : Bounds) (c : Course) (ahead : ℤ) : Type 0 where
  pub rising : pos 0 <ℤ c.velocity → ahead ≡ b.greatest -ℤ c.start
  pub falling : c.velocity <ℤ pos 0 → ahead ≡ c.start -ℤ b.least

-- what the code knows of a course that moves, and of how far ahead the bound is
pub moves : (v : ℤ) → (of_z w64 v ≡ 0 → ⊥) → ¬ (v ≡ pos 0)
moves v moving still = moving (ap (of_z w64) still)

pub ahead_size : (b : Bounds) (c : Course) (ahead : ℤ) → AreSmall b → nat_abs c.start ≤ 2 ^ 30 →
    IsAhead b c ahead → ¬ (c.velocity ≡ pos 0) → nat_abs ahead ≤ 2 ^ 31
ahead_size b c ahead small start is moves =
    by_lt_z (pos 0) c.velocity
    (λ up. rw (is.rising up) (apart b.greatest c.start small.greatest start))
    (λ le.
    let down : c.velocity <ℤ pos 0 = by_lt_z c.velocity (pos 0) (λ lt. lt) (λ ge. absurd (moves (omega (arith, ints)))) in
    rw (is.falling down) (apart c.start b.least start small.least))
  where
    apart : (m n : ℤ) → nat_abs m ≤ 2 ^ 30 → nat_abs n ≤ 2 ^ 30 → nat_abs (m -ℤ n) ≤ 2 ^ 31
    apart m n hm hn = omega (arith, ints)

pub still_ahead : (n : ℤ) → nat_abs n ≤ 2 ^ 31 → lt_z (sent n) (pos 0) ≡ false → pos 0 ≤ℤ n
still_ahead n size isnt = at_least n (rw (sent_same n (omega (arith, ints))) at isnt)
  where
    at_least : (n : ℤ) → lt_z n (pos 0) ≡ false → pos 0 ≤ℤ n
    at_least n isnt = omega (arith, ints)

-- a speed without its sign
pub record IsSpeed (v : ℤ) (speed : ℕ) : Type 0 where
  pub is : speed ≡ nat_abs v
  pub some : 0 < speed
  pub fits : Fits w32 speed

pub speed_of : (v : ℤ) (speed : ℕ) → nat_abs v ≤ 2 ^ 20 → ¬ (v ≡ pos 0) → speed ≡ nat_abs (sent v) → IsSpeed v speed
speed_of v speed slow moves e =
    let is : speed ≡ nat_abs v = e ∙ ap nat_abs (sent_same v (omega (arith, ints))) in
    record { is = is; some = rw is (above v moves); fits = rw is (below v slow) }
  where
    above : (v : ℤ) → ¬ (v ≡ pos 0) → 0 < nat_abs v
    above (pos n) moves = elim (cases_lt 0 n) [
      | inl lt ↦ lt
      | inr le ↦ absurd (moves (let none : n ≡ 0 = omega arith in ap pos none))
    ]
    above (negsuc n) moves = omega (arith, ints)

    below : (v : ℤ) → nat_abs v ≤ 2 ^ 20 → Fits w32 (nat_abs v)
    below v slow = omega (arith, ints)

pub soon : (ahead : ℤ) (speed ticks : ℕ) → nat_abs ahead ≤ 2 ^ 31 → 0 < speed →
    ticks ≡ nat_abs (sent ahead) / speed → ticks + 1 ≤ 2 ^ 33
soon ahead speed ticks size some e =
    let is : ticks ≡ nat_abs ahead / speed = e ∙ ap (λ (z : ℤ). nat_abs z / speed) (sent_same ahead (omega (arith, ints))) in
    let q = le-div_iff_mul-le {k = speed} {x = nat_abs ahead / speed} {y = nat_abs ahead} some in
    let whole : (nat_abs ahead / speed) * speed ≤ nat_abs ahead = q.0 (omega arith) in
    let each : (nat_abs ahead / speed) * 1 ≤ (nat_abs ahead / speed) * speed = mul-le-mul_left (nat_abs ahead / speed) some in
    omega arith

-- one that stands still is always within, or never
pub ends_never : (b : Bounds) (c : Course) → c.velocity ≡ pos 0 → EndsAt (IsWithinAfter b c) None
ends_never b c still = record {
  never = λ n from within. absurd from;
  until = λ m n le not here. again m n here;
  always = λ none m n here. again m n here;
}
  where
    stays : (x v : ℤ) (n : ℕ) → v ≡ pos 0 → coordinate_after x v n ≡ x
    stays x v n e = rw e (omega (arith, ints))

    again : (m n : ℕ) → IsWithinAfter b c m → IsWithinAfter b c n
    again m n here =
        subst (IsWithinBounds b) (sym (stays c.start c.velocity n still)) (subst (IsWithinBounds b) (stays c.start c.velocity m still) here)

-- if it is past the bound already, it is never within
pub ends_at_once : (b : Bounds) (c : Course) (ahead : ℤ) → IsAhead b c ahead → ¬ (c.velocity ≡ pos 0) → ahead <ℤ pos 0 →
    EndsAt (IsWithinAfter b c) (Some 0)
ends_at_once b c ahead is moves past = record {
  never = λ n from within.
      by_lt_z (pos 0) c.velocity
      (λ up.
      let e = is.rising up in
      let high = rises c.start c.velocity 0 n (omega (arith, ints)) (omega arith) in
      let below = within.1 in
      absurd (omega (arith, ints)))
      (λ le.
      let down : c.velocity <ℤ pos 0 = by_lt_z c.velocity (pos 0) (λ lt. lt) (λ ge. absurd (moves (omega (arith, ints)))) in
      let e = is.falling down in
      let low = falls c.start c.velocity 0 n le (omega arith) in
      let above = within.0 in
      absurd (omega (arith, ints)));
  until = λ m n le not here. absurd (not (omega arith));
  always = λ none. cc;
}

-- if it isn't past the bound, it ends after as many ticks as it takes to go there, and one more
pub ends_ahead : (b : Bounds) (c : Course) (ahead : ℤ) → IsAhead b c ahead → ¬ (c.velocity ≡ pos 0) → pos 0 ≤ℤ ahead →
    EndsAt (IsWithinAfter b c) (Some (nat_abs ahead / nat_abs c.velocity + 1))
ends_ahead b c ahead is moves near =
    by_lt_z (pos 0) c.velocity
    (λ up.
    let e = is.rising up in
    rw e (ends_rising b.least b.greatest c.start c.velocity _ up
    (λ n. rising b.greatest c.start c.velocity n up (omega (arith, ints)))))
    (λ le.
    let down : c.velocity <ℤ pos 0 = by_lt_z c.velocity (pos 0) (λ lt. lt) (λ ge. absurd (moves (omega (arith, ints)))) in
    let e = is.falling down in
    rw e (ends_falling b.least b.greatest c.start c.velocity _ down
    (λ n. falling b.least c.start c.velocity n down (omega (arith, ints)))))
  where
    rising : (greatest x v : ℤ) (n : ℕ) → pos 0 <ℤ v → x ≤ℤ greatest →
        (coordinate_after x v n ≤ℤ greatest) ↔ (n ≤ nat_abs (greatest -ℤ x) / nat_abs v)
    rising greatest x (pos k) n up le = reaches_rising greatest x k n le (omega (arith, ints))
    rising greatest x (negsuc k) n up le = absurd (omega (arith, ints))

    falling : (least x v : ℤ) (n : ℕ) → v <ℤ pos 0 → least ≤ℤ x →
        (least ≤ℤ coordinate_after x v n) ↔ (n ≤ nat_abs (x -ℤ least) / nat_abs v)
    falling least x (pos k) n down le = absurd (omega (arith, ints))
    falling least x (negsuc k) n down le = reaches_falling least x k (nat_abs (negsuc k)) n (omega (arith, ints)) le

-- if a disk is between two sides of the box
room_small : (radius r side : ℤ) → pos 1 ≤ℤ radius → (radius +ℤ radius) ≤ℤ side → side ≤ℤ pos 1073741824 →
    r ≡ radius →
    AreSmall (bounds (sent r) (sent (sent side -ℤ sent r)))
room_small radius r side least two most e =
    let part : sent radius ≡ radius = sent_same radius (omega (arith, ints)) in
    let whole : sent side ≡ side = sent_same side (omega (arith, ints)) in
    let room : sent (side -ℤ radius) ≡ side -ℤ radius = sent_same (side -ℤ radius) (omega (arith, ints)) in
    rw (e, whole, part, room) (record { least = omega (arith, ints); greatest = omega (arith, ints) })

-- the room between a disk's places at two sides of the box
pub record IsBoxRoom (radius r side : ℤ) : Type 0 where
  pub least : sent r ≡ radius
  pub fits : FitsSigned w64 (sent side -ℤ sent r)
  pub value : sent (sent side -ℤ sent r) ≡ side -ℤ radius
  pub small : AreSmall (bounds (sent r) (sent (sent side -ℤ sent r)))

pub box_room : (rules : Rules) (a : Disk) (r side : ℤ) → IsSize rules a.size → rules.diameter ≤ℤ side →
    side ≤ℤ pos 1073741824 → r ≡ radius_of a → IsBoxRoom (radius_of a) r side
box_room rules a r side size fits most e =
    let least = radius_least rules a size in
    let two = two_radii rules a size in
    let whole : nat_abs side ≤ 2 ^ 30 = omega (arith, ints) in
    let part : nat_abs (radius_of a) ≤ 2 ^ 30 = omega (arith, ints) in
    record {
      least = rw e (small_sent (radius_of a) part);
      fits = rw e (difference_fits side (radius_of a) whole part);
      value = rw e (difference_sent side (radius_of a) whole part);
      small = room_small (radius_of a) r side least (omega (arith, ints)) most e;
    }

-- a coordinate is within the bounds of the box and of a column if and only if it is inside and in that column
pub within_axis : (radius length : ℤ) (side count index : ℕ) (outer column both : Bounds) (p : ℤ) → pos 1 ≤ℤ radius →
    length ≤ℤ pos 1073741824 →
    outer.least ≡ radius → outer.greatest ≡ length -ℤ radius → AreOfColumn side count index column →
    ((n : ℤ) → IsWithinBounds both n ↔ (IsWithinBounds outer n × IsWithinBounds column n)) →
    IsWithinBounds both p ↔ (IsBetween radius (length -ℤ radius) p × (along side count p ≡ index))
within_axis radius length side count index outer column both p some most el eg of h = (
  λ k.
      let parts = (h p).0 k in
      let inside : IsBetween radius (length -ℤ radius) p = rw (el, eg) at parts.0 in
      (inside, (of p (in_box p inside)).0 parts.1),
  λ k. (h p).1 (rw (el, eg) k.0, (of p (in_box p k.0)).1 k.1),
)
  where
    in_box : (p : ℤ) → IsBetween radius (length -ℤ radius) p → IsBetween (pos 0) (pos 1073741824) p
    in_box p k = let low = k.0 in let high = k.1 in (omega (arith, ints), omega (arith, ints))
