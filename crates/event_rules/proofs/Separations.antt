-- What the separation of two disks at the later of their base ticks tells of their contact.
use Rattle.std.proofs.Common.{◌≡◌, ◌↔◌, ℕ, ◌+◌, ◌-◌, ◌^◌, ◌<◌, ◌≤◌, max, arith, ap, sym, subst, ◌∙◌}
use Rattle.std.specs.Prelude.{ℤ, pos, nat_abs, ◌+ℤ◌, ◌-ℤ◌, ◌*ℤ◌}
use Rattle.std.specs.Int.{int_wrap, w64}
use Rattle.std.proofs.lemmas.Int.{ints, int_wrap_fits}
use Rattle.plane_vectors.specs.declared.Vector.{Vector}
use Rattle.plane_vectors.specs.Vectors.{vector, difference, after, IsWithin}
use Rattle.plane_vectors.proofs.Sizes.{sent, sent_same}
use Rattle.fixed_motion.specs.declared.rules.Rules.{Rules}
use Rattle.fixed_motion.specs.declared.disk.Disk.{Disk}
use Rattle.fixed_motion.specs.Motion.{centre_of, velocity_of, place_of, contact_distance}
use Rattle.fixed_motion.proofs.Sizes.{slow_size, contact_least, contact_most}
use Rattle.contact_predictor.specs.Contact.{coordinate_after, IsContact, IsContactAfter}
use Rattle.plane_vectors.proofs.Products.{distributes}
use Rattle.event_rules.specs.declared.separation.Separation.{Separation}
use Rattle.event_rules.specs.Events.{IsContactTick, TouchAt}
use Rattle.event_rules.specs.Predict.{IsOnlyChance, HaveBegun, AreInside, IsSeparation, PathsTouchAfter, separation_of}
use Rattle.event_rules.specs.Pairs.{IsValidPair}

-- ---- sizes
pub relative_size : (u v : Vector) → IsWithin (2 ^ 20) u → IsWithin (2 ^ 20) v → IsWithin (2 ^ 21) (difference u v)
relative_size u v h k = record { x = size u.x v.x h.x k.x; y = size u.y v.y h.y k.y }
  where
    size : (m n : ℤ) → nat_abs m ≤ 2 ^ 20 → nat_abs n ≤ 2 ^ 20 → nat_abs (m -ℤ n) ≤ 2 ^ 21
    size m n h k = omega (arith, ints)

pub small_same : (n : ℤ) → nat_abs n ≤ 2 ^ 30 → sent n ≡ n
small_same n h = sent_same n (omega (arith, ints))

-- ---- the later base tick
pub places_are : (a b : Disk) (s : Separation) → IsSeparation a b s → s.places ≡ separation_of a b
places_are a b s h = h.places ∙ ap (λ (t : ℕ). difference (place_of a t) (place_of b t)) h.start

pub distance_size : (rules : Rules) (a b : Disk) → IsValidPair rules a b → nat_abs (contact_distance a b) ≤ 2 ^ 30
distance_size rules a b pair =
    let least = contact_least rules a b pair.first.size pair.second.size in
    let most = contact_most rules a b pair.first.size pair.second.size in
    let fits = pair.checked.diameter.1 in
    let side = pair.checked.width.1 in
    omega (arith, ints)

-- the code's numbers are those meant
pub separated : (rules : Rules) (a b : Disk) (start : ℕ) (r v w u : Vector) (d : ℤ) → IsValidPair rules a b →
    start ≡ max a.base b.base → r ≡ separation_of a b → v ≡ velocity_of a → w ≡ velocity_of b →
    u ≡ vector (int_wrap w64 (v.x -ℤ w.x)) (int_wrap w64 (v.y -ℤ w.y)) → d ≡ contact_distance a b →
    IsSeparation a b (record { start = start; places = r; velocities = u; distance = sent d })
separated rules a b start r v w u d pair e er ev ew eu ed =
    let distance : sent (contact_distance a b) ≡ contact_distance a b = small_same (contact_distance a b) (distance_size rules a b pair) in
    let slow = relative_size (velocity_of a) (velocity_of b)
    (slow_size rules (velocity_of a) pair.checked pair.first.velocity) (slow_size rules (velocity_of b) pair.checked pair.second.velocity) in
    let x = same (a.vx -ℤ b.vx) slow.x in
    let y = same (a.vy -ℤ b.vy) slow.y in
    record {
      start = e;
      places = er ∙ sym (ap (λ (t : ℕ). difference (place_of a t) (place_of b t)) e);
      velocities = eu ∙ (λ i. vector (int_wrap w64 ((ev i).x -ℤ (ew i).x)) (int_wrap w64 ((ev i).y -ℤ (ew i).y))) ∙ (λ i. vector (x i) (y i));
      distance = ap sent ed ∙ distance;
    }
  where
    same : (n : ℤ) → nat_abs n ≤ 2 ^ 21 → int_wrap w64 n ≡ n
    same n h = int_wrap_fits w64 n (omega (arith, ints))

-- ---- later ticks
coordinate_later : (x v : ℤ) (m n : ℕ) → coordinate_after x v (m + n) ≡ coordinate_after (coordinate_after x v m) v n
coordinate_later x v m n = let way : v *ℤ pos (m + n) ≡ (v *ℤ pos m) +ℤ (v *ℤ pos n) = omega (arith, ints) in omega (arith, ints)

-- a disk's place s ticks after another tick
place_later : (a : Disk) (start s : ℕ) → a.base ≤ start → place_of a (start + s) ≡ after (place_of a start) (velocity_of a) s
place_later a start s le =
    let e : (start + s) - a.base ≡ (start - a.base) + s = omega arith in
    let x = coordinate_later a.x a.vx (start - a.base) s in
    let y = coordinate_later a.y a.vy (start - a.base) s in
    ap (after (centre_of a) (velocity_of a)) e ∙ (λ i. vector (x i) (y i))

coordinates_apart : (x y u v : ℤ) (s : ℕ) → (coordinate_after x u s -ℤ coordinate_after y v s) ≡ coordinate_after (x -ℤ y) (u -ℤ v) s
coordinates_apart x y u v s =
    let e : u ≡ (u -ℤ v) +ℤ v = omega (arith, ints) in
    let way : (u *ℤ pos s) ≡ ((u -ℤ v) *ℤ pos s) +ℤ (v *ℤ pos s) = ap (λ (z : ℤ). z *ℤ pos s) e ∙ distributes (u -ℤ v) v (pos s) in
    sums x y (u *ℤ pos s) (v *ℤ pos s) ((u -ℤ v) *ℤ pos s) way
  where
    sums : (x y p q r : ℤ) → p ≡ r +ℤ q → ((x +ℤ p) -ℤ (y +ℤ q)) ≡ ((x -ℤ y) +ℤ r)
    sums x y p q r e = omega (arith, ints)

-- the separation of two disks s ticks later
separation_later : (a b : Disk) (start s : ℕ) → HaveBegun a b start →
    difference (place_of a (start + s)) (place_of b (start + s))
    ≡ after (difference (place_of a start) (place_of b start)) (difference (velocity_of a) (velocity_of b)) s
separation_later a b start s begun =
    let first = place_later a start s begun.0 in
    let second = place_later b start s begun.1 in
    let x = coordinates_apart (place_of a start).x (place_of b start).x a.vx b.vx s in
    let y = coordinates_apart (place_of a start).y (place_of b start).y a.vy b.vy s in
    (λ i. difference (first i) (second i)) ∙ (λ i. vector (x i) (y i))

-- two disks at these places now, with the velocities of their records, are in contact after s ticks
abbrev TouchAfter : Disk → Vector → Disk → Vector → ℕ → Type 0
TouchAfter a p b q s = IsContactAfter (difference p q) (difference (velocity_of a) (velocity_of b)) (contact_distance a b) s

-- to meet at a tick is to meet a number of ticks after the start
touch_after : (a b : Disk) (start s : ℕ) → HaveBegun a b start →
    TouchAt a (place_of a (start + s)) b (place_of b (start + s)) ↔ TouchAfter a (place_of a start) b (place_of b start) s
touch_after a b start s begun =
    let e = separation_later a b start s begun in
    let u = difference (velocity_of a) (velocity_of b) in (
      λ h. subst (λ (r : Vector). IsContact r u (contact_distance a b)) e h,
      λ h. subst (λ (r : Vector). IsContact r u (contact_distance a b)) (sym e) h,
    )

-- ---- contacts
-- to be in contact a number of ticks after the separation is to be in contact then
contact_same : (rules : Rules) (a b : Disk) (s : Separation) (n : ℕ) → IsSeparation a b s →
    IsContactAfter s.places s.velocities s.distance n ↔ TouchAfter a (place_of a s.start) b (place_of b s.start) n
contact_same rules a b s n h = alike s.places s.velocities _ _ s.distance _ h.places h.velocities h.distance
  where
    alike : (r u r' u' : Vector) (d d' : ℤ) → r ≡ r' → u ≡ u' → d ≡ d' → IsContactAfter r u d n ↔ IsContactAfter r' u' d' n
    alike r u r' u' d d' p q t = rw (p, q, t) (λ h. h, λ h. h)

-- a contact tick is a contact that many ticks after the later base tick
pub ticks_until : (rules : Rules) (a b : Disk) (s : Separation) (tick : ℕ) → IsSeparation a b s → IsContactTick rules a b tick →
    (tick ≡ s.start + (tick - s.start)) × IsContactAfter s.places s.velocities s.distance (tick - s.start)
ticks_until rules a b s tick h contact =
    let x : a.base ≤ tick = contact.first_base in
    let y : b.base ≤ tick = contact.second_base in
    let e = h.start in
    let t : tick ≡ s.start + (tick - s.start) = omega arith in (
      t,
      (contact_same rules a b s (tick - s.start) h).1 ((touch_after a b s.start (tick - s.start) (omega arith, omega arith)).0
          (subst (λ (n : ℕ). TouchAt a (place_of a n) b (place_of b n)) t contact.contact)),
    )

-- and the other way round, if both disks are inside then
contact_tick_from : (rules : Rules) (a b : Disk) (s : Separation) (n : ℕ) → IsSeparation a b s →
    IsContactAfter s.places s.velocities s.distance n → AreInside rules a b (s.start + n) → IsContactTick rules a b (s.start + n)
contact_tick_from rules a b s n h contact inside =
    let e = h.start in
    record {
      first_base = omega arith;
      second_base = omega arith;
      first_inside = inside.0;
      second_inside = inside.1;
      contact = (touch_after a b s.start n (omega arith, omega arith)).1 ((contact_same rules a b s n h).0 contact);
    }

-- the only contact is at the only contact tick
only_tick : (rules : Rules) (a b : Disk) (s : Separation) (n : ℕ) → IsSeparation a b s →
    ((m : ℕ) → IsContactAfter s.places s.velocities s.distance m → m ≡ n) → (tick : ℕ) → IsContactTick rules a b tick → tick ≡ s.start + n
only_tick rules a b s n h only tick contact =
    let at = ticks_until rules a b s tick h contact in
    let e : tick ≡ s.start + (tick - s.start) = at.0 in
    let t : tick - s.start ≡ n = only (tick - s.start) at.1 in
    omega arith

-- paths that touch after the end tell of no contact before it
pub no_touch : (rules : Rules) (a b : Disk) (s : Separation) (n : ℕ) → IsSeparation a b s → PathsTouchAfter s n →
    rules.end ≤ s.start + n → (tick : ℕ) → tick < rules.end → IsContactTick rules a b tick → ⊥
no_touch rules a b s n h found late tick before contact =
    let e : tick ≡ s.start + n = only_tick rules a b s n h found.only tick contact in
    omega arith

-- those that touch before it do so at the only contact tick, if the disks are inside then
pub chance_from : (rules : Rules) (a b : Disk) (s : Separation) (n : ℕ) → IsSeparation a b s → PathsTouchAfter s n →
    (s.start + n) < rules.end → IsOnlyChance rules a b (s.start + n)
chance_from rules a b s n h found before =
    let e = h.start in
    record {
      begun = (omega arith, omega arith);
      end = before;
      touch = contact_tick_from rules a b s n h found.contact;
      only = only_tick rules a b s n h found.only;
    }
