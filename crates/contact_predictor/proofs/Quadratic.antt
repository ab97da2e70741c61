-- The squared gap of two disks as a quadratic of the ticks: its numbers some ticks later, and their sizes up to the contact.
use Rattle.std.proofs.Common.{◌≡◌, ◌↔◌, ℕ, zero, suc, ◌+◌, ◌-◌, ◌*◌, ◌/◌, ◌^◌, ◌<◌, ◌≤◌, ap, sym, subst, ◌∙◌, inl, inr, arith, FitsSigned, w64, to_z}
use Rattle.std.specs.Prelude.{ℤ, pos, negsuc, nat_abs, ◌+ℤ◌, ◌*ℤ◌, ◌≤ℤ◌, ◌<ℤ◌}
use Rattle.std.specs.Int.{int_wrap}
use Rattle.std.proofs.lemmas.Int.{ints, unsigned_abs-mul, int_wrap_fits, to_z_pos}
use Rattle.std.proofs.lemmas.Bool.{cases_lt}
use Rattle.std.proofs.Math.Nat.{mul-le-mul, mul-le-mul_left, mul-div-le, le-div_iff_mul-le}
use Rattle.plane_vectors.specs.declared.Vector.{Vector}
use Rattle.plane_vectors.specs.Vectors.{sum, dot, after}
use Rattle.plane_vectors.proofs.Products.{distributes}
use Rattle.contact_predictor.specs.declared.approach.Approach.{Approach}
use Rattle.contact_predictor.specs.Contact.{gap, IsApproaching, IsApproachingAfter, IsCollisionCourse, MayTouch, IsContact, IsContactAfter, IsOnlyContactAfter}
use Rattle.contact_predictor.specs.Approach.{IsApproachOf, IsFit, IsCourse, IsEarly, closing_after, gap_after}
use Rattle.contact_predictor.proofs.Bounds.{early_few}
use Rattle.contact_predictor.proofs.Approaching.{touch_from_now, after_next, after_none, dot_next, gap_next, crossing_always, contact_at_last, only_contact}

-- ---- some ticks later
from_none : (n m : ℤ) → n ≡ n +ℤ (m *ℤ pos 0)
from_none n m = omega (arith, ints)

times_more : (n : ℤ) (t : ℕ) → n *ℤ pos (suc t) ≡ (n *ℤ pos t) +ℤ n
times_more n t = omega (arith, ints)

closing_more : (b a : ℤ) (t : ℕ) → (b +ℤ (a *ℤ pos t)) +ℤ a ≡ b +ℤ (a *ℤ pos (suc t))
closing_more b a t = let e = times_more a t in omega (arith, ints)

later : (r u : Vector) (t : ℕ) → after r u (suc t) ≡ sum (after r u t) u
later r u t = let one : suc t ≡ t + 1 = omega arith in ap (after r u) one ∙ after_next r u t

closing_at : (r u : Vector) (t : ℕ) → dot (after r u t) u ≡ dot r u +ℤ (dot u u *ℤ pos t)
closing_at r u zero = ap (λ (p : Vector). dot p u) (after_none r u) ∙ from_none (dot r u) (dot u u)
closing_at r u (suc t) =
    ap (λ (p : Vector). dot p u) (later r u t) ∙ dot_next (after r u t) u ∙ ap (λ (n : ℤ). n +ℤ dot u u) (closing_at r u t)
    ∙ closing_more (dot r u) (dot u u) t

gap_more : (c b a : ℤ) (t : ℕ) →
    ((c +ℤ ((b +ℤ (b +ℤ (a *ℤ pos t))) *ℤ pos t)) +ℤ ((b +ℤ (a *ℤ pos t)) +ℤ (b +ℤ (a *ℤ pos t)))) +ℤ a
    ≡ c +ℤ ((b +ℤ (b +ℤ (a *ℤ pos (suc t)))) *ℤ pos (suc t))
gap_more c b a t =
    let twice : b +ℤ (b +ℤ (a *ℤ pos (suc t))) ≡ (b +ℤ (b +ℤ (a *ℤ pos t))) +ℤ a = doubled b a t in
    let parts = distributes (b +ℤ (b +ℤ (a *ℤ pos t))) a (pos (suc t)) in
    let first = times_more (b +ℤ (b +ℤ (a *ℤ pos t))) t in
    let second = times_more a t in
    sums c b (a *ℤ pos t) a ((b +ℤ (b +ℤ (a *ℤ pos t))) *ℤ pos t) ((b +ℤ (b +ℤ (a *ℤ pos (suc t)))) *ℤ pos (suc t))
    (ap (λ (n : ℤ). n *ℤ pos (suc t)) twice ∙ parts ∙ (λ i. first i +ℤ second i))
  where
    doubled : (b a : ℤ) (t : ℕ) → b +ℤ (b +ℤ (a *ℤ pos (suc t))) ≡ (b +ℤ (b +ℤ (a *ℤ pos t))) +ℤ a
    doubled b a t = let e = times_more a t in omega (arith, ints)

    sums : (c b x a y z : ℤ) → z ≡ (y +ℤ (b +ℤ (b +ℤ x))) +ℤ (x +ℤ a) → ((c +ℤ y) +ℤ ((b +ℤ x) +ℤ (b +ℤ x))) +ℤ a ≡ c +ℤ z
    sums c b x a y z e = omega (arith, ints)

gap_at : (r u : Vector) (distance : ℤ) (t : ℕ) →
    gap (after r u t) distance ≡ gap r distance +ℤ ((dot r u +ℤ (dot r u +ℤ (dot u u *ℤ pos t))) *ℤ pos t)
gap_at r u distance zero = ap (λ (p : Vector). gap p distance) (after_none r u) ∙ from_none (gap r distance) (dot r u +ℤ (dot r u +ℤ (dot u u *ℤ pos 0)))
gap_at r u distance (suc t) =
    let closing = closing_at r u t in
    let before = gap_at r u distance t in
    ap (λ (p : Vector). gap p distance) (later r u t) ∙ gap_next (after r u t) u distance
    ∙ (λ i. (before i +ℤ (closing i +ℤ closing i)) +ℤ dot u u) ∙ gap_more (gap r distance) (dot r u) (dot u u) t

-- the numbers of disks some ticks later
later_of : (r u : Vector) (distance : ℤ) (q : Approach) (t : ℕ) → IsApproachOf r u distance q →
    IsApproachOf (after r u t) u distance (record { square = q.square; closing = closing_after q (pos t); gap = gap_after q (pos t) })
later_of r u distance q t of =
    let a = of.square in
    let b = of.closing in
    let c = of.gap in
    record {
      square = a;
      closing = (λ i. b i +ℤ (a i *ℤ pos t)) ∙ sym (closing_at r u t);
      gap = (λ i. c i +ℤ ((b i +ℤ (b i +ℤ (a i *ℤ pos t))) *ℤ pos t)) ∙ sym (gap_at r u distance t);
    }

-- ---- sizes
early_way : (a b c t : ℕ) → 0 < b → a * c < b * b → b * t ≤ c → a * t < b
early_way a b c t some crosses early = elim (cases_lt (a * t) b) [
  | inl lt ↦ lt
  | inr le ↦ absurd (let over : b * b ≤ (a * t) * b = mul-le-mul le (same b) in let most = mul-le-mul_left a early in omega arith)
]
  where
    same : (n : ℕ) → n ≤ n
    same n = omega arith

-- up to an early tick the disks approach, and the numbers stay as small as they are now
record AreMild (a b c : ℤ) : Type 0 where
  pub closing : b <ℤ pos 0
  pub closing_size : nat_abs b ≤ 2 ^ 52
  pub gap_size : nat_abs c ≤ 2 ^ 61

mild : (a b c : ℤ) (t : ℕ) → pos 0 ≤ℤ a → nat_abs b ≤ 2 ^ 52 → nat_abs c ≤ 2 ^ 61 → pos 0 ≤ℤ c → b <ℤ pos 0 →
    (a *ℤ c) <ℤ (b *ℤ b) → nat_abs b * t ≤ nat_abs c →
    AreMild a (b +ℤ (a *ℤ pos t)) (c +ℤ ((b +ℤ (b +ℤ (a *ℤ pos t))) *ℤ pos t))
mild (pos m) (negsuc n) (pos k) t p sb sc q r crosses early =
    let less : m * k < suc n * suc n = omega (arith, ints) in
    let way : m * t < suc n = early_way m (suc n) k t (omega arith) less early in
    record {
      closing = omega (arith, ints);
      closing_size = omega (arith, ints);
      gap_size = falls k (suc n) t (negsuc n +ℤ (negsuc n +ℤ pos (m * t))) sc early (omega (arith, ints)) (omega (arith, ints));
    }
  where
    same : (n : ℕ) → n ≤ n
    same n = omega arith

    under : (k : ℕ) (x : ℤ) → k ≤ 2 ^ 61 → x ≤ℤ pos 0 → nat_abs x ≤ 2 * k → nat_abs (pos k +ℤ x) ≤ 2 ^ 61
    under k x small down most = omega (arith, ints)

    down : (w : ℤ) (t : ℕ) → w <ℤ pos 0 → (w *ℤ pos t) ≤ℤ pos 0
    down (pos w) t lt = absurd (omega (arith, ints))
    down (negsuc w) t lt = omega (arith, ints)

    falls : (k n t : ℕ) (w : ℤ) → k ≤ 2 ^ 61 → n * t ≤ k → w <ℤ pos 0 → nat_abs w ≤ 2 * n → nat_abs (pos k +ℤ (w *ℤ pos t)) ≤ 2 ^ 61
    falls k n t w small early lt most =
        let size : nat_abs (w *ℤ pos t) ≡ nat_abs w * t = unsigned_abs-mul w (pos t) in
        let le : nat_abs w * t ≤ (2 * n) * t = mul-le-mul most (same t) in
        under k (w *ℤ pos t) small (down w t lt) (omega arith)
mild (pos m) (negsuc n) (negsuc k) t p sb sc q r crosses early = absurd (omega (arith, ints))
mild (pos m) (pos n) c t p sb sc q r crosses early = absurd (omega (arith, ints))
mild (negsuc m) b c t p sb sc q r crosses early = absurd (omega (arith, ints))

-- one tick later they still fit 64 bits
next_fits : (a b c : ℤ) → pos 0 ≤ℤ a → nat_abs a ≤ 2 ^ 43 → AreMild a b c →
    FitsSigned w64 (b +ℤ (a *ℤ pos 1)) × FitsSigned w64 (c +ℤ ((b +ℤ (b +ℤ (a *ℤ pos 1))) *ℤ pos 1))
next_fits a b c p sa h =
    let closing = h.closing in
    let sb = h.closing_size in
    let sc = h.gap_size in
    let one : a *ℤ pos 1 ≡ a = omega (arith, ints) in
    let twice : (b +ℤ (b +ℤ a)) *ℤ pos 1 ≡ b +ℤ (b +ℤ a) = omega (arith, ints) in
    rw (one, twice) (omega (arith, ints), omega (arith, ints))

-- ---- as the code computes them
-- disks that are apart, and approach each other on paths that cross
pub record IsComing (q : Approach) : Type 0 where
  pub fits : IsFit q
  pub apart : pos 0 ≤ℤ q.gap
  pub course : IsCourse q

-- the numbers this many ticks later, wrapped to 64 bits
pub record IsWrapped (q then : Approach) (t : ℕ) : Type 0 where
  pub square : then.square ≡ q.square
  pub closing : then.closing ≡ int_wrap w64 (closing_after q (pos t))
  pub gap : then.gap ≡ int_wrap w64 (gap_after q (pos t))

-- so the code has them after an early number of ticks
pub wrapped_at : (q then : Approach) (t : ℕ) → IsComing q → IsEarly q t → then.square ≡ q.square →
    then.closing ≡ int_wrap w64 (closing_after q (to_z w64 t)) → then.gap ≡ int_wrap w64 (gap_after q (to_z w64 t)) → IsWrapped q then t
wrapped_at q then t coming early square closing gap =
    let few = early_few q t coming.fits coming.course.0 early in
    let is : to_z w64 t ≡ pos t = to_z_pos w64 t (omega arith) in
    record {
      square = square;
      closing = closing ∙ ap (λ (n : ℤ). int_wrap w64 (closing_after q n)) is;
      gap = gap ∙ ap (λ (n : ℤ). int_wrap w64 (gap_after q n)) is;
    }

-- the same, with nothing lost
record IsLater (q then : Approach) (t : ℕ) : Type 0 where
  pub square : then.square ≡ q.square
  pub closing : then.closing ≡ closing_after q (pos t)
  pub gap : then.gap ≡ gap_after q (pos t)

-- nothing is lost up to an early tick
later_early : (q then : Approach) (t : ℕ) → IsComing q → IsEarly q t → IsWrapped q then t →
    IsLater q then t × AreMild q.square (closing_after q (pos t)) (gap_after q (pos t))
later_early q then t coming early wrapped =
    let fits = coming.fits in
    let sizes = mild q.square q.closing q.gap t fits.not_negative fits.closing fits.gap coming.apart coming.course.0 coming.course.1 early in (
      record {
        square = wrapped.square;
        closing = wrapped.closing ∙ int_wrap_fits w64 (closing_after q (pos t)) (fits_closing (closing_after q (pos t)) sizes.closing_size);
        gap = wrapped.gap ∙ int_wrap_fits w64 (gap_after q (pos t)) (fits_gap (gap_after q (pos t)) sizes.gap_size);
      },
      sizes,
    )
  where
    fits_closing : (n : ℤ) → nat_abs n ≤ 2 ^ 52 → FitsSigned w64 n
    fits_closing n h = omega (arith, ints)

    fits_gap : (n : ℤ) → nat_abs n ≤ 2 ^ 61 → FitsSigned w64 n
    fits_gap n h = omega (arith, ints)

-- and not one tick later either
later_next : (q past : Approach) → pos 0 ≤ℤ q.square → nat_abs q.square ≤ 2 ^ 43 → AreMild q.square q.closing q.gap →
    IsWrapped q past 1 → IsLater q past 1
later_next q past least most sizes wrapped =
    let fits = next_fits q.square q.closing q.gap least most sizes in
    record {
      square = wrapped.square;
      closing = wrapped.closing ∙ int_wrap_fits w64 (closing_after q (pos 1)) fits.0;
      gap = wrapped.gap ∙ int_wrap_fits w64 (gap_after q (pos 1)) fits.1;
    }

-- ---- the disks of a quadratic
of_later : (r u : Vector) (distance : ℤ) (q then : Approach) (t : ℕ) → IsApproachOf r u distance q → IsLater q then t →
    IsApproachOf (after r u t) u distance then
of_later r u distance q then t of exact =
    let at = later_of r u distance q t of in
    record { square = exact.square ∙ at.square; closing = exact.closing ∙ at.closing; gap = exact.gap ∙ at.gap }

of_next : (r u : Vector) (distance : ℤ) (q past : Approach) → IsApproachOf r u distance q → IsLater q past 1 →
    IsApproachOf (sum r u) u distance past
of_next r u distance q past of exact =
    subst (λ (p : Vector). IsApproachOf p u distance past) (one_later r u) (of_later r u distance q past 1 of exact)
  where
    one_later : (r u : Vector) → after r u 1 ≡ sum r u
    one_later r u = later r u 0 ∙ ap (λ (p : Vector). sum p u) (after_none r u)

-- the disks of a quadratic are apart, and come nearer
abbrev pub IsNearing : Approach → Type 0
IsNearing q = (pos 0 ≤ℤ q.gap) × (q.closing <ℤ pos 0)

nearing_of : (r u : Vector) (distance : ℤ) (q : Approach) → IsApproachOf r u distance q → IsNearing q ↔ IsApproaching r u distance
nearing_of r u distance q of = (
  λ h. record { apart = subst (λ (n : ℤ). pos 0 ≤ℤ n) of.gap h.0; approaching = subst (λ (n : ℤ). n <ℤ pos 0) of.closing h.1 },
  λ h. (subst (λ (n : ℤ). pos 0 ≤ℤ n) (sym of.gap) h.apart, subst (λ (n : ℤ). n <ℤ pos 0) (sym of.closing) h.approaching),
)

crosses_of : (r u : Vector) (distance : ℤ) (q : Approach) → IsApproachOf r u distance q → (q.square *ℤ q.gap) <ℤ (q.closing *ℤ q.closing) →
    IsCollisionCourse r u distance
crosses_of r u distance q of h = rw (of.square, of.closing, of.gap) at h

-- disks that may touch are apart, and on a course
pub touch_course : (q : Approach) (r u : Vector) (distance : ℤ) → IsApproachOf r u distance q → MayTouch r u distance →
    (pos 0 ≤ℤ q.gap) × IsCourse q
touch_course q r u distance of may =
    let now = (nearing_of r u distance q of).1 may.approaching in
    (now.0, (now.1, rw (of.square, of.closing, of.gap) may.crossing))

-- disks that overlap have no contact, and neither have those that aren't on a course
pub never_overlapping : (q : Approach) (r u : Vector) (distance : ℤ) (s : ℕ) → IsApproachOf r u distance q → q.gap <ℤ pos 0 →
    ¬ IsContactAfter r u distance s
never_overlapping q r u distance s of overlap contact =
    below q.gap overlap (touch_course q r u distance of (touch_from_now r u distance s contact)).0
  where
    below : (n : ℤ) → n <ℤ pos 0 → ¬ (pos 0 ≤ℤ n)
    below n less least = omega (arith, ints)

pub never_off_course : (q : Approach) (r u : Vector) (distance : ℤ) (s : ℕ) → IsApproachOf r u distance q → ¬ IsCourse q →
    ¬ IsContactAfter r u distance s
never_off_course q r u distance s of off contact = off (touch_course q r u distance of (touch_from_now r u distance s contact)).1

-- for such disks, the quadratic one tick later tells whether they are in contact
pub contact_told : (q past : Approach) → IsComing q → IsWrapped q past 1 → (r u : Vector) (distance : ℤ) → IsApproachOf r u distance q →
    (¬ IsNearing past) ↔ IsContact r u distance
contact_told q past coming wrapped r u distance of =
    let fits = coming.fits in
    let sizes : AreMild q.square q.closing q.gap = record { closing = coming.course.0; closing_size = fits.closing; gap_size = fits.gap } in
    let exact = later_next q past fits.not_negative fits.square sizes wrapped in
    let next = nearing_of (sum r u) u distance past (of_next r u distance q past of exact) in (
      λ ends. record {
        approaching = (nearing_of r u distance q of).0 (coming.apart, coming.course.0);
        crossing = crosses_of r u distance q of coming.course.1;
        last = λ again. ends (next.1 again);
      },
      λ contact again. contact.last (next.0 again),
    )

-- disks that approach after an early number of ticks, and no longer one tick later
pub ends : (q then past : Approach) (t : ℕ) → IsComing q → IsEarly q t → IsWrapped q then t → IsWrapped then past 1 → IsNearing then →
    ¬ IsNearing past → (r u : Vector) (distance : ℤ) → IsApproachOf r u distance q → IsOnlyContactAfter r u distance t
ends q then past t coming early wrapped next_wrapped now not r u distance of =
    let fits = coming.fits in
    let told = later_early q then t coming early wrapped in
    let exact = told.0 in
    let sizes : AreMild then.square then.closing then.gap = rw (exact.square, exact.closing, exact.gap) told.1 in
    let next = later_next then past (rw exact.square fits.not_negative) (rw exact.square fits.square) sizes next_wrapped in
    let at = of_later r u distance q then t of exact in
    only_contact r u distance t (record {
      approaching = (nearing_of (after r u t) u distance then at).0 now;
      crossing = (crossing_always r u distance t).1 (crosses_of r u distance q of coming.course.1);
      last = λ again. not ((nearing_of (sum (after r u t) u) u distance past (of_next (after r u t) u distance then past at next)).1 again);
    })

-- ---- halving
-- the disks of a quadratic approach after this many ticks
abbrev pub Nears : Approach → ℕ → Type 0
Nears q t = (pos 0 ≤ℤ gap_after q (pos t)) × (closing_after q (pos t) <ℤ pos 0)

-- the code's numbers tell it up to an early tick
pub nears_told : (q then : Approach) (t : ℕ) → IsComing q → IsEarly q t → IsWrapped q then t → IsNearing then ↔ Nears q t
nears_told q then t coming early wrapped =
    let exact = (later_early q then t coming early wrapped).0 in (
      λ h. (subst (λ (n : ℤ). pos 0 ≤ℤ n) exact.gap h.0, subst (λ (n : ℤ). n <ℤ pos 0) exact.closing h.1),
      λ h. (subst (λ (n : ℤ). pos 0 ≤ℤ n) (sym exact.gap) h.0, subst (λ (n : ℤ). n <ℤ pos 0) (sym exact.closing) h.1),
    )

pub nears_now : (q : Approach) → IsComing q → Nears q 0
nears_now q coming = (
  subst (λ (n : ℤ). pos 0 ≤ℤ n) (from_none q.gap (q.closing +ℤ closing_after q (pos 0))) coming.apart,
  subst (λ (n : ℤ). n <ℤ pos 0) (from_none q.closing q.square) coming.course.0,
)

-- since the gap falls by at least |b| a tick, disks don't approach for longer than c / |b|
nears_early : (q : Approach) (t : ℕ) → q.closing <ℤ pos 0 → Nears q t → IsEarly q t
nears_early q t closing nears = falls q.closing (closing_after q (pos t)) q.gap t closing nears.1 nears.0
  where
    falls : (b w c : ℤ) (t : ℕ) → b <ℤ pos 0 → w <ℤ pos 0 → pos 0 ≤ℤ (c +ℤ ((b +ℤ w) *ℤ pos t)) → nat_abs b * t ≤ nat_abs c
    falls (negsuc n) (negsuc m) (pos k) t p q h = omega (arith, ints)
    falls (negsuc n) (negsuc m) (negsuc k) t p q h = absurd (omega (arith, ints))
    falls (negsuc n) (pos m) c t p q h = absurd (omega (arith, ints))
    falls (pos n) w c t p q h = absurd (omega (arith, ints))

-- so c / |b| + 1 is past their contact, and each number of ticks before it is early
pub past_contact : (q : Approach) (gap size : ℕ) → IsComing q → gap ≡ nat_abs q.gap → size ≡ nat_abs q.closing →
    IsEarly q ((gap / size + 1) - 1) × (¬ Nears q (gap / size + 1))
past_contact q gap size coming is_gap is_size =
    let some : 0 < size = rw is_size (positive q.closing coming.course.0) in
    let last : (gap / size + 1) - 1 ≡ gap / size = omega arith in (
      rw (last, ← is_gap, ← is_size) (mul-div-le gap size),
      λ nears.
          let early : size * (gap / size + 1) ≤ gap = rw (is_gap, is_size) (nears_early q (nat_abs q.gap / nat_abs q.closing + 1) coming.course.0
          (rw (is_gap, is_size) at nears)) in
          let within : gap / size + 1 ≤ gap / size = (le-div_iff_mul-le {k = size} {x = gap / size + 1} {y = gap} some).1 (omega arith) in
          omega arith,
    )
  where
    positive : (b : ℤ) → b <ℤ pos 0 → 0 < nat_abs b
    positive b h = omega (arith, ints)

pub early_before : (q : Approach) (s t : ℕ) → s ≤ t → IsEarly q t → IsEarly q s
early_before q s t le early = let less : nat_abs q.closing * s ≤ nat_abs q.closing * t = mul-le-mul_left (nat_abs q.closing) le in omega arith

-- they are in contact when they approach for the last time
pub last_nears : (q : Approach) (t : ℕ) → IsCourse q → Nears q t → ¬ Nears q (t + 1) → (r u : Vector) (distance : ℤ) →
    IsApproachOf r u distance q → IsOnlyContactAfter r u distance t
last_nears q t course nears ends r u distance of =
    only_contact r u distance t (contact_at_last r u distance t (crosses_of r u distance q of course.1)
    ((at t).0 nears) (λ again. ends ((at (t + 1)).1 again)))
  where
    at : (s : ℕ) → Nears q s ↔ IsApproachingAfter r u distance s
    at s = nearing_of (after r u s) u distance (record { square = q.square; closing = closing_after q (pos s); gap = gap_after q (pos s) })
        (later_of r u distance q s of)
