-- The quadratic is that of the disks.
use Rattle.std.proofs.Common.{◌≡◌, ◌^◌, ◌≤◌, arith, FitsSigned, w64}
use Rattle.std.specs.Prelude.{ℤ, nat_abs}
use Rattle.std.proofs.lemmas.Int.{ints}
use Rattle.std.proofs.lemmas.Bool.{both_ways}
use Rattle.plane_vectors.specs.Vectors.{vector}
use Rattle.plane_vectors.proofs.Sizes.{sent, sent_same}
use Rattle.contact_predictor.specs.declared.approach.Approach.{Approach}
use Rattle.contact_predictor.specs.Approach.{FitsApproach, IsApproachOf, IsFit}
use Rattle.contact_predictor.proofs.Bounds.{AreInABox, fits_in_a_box, fit_in_a_box}
use Rattle.contact_predictor.proofs.Quadratic.{never_overlapping, never_off_course}
use Rattle.contact_predictor.proofs.contact.Goals.{then-overlap-via-then-overlap, then-overlap-via-else-overlap+then-not-is_course}
use Rattle.contact_predictor.proofs.contact.Goals as goal

-- the code's quadratic is that of the disks
quadratic : (rx ry ux uy d : ℤ) (q : Approach) → nat_abs rx ≤ 2 ^ 30 → nat_abs ry ≤ 2 ^ 30 → nat_abs ux ≤ 2 ^ 21 → nat_abs uy ≤ 2 ^ 21 →
    nat_abs d ≤ 2 ^ 30 → (FitsApproach (vector (sent rx) (sent ry)) (vector (sent ux) (sent uy)) (sent d) →
    IsApproachOf (vector (sent rx) (sent ry)) (vector (sent ux) (sent uy)) (sent d) q) →
    IsApproachOf (vector rx ry) (vector ux uy) d q × IsFit q
quadratic rx ry ux uy d q hx hy hu hv hd told =
    let box : AreInABox (vector rx ry) (vector ux uy) d =
    record { separation = record { x = hx; y = hy }; velocity = record { x = hu; y = hv }; reach = hd } in
    let x : sent rx ≡ rx = sent_same rx (place rx hx) in
    let y : sent ry ≡ ry = sent_same ry (place ry hy) in
    let u : sent ux ≡ ux = sent_same ux (speed ux hu) in
    let v : sent uy ≡ uy = sent_same uy (speed uy hv) in
    let e : sent d ≡ d = sent_same d (place d hd) in
    let of : IsApproachOf (vector rx ry) (vector ux uy) d q =
    rw (x, y, u, v, e) at told (fits_in_a_box (vector rx ry) (vector ux uy) d box) in
    (of, fit_in_a_box (vector rx ry) (vector ux uy) d q box of)
  where
    place : (n : ℤ) → nat_abs n ≤ 2 ^ 30 → FitsSigned w64 n
    place n h = omega (arith, ints)

    speed : (n : ℤ) → nat_abs n ≤ 2 ^ 21 → FitsSigned w64 n
    speed n h = omega (arith, ints)

pub returns-then-overlap-clause-found : goal.returns-then-overlap-clause-found
returns-then-overlap-clause-found c = λ s le.
    let a = c.args in
    let h = c.requires in
    let q = c.new-approach.result in
    let of = (quadratic a.rx a.ry a.ux a.uy a.diameter q h.rx_size h.ry_size h.ux_size h.uy_size h.diameter_size c.new-approach.ensures).0 in
    elim c.then-overlap.branch [
      | then-overlap-via-then-overlap w ↦ never_overlapping q _ _ _ s of (c.overlap.ensures.0 w.if-overlap.true)
      | then-overlap-via-else-overlap+then-not-is_course w ↦ never_off_course q _ _ _ s of
          (λ course. both_ways w.is_course.result w.if-not-is_course.true (w.is_course.ensures.1 course))
    ]

pub contact-ticks-requires-clause-fits : goal.contact-ticks-requires-clause-fits
contact-ticks-requires-clause-fits c =
    let a = c.args in
    let h = c.requires in
    let q = c.new-approach.result in
    (quadratic a.rx a.ry a.ux a.uy a.diameter q h.rx_size h.ry_size h.ux_size h.uy_size h.diameter_size c.new-approach.ensures).1

pub returns-then-ticks-span-clause-found : goal.returns-then-ticks-span-clause-found
returns-then-ticks-span-clause-found c =
    let a = c.args in
    let h = c.requires in
    let q = c.new-approach.result in
    let of = (quadratic a.rx a.ry a.ux a.uy a.diameter q h.rx_size h.ry_size h.ux_size h.uy_size h.diameter_size c.new-approach.ensures).0 in
    (c.if-ticks-span.true, (c.contact-ticks.ensures.found _ _ _ of).contact)

pub returns-then-ticks-span-clause-only : goal.returns-then-ticks-span-clause-only
returns-then-ticks-span-clause-only c =
    let a = c.args in
    let h = c.requires in
    let q = c.new-approach.result in
    let of = (quadratic a.rx a.ry a.ux a.uy a.diameter q h.rx_size h.ry_size h.ux_size h.uy_size h.diameter_size c.new-approach.ensures).0 in
    (c.contact-ticks.ensures.found _ _ _ of).only

pub returns-else-ticks-span-clause-found : goal.returns-else-ticks-span-clause-found
returns-else-ticks-span-clause-found c = λ s le contact.
    let a = c.args in
    let h = c.requires in
    let q = c.new-approach.result in
    let of = (quadratic a.rx a.ry a.ux a.uy a.diameter q h.rx_size h.ry_size h.ux_size h.uy_size h.diameter_size c.new-approach.ensures).0 in
    let e : s ≡ c.contact-ticks.result = (c.contact-ticks.ensures.found _ _ _ of).only s contact in
    omega (arith, c.if-ticks-span.false)
