-- Each lane has the quadratic of the separation reversed.
use Rattle.std.proofs.Common.{◌≡◌, ◌↔◌, Bool, IsTrue, subst, ℕ, ◌≤◌, ◌^◌}
use Rattle.std.specs.Prelude.{pos, ◌-ℤ◌, ◌*ℤ◌}
use Rattle.std.specs.Int.{int_wrap, w64}
use Rattle.plane_vectors.specs.Vectors.{dot}
use Rattle.fixed_motion.specs.Motion.{centre_of, velocity_of}
use Rattle.fixed_motion.specs.declared.rules.Rules.{Rules}
use Rattle.contact_predictor.specs.declared.approach.Approach.{Approach}
use Rattle.event_rules.specs.declared.scale.Scale.{Scale}
use Rattle.event_rules.specs.Lanes.{wrapped_after}
use Rattle.event_rules.specs.Pairs.{reach_of}
use Rattle.event_rules.specs.Scale.{speed_bits, place_bits, CrossRounded, FitRounded}
use Rattle.event_rules.proofs.Rounded.{tells_rounded}
use Rattle.event_rules.proofs.SideBySide.{held_again, low_vector, lanes_approach, lanes_tell}
use Rattle.event_rules.proofs.lanes.each_may_hit.Goals as goal

pub returns : goal.returns
returns c =
    let a = c.args.a in
    let b = c.args.b in
    let other = c.args.other.now in
    let scale = c.args.reach.scale in
    let place = c.place_then-place.result in
    let r = low_vector place (centre_of a) in
    let s = low_vector place (centre_of b) in
    let u = low_vector (velocity_of other) (velocity_of a) in
    let v = low_vector (velocity_of other) (velocity_of b) in
    let rx = held_again c.low_differences-rx.result r.x s.x c.low_differences-rx.ensures in
    let ry = held_again c.low_differences-ry.result r.y s.y c.low_differences-ry.ensures in
    let ux = held_again c.low_differences-ux.result u.x v.x c.low_differences-ux.ensures in
    let uy = held_again c.low_differences-uy.result u.y v.y c.low_differences-uy.ensures in
    let squares = held_again c.dots.result _ _ (c.dots.ensures u v u v ux uy ux uy) in
    let closing = held_again c.dots-2.result _ _ (c.dots-2.ensures r s u v rx ry ux uy) in
    let whole = held_again c.dots-3.result _ _ (c.dots-3.ensures r s r s rx ry rx ry) in
    record {
      first = λ rules of.
          let reaches = held_again c.args.reach.squares (reach_of rules a *ℤ reach_of rules a) (reach_of rules b *ℤ reach_of rules b) of.squares in
          let gap = held_again c.less.result _ _ (c.less.ensures (int_wrap w64 (dot r r)) (int_wrap w64 (dot s s))
          (reach_of rules a *ℤ reach_of rules a) (reach_of rules b *ℤ reach_of rules b) whole reaches) in
          let p = lanes_approach (reach_of rules a *ℤ reach_of rules a) r u in
          let q = lanes_approach (reach_of rules b *ℤ reach_of rules b) s v in
          let told = c.are_courses.ensures p q squares closing gap in
          tells_rounded rules a other p c.are_courses.result.0
          (λ pair. lanes_tell (reach_of rules a *ℤ reach_of rules a) rules a other place c.requires.begun c.place_then-place.ensures pair)
          (scaled rules scale p c.are_courses.result.0 of.speeds of.places told.0);
      second = λ rules of.
          let reaches = held_again c.args.reach.squares (reach_of rules a *ℤ reach_of rules a) (reach_of rules b *ℤ reach_of rules b) of.squares in
          let gap = held_again c.less.result _ _ (c.less.ensures (int_wrap w64 (dot r r)) (int_wrap w64 (dot s s))
          (reach_of rules a *ℤ reach_of rules a) (reach_of rules b *ℤ reach_of rules b) whole reaches) in
          let p = lanes_approach (reach_of rules a *ℤ reach_of rules a) r u in
          let q = lanes_approach (reach_of rules b *ℤ reach_of rules b) s v in
          let told = c.are_courses.ensures p q squares closing gap in
          let begun = subst (λ (base : ℕ). other.base ≤ base) c.requires.base c.requires.begun in
          let there = subst (λ (base : ℕ). base ≤ 2 ^ 40 → other.base ≤ 2 ^ 40 → place ≡ wrapped_after other (pos base -ℤ pos other.base)) c.requires.base
          c.place_then-place.ensures in
          tells_rounded rules b other q c.are_courses.result.1
          (λ pair. lanes_tell (reach_of rules b *ℤ reach_of rules b) rules b other place begun there pair)
          (scaled rules scale q c.are_courses.result.1 of.speeds of.places told.1);
    }
  where
    -- the scale is that of the scene
    scaled : (rules : Rules) (scale : Scale) (p : Approach) (may : Bool) → scale.speeds ≡ speed_bits rules → scale.places ≡ place_bits rules →
        (FitRounded scale.speeds scale.places p.square p.closing p.gap → IsTrue may ↔ CrossRounded scale.speeds scale.places p.square p.closing p.gap) →
        FitRounded (speed_bits rules) (place_bits rules) p.square p.closing p.gap → IsTrue may ↔
        CrossRounded (speed_bits rules) (place_bits rules) p.square p.closing p.gap
    scaled rules scale p may es ep told = rw (← es, ← ep) told
