-- The disk of the earlier base tick moves until the other's.
use Rattle.std.proofs.Common.{◌≡◌, ◌≤◌, ◌^◌, arith, ◌∙◌, ap, sym, subst, true, false, FitsSigned}
use Rattle.std.specs.Prelude.{ℤ, pos, nat_abs, ◌-ℤ◌, ◌*ℤ◌, ◌≤ℤ◌, ◌<ℤ◌}
use Rattle.std.specs.Int.{int_wrap, w64}
use Rattle.std.proofs.lemmas.Int.{ints}
use lib.Signed.{lt_z}
use Rattle.plane_vectors.specs.declared.Vector.{Vector}
use Rattle.plane_vectors.specs.Vectors.{vector, IsWithin}
use Rattle.plane_vectors.proofs.Sizes.{sent, sent_same}
use Rattle.fixed_motion.specs.declared.rules.Rules.{Rules}
use Rattle.fixed_motion.specs.declared.disk.Disk.{Disk}
use Rattle.event_rules.proofs.Leads.{AreLeading, leading, apart_first, apart_second}
use Rattle.event_rules.proofs.Separations.{small_same}
use Rattle.event_rules.proofs.separation.places_apart.Goals as goal
use Rattle.event_rules.proofs.separation.places_apart.Goals.{then-lead-lt0, else-lead-lt0}

-- the code's vector, if the disk that moves has this velocity
abbrev told : Disk → Disk → ℤ → Vector → Vector
told a b lead v = vector (int_wrap w64 ((a.x -ℤ b.x) -ℤ (v.x *ℤ lead))) (int_wrap w64 ((a.y -ℤ b.y) -ℤ (v.y *ℤ lead)))

-- what the code's calls tell of disks of those sizes
one_way : (x y v lead out : ℤ) → nat_abs x ≤ 2 ^ 30 → nat_abs y ≤ 2 ^ 30 → nat_abs v ≤ 2 ^ 20 → FitsSigned w64 lead → FitsSigned w64 out →
    out ≡ int_wrap w64 ((sent x -ℤ sent y) -ℤ (sent v *ℤ sent lead)) → sent out ≡ int_wrap w64 ((x -ℤ y) -ℤ (v *ℤ lead))
one_way x y v lead out hx hy hv fl fo e =
    let speed : nat_abs v ≤ 2 ^ 30 = omega arith in
    sent_same out fo ∙ e
    ∙ (λ i. int_wrap w64 ((small_same x hx i -ℤ small_same y hy i) -ℤ (small_same v speed i *ℤ sent_same lead fl i)))

record AreOut (a b : Disk) (moving : Vector) (lead x y : ℤ) : Type 0 where
  pub lead_fits : FitsSigned w64 lead
  pub x_fits : FitsSigned w64 x
  pub y_fits : FitsSigned w64 y
  pub x_is : x ≡ int_wrap w64 ((sent a.x -ℤ sent b.x) -ℤ (sent moving.x *ℤ sent lead))
  pub y_is : y ≡ int_wrap w64 ((sent a.y -ℤ sent b.y) -ℤ (sent moving.y *ℤ sent lead))

out_is : (rules : Rules) (a b : Disk) (moving v : Vector) (lead x y : ℤ) → AreLeading rules a b → AreOut a b moving lead x y → moving ≡ v →
    IsWithin (2 ^ 20) v → vector (sent x) (sent y) ≡ told a b lead v
out_is rules a b moving v lead x y of out e slow =
    let speed : IsWithin (2 ^ 20) moving = subst (IsWithin (2 ^ 20)) (sym e) slow in
    let sx = one_way a.x b.x moving.x lead x of.first.x of.second.x speed.x out.lead_fits out.x_fits out.x_is in
    let sy = one_way a.y b.y moving.y lead y of.first.y of.second.y speed.y out.lead_fits out.y_fits out.y_is in
    (λ i. vector (sx i) (sy i)) ∙ ap (told a b lead) e

negative : (z : ℤ) → FitsSigned w64 z → lt_z (sent z) (pos 0) ≡ true → z <ℤ pos 0
negative z fits h = omega (arith, ints, h)

not_negative : (z : ℤ) → FitsSigned w64 z → lt_z (sent z) (pos 0) ≡ false → pos 0 ≤ℤ z
not_negative z fits h = omega (arith, ints, h)

pub returns : goal.returns
returns c = λ rules pair.
    let a = c.args.a.now in
    let b = c.args.b.now in
    let lead = c.lead_of-lead.result in
    let of = leading rules a b pair in
    let is = c.lead_of-lead.ensures of.first_base of.second_base in
    let out : AreOut a b c.if-lead-lt0.moving lead c.wrapping_apart.result c.wrapping_apart-2.result = record {
      lead_fits = record { sfits = c.lead_of-lead.type_inv };
      x_fits = record { sfits = c.wrapping_apart.type_inv };
      y_fits = record { sfits = c.wrapping_apart-2.type_inv };
      x_is = c.wrapping_apart.ensures;
      y_is = c.wrapping_apart-2.ensures;
    } in
    elim c.if-lead-lt0.branch [
      | then-lead-lt0 w ↦
          let lt : lead <ℤ pos 0 = negative lead out.lead_fits w.if-lead-lt0.true in
          out_is rules a b _ _ lead _ _ of out (w.moving-is ∙ w.velocity-moving.ensures) of.first_speed ∙ apart_first rules a b lead pair is lt
      | else-lead-lt0 w ↦
          let le : pos 0 ≤ℤ lead = not_negative lead out.lead_fits w.if-lead-lt0.false in
          out_is rules a b _ _ lead _ _ of out (w.moving-is ∙ w.velocity-moving-else-lead-lt0.ensures) of.second_speed ∙ apart_second rules a b lead pair is le
    ]
