-- Vectors turned so that scalar products and sums stay, as mirrored ones do: contacts and impulses turn with them.
use Rattle.std.proofs.Common.{◌≡◌, ℕ, zero, suc, ◌+◌, ◌-◌, ◌*◌, Bool, true, false, sym, ap, ◌∙◌, subst, refl, arith}
use Rattle.std.specs.Prelude.{ℤ, pos, negsuc, neg_ℤ, nat_abs, ◌+ℤ◌, ◌-ℤ◌, ◌*ℤ◌, ◌≤ℤ◌, ◌<ℤ◌, int_lt, if◌then◌else◌}
use Rattle.std.proofs.lemmas.Int.{ints}
use Rattle.std.proofs.lemmas.Nat.{div_below}
use Rattle.plane_vectors.specs.declared.Vector.{Vector}
use Rattle.plane_vectors.specs.Vectors.{sum, dot}
use Rattle.contact_predictor.specs.Contact.{IsApproaching, IsContact}
use Rattle.impulse_rounding.specs.Impulse.{nearest, ceiling, signed, with_signs, rounded_impulse, parting, impulse_of}

-- ---- numbers reversed
pub neg_twice : (a : ℤ) → neg_ℤ (neg_ℤ a) ≡ a
neg_twice a = omega (arith, ints)

pub neg_product : (x y : ℤ) → neg_ℤ x *ℤ neg_ℤ y ≡ x *ℤ y
neg_product (pos zero) (pos zero) = refl
neg_product (pos zero) (pos (suc n)) = omega (arith, ints)
neg_product (pos zero) (negsuc n) = omega (arith, ints)
neg_product (pos (suc m)) (pos zero) = omega (arith, ints)
neg_product (pos (suc m)) (pos (suc n)) = refl
neg_product (pos (suc m)) (negsuc n) = refl
neg_product (negsuc m) (pos zero) = omega (arith, ints)
neg_product (negsuc m) (pos (suc n)) = refl
neg_product (negsuc m) (negsuc n) = refl

pub neg_size : (x : ℤ) → nat_abs (neg_ℤ x) ≡ nat_abs x
neg_size x = grind (arith, ints)

pub neg_sum : (x y : ℤ) → neg_ℤ x +ℤ neg_ℤ y ≡ neg_ℤ (x +ℤ y)
neg_sum x y = omega (arith, ints)

signed_reversed : (x : ℤ) (n : ℕ) → (x ≡ pos 0 → n ≡ 0) → signed (neg_ℤ x) n ≡ neg_ℤ (signed x n)
signed_reversed (pos zero) n none = rw (none refl) refl
signed_reversed (pos (suc m)) n none = refl
signed_reversed (negsuc m) n none = sym (neg_twice (pos n))

-- one component of an impulse whose exact size is b |x| / n
pub component_reversed : (round : ℕ → ℕ → ℕ) (b n : ℕ) (x : ℤ) → ((d : ℕ) → round 0 d ≡ 0) →
    signed (neg_ℤ x) (round (b * nat_abs (neg_ℤ x)) n) ≡ neg_ℤ (signed x (round (b * nat_abs x) n))
component_reversed round b n x none =
    ap (λ (m : ℕ). signed (neg_ℤ x) (round (b * m) n)) (neg_size x)
    ∙ signed_reversed x (round (b * nat_abs x) n) (λ e. ap (λ (m : ℕ). round m n) (nothing e) ∙ none n)
  where
    nothing : x ≡ pos 0 → b * nat_abs x ≡ 0
    nothing e = rw e (omega arith)

nearest_none : (d : ℕ) → nearest 0 d ≡ 0
nearest_none zero = refl
nearest_none (suc k) = let below = div_below (2 * 0 + suc k) (2 * suc k) 1 (omega arith) (omega arith) in omega arith

ceiling_none : (d : ℕ) → ceiling 0 d ≡ 0
ceiling_none zero = refl
ceiling_none (suc k) = let below = div_below (0 + (suc k - 1)) (suc k) 1 (omega arith) (omega arith) in omega arith

-- ---- vectors turned
-- the impulse whose exact components are b x / n and b y / n
abbrev pub of_parts : (ℕ → ℕ → ℕ) → Vector → ℕ → ℕ → Vector
of_parts round r b n = with_signs r (round (b * nat_abs r.x) n) (round (b * nat_abs r.y) n)

pub record IsTurn (turn : Vector → Vector) : Type 0 where
  pub dots : (a b : Vector) → dot (turn a) (turn b) ≡ dot a b
  pub sums : (a b : Vector) → sum (turn a) (turn b) ≡ turn (sum a b)
  pub parts : (round : ℕ → ℕ → ℕ) → ((d : ℕ) → round 0 d ≡ 0) → (r : Vector) (b n : ℕ) → of_parts round (turn r) b n ≡ turn (of_parts round r b n)

module _ (turn : Vector → Vector) (is : IsTurn turn) where
  approaching_turned : (r u : Vector) (distance : ℤ) →
      (IsApproaching r u distance → IsApproaching (turn r) (turn u) distance) × (IsApproaching (turn r) (turn u) distance → IsApproaching r u distance)
  approaching_turned r u distance = (
    λ h. record {
      apart = subst (λ (n : ℤ). pos 0 ≤ℤ (n -ℤ (distance *ℤ distance))) (sym (is.dots r r)) h.apart;
      approaching = subst (λ (n : ℤ). n <ℤ pos 0) (sym (is.dots r u)) h.approaching;
    },
    λ h. record {
      apart = subst (λ (n : ℤ). pos 0 ≤ℤ (n -ℤ (distance *ℤ distance))) (is.dots r r) h.apart;
      approaching = subst (λ (n : ℤ). n <ℤ pos 0) (is.dots r u) h.approaching;
    },
  )

  pub contact_turned : (r u : Vector) (distance : ℤ) → IsContact r u distance → IsContact (turn r) (turn u) distance
  contact_turned r u distance h = record {
    approaching = (approaching_turned r u distance).0 h.approaching;
    crossing = crosses _ _ _ _ _ _ (distance *ℤ distance) (is.dots u u) (is.dots r u) (is.dots r r) h.crossing;
    last = λ next. h.last ((approaching_turned (sum r u) u distance).1 (subst (λ (p : Vector). IsApproaching p (turn u) distance) (is.sums r u) next));
  }
    where
      crosses : (a b c a' b' c' d : ℤ) → a' ≡ a → b' ≡ b → c' ≡ c → (a *ℤ (c -ℤ d)) <ℤ (b *ℤ b) → (a' *ℤ (c' -ℤ d)) <ℤ (b' *ℤ b')
      crosses a b c a' b' c' d p q t h = rw (p, q, t) h

  rounded_turned : (round : ℕ → ℕ → ℕ) (r u : Vector) → ((d : ℕ) → round 0 d ≡ 0) → rounded_impulse round (turn r) (turn u) ≡ turn (rounded_impulse round r u)
  rounded_turned round r u none =
      (λ i. of_parts round (turn r) (nat_abs (is.dots r u i)) (nat_abs (is.dots r r i)))
      ∙ is.parts round none r (nat_abs (dot r u)) (nat_abs (dot r r))

  pub impulse_turned : (r u : Vector) → impulse_of (turn r) (turn u) ≡ turn (impulse_of r u)
  impulse_turned r u =
      let near = rounded_turned nearest r u nearest_none in
      let more = rounded_turned ceiling r u ceiling_none in
      let n = rounded_impulse nearest r u in
      let test : parting (turn r) (turn u) (rounded_impulse nearest (turn r) (turn u)) ≡ parting r u n =
      ap (parting (turn r) (turn u)) near ∙ (λ i. is.dots r u i +ℤ (pos 2 *ℤ is.dots r n i)) in
      (λ i. if int_lt (pos 0) (test i) then near i else more i)
      ∙ chosen (int_lt (pos 0) (parting r u n)) n (rounded_impulse ceiling r u)
    where
      chosen : (p : Bool) (m n : Vector) → (if p then turn m else turn n) ≡ turn (if p then m else n)
      chosen true m n = refl
      chosen false m n = refl
