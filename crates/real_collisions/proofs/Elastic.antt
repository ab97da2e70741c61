-- The exact impulse reverses the speed along r, and keeps the size of the relative velocity.
use Rattle.std.proofs.Common.{◌≡◌, sym, ap, ◌∙◌, arith}
use Rattle.std.specs.Prelude.{ℤ, pos, neg_ℤ, ◌+ℤ◌, ◌-ℤ◌, ◌*ℤ◌}
use Rattle.std.proofs.lemmas.Int.{ints}
use Rattle.std.proofs.Math.IntN.{*ℤ_comm}
use Rattle.plane_vectors.specs.declared.Vector.{Vector}
use Rattle.plane_vectors.specs.Vectors.{difference, dot}
use Rattle.plane_vectors.proofs.Products.{distributes}
use Rattle.real_collisions.specs.Elastic.{scaled, after_exact, ExactImpulsesAreElastic}
use Rattle.real_collisions.proofs.Numbers.{times_times, times_across, times_minus, times_negative}

-- ---- scalar products
dot_comm : (v w : Vector) → dot v w ≡ dot w v
dot_comm v w = λ i. *ℤ_comm v.x w.x i +ℤ *ℤ_comm v.y w.y i

dot_times : (v w : Vector) (k : ℤ) → dot v (scaled k w) ≡ k *ℤ dot v w
dot_times v w k =
    let x = across v.x w.x in
    let y = across v.y w.y in
    let whole = *ℤ_comm k (dot v w) ∙ distributes (v.x *ℤ w.x) (v.y *ℤ w.y) k in
    omega (arith, ints)
  where
    across : (x y : ℤ) → x *ℤ (k *ℤ y) ≡ (x *ℤ y) *ℤ k
    across x y = sym (times_times x k y) ∙ times_across x k y

dot_difference : (v p q : Vector) → dot v (difference p q) ≡ dot v p -ℤ dot v q
dot_difference v p q =
    let x = times_minus v.x p.x q.x in
    let y = times_minus v.y p.y q.y in
    omega (arith, ints)

-- ---- the relative velocity after the exact impulse
dot_after : (v r u : Vector) → dot v (after_exact r u) ≡ (dot r r *ℤ dot v u) -ℤ ((pos 2 *ℤ dot r u) *ℤ dot v r)
dot_after v r u =
    dot_difference v (scaled (dot r r) u) (scaled (pos 2 *ℤ dot r u) r)
    ∙ (λ i. dot_times v u (dot r r) i -ℤ dot_times v r (pos 2 *ℤ dot r u) i)

turned_of : (n b : ℤ) → (n *ℤ b) -ℤ ((pos 2 *ℤ b) *ℤ n) ≡ neg_ℤ (n *ℤ b)
turned_of n b =
    let twice = times_times (pos 2) b n in
    let swapped = *ℤ_comm b n in
    omega (arith, ints)

kept_of : (n b a : ℤ) → (n *ℤ ((n *ℤ a) -ℤ ((pos 2 *ℤ b) *ℤ b))) -ℤ ((pos 2 *ℤ b) *ℤ neg_ℤ (n *ℤ b)) ≡ (n *ℤ n) *ℤ a
kept_of n b a =
    let outer = times_minus n (n *ℤ a) ((pos 2 *ℤ b) *ℤ b) in
    let square = times_times n n a in
    let turned = times_negative (pos 2 *ℤ b) (n *ℤ b) in
    let same : (pos 2 *ℤ b) *ℤ (n *ℤ b) ≡ n *ℤ ((pos 2 *ℤ b) *ℤ b) =
    sym (times_times (pos 2 *ℤ b) n b) ∙ ap (λ (z : ℤ). z *ℤ b) (*ℤ_comm (pos 2 *ℤ b) n) ∙ times_times n (pos 2 *ℤ b) b in
    omega (arith, ints)

pub exact_impulses_are_elastic : ExactImpulsesAreElastic
exact_impulses_are_elastic r u =
    let n = dot r r in
    let b = dot r u in
    let w = after_exact r u in
    let turned : dot r w ≡ neg_ℤ (n *ℤ b) = dot_after r r u ∙ turned_of n b in
    let along : dot w u ≡ (n *ℤ dot u u) -ℤ ((pos 2 *ℤ b) *ℤ b) =
    dot_comm w u ∙ dot_after u r u ∙ (λ i. (n *ℤ dot u u) -ℤ ((pos 2 *ℤ b) *ℤ dot_comm u r i)) in
    let back : dot w r ≡ neg_ℤ (n *ℤ b) = dot_comm w r ∙ turned in
    record {
      turned = turned;
      energy = dot_after w r u ∙ (λ i. (n *ℤ along i) -ℤ ((pos 2 *ℤ b) *ℤ back i)) ∙ kept_of n b (dot u u);
    }
