-- How the exact impulse changes within a tick, and how near a rounded one stays to it.
use Rattle.std.proofs.Common.{◌≡◌, ℕ, ◌+◌, ◌*◌, ◌<◌, ◌≤◌, arith}
use Rattle.std.specs.Prelude.{ℤ, ◌+ℤ◌, ◌-ℤ◌, ◌*ℤ◌}
use Rattle.std.proofs.Math.Nat.{mul-le-mul, mul-le-mul_left, le_of_mul-le-mul_left}
use Rattle.impulse_rounding.proofs.Energy.{root_le}
use Rattle.plane_vectors.proofs.Ring.{of, sum_of, less_of, times_of, same_of}

-- ---- identities
pub lagrange : (x y u v : ℤ) → (((x *ℤ v) -ℤ (y *ℤ u)) *ℤ ((x *ℤ v) -ℤ (y *ℤ u))) +ℤ (((x *ℤ u) +ℤ (y *ℤ v)) *ℤ ((x *ℤ u) +ℤ (y *ℤ v)))
    ≡ ((x *ℤ x) +ℤ (y *ℤ y)) *ℤ ((u *ℤ u) +ℤ (v *ℤ v))
lagrange x y u v = rw (of x, of y, of u, of v) (simp (times_of, sum_of, less_of) (same_of _ _ _ _ (omega arith)))

-- (q·u) q = (q·q) u + (q×u) times q turned
pub turned_x : (x y u v : ℤ) → ((x *ℤ u) +ℤ (y *ℤ v)) *ℤ x ≡ (((x *ℤ x) +ℤ (y *ℤ y)) *ℤ u) +ℤ (y *ℤ ((x *ℤ v) -ℤ (y *ℤ u)))
turned_x x y u v = rw (of x, of y, of u, of v) (simp (times_of, sum_of, less_of) (same_of _ _ _ _ (omega arith)))

pub turned_y : (x y u v : ℤ) → ((x *ℤ u) +ℤ (y *ℤ v)) *ℤ y ≡ (((x *ℤ x) +ℤ (y *ℤ y)) *ℤ v) -ℤ (x *ℤ ((x *ℤ v) -ℤ (y *ℤ u)))
turned_y x y u v = rw (of x, of y, of u, of v) (simp (times_of, sum_of, less_of) (same_of _ _ _ _ (omega arith)))

-- (r w + u p)×u = (r×u) w
pub cross_later : (x y u v w p : ℤ) → (((x *ℤ w) +ℤ (u *ℤ p)) *ℤ v) -ℤ (((y *ℤ w) +ℤ (v *ℤ p)) *ℤ u) ≡ ((x *ℤ v) -ℤ (y *ℤ u)) *ℤ w
cross_later x y u v w p = rw (of x, of y, of u, of v, of w, of p) (simp (times_of, sum_of, less_of) (same_of _ _ _ _ (omega arith)))

-- the difference of two exact impulses as a product with c = r×u
pub product_x : (m n u r c q w : ℤ) → (m *ℤ ((n *ℤ u) +ℤ (r *ℤ c))) -ℤ (n *ℤ ((m *ℤ u) +ℤ (q *ℤ (c *ℤ w)))) ≡ c *ℤ ((m *ℤ r) -ℤ ((n *ℤ w) *ℤ q))
product_x m n u r c q w =
    rw (of m, of n, of u, of r, of c, of q, of w) (simp (times_of, sum_of, less_of) (same_of _ _ _ _ (omega arith)))

pub product_y : (m n u r c q w : ℤ) → (m *ℤ ((n *ℤ u) -ℤ (r *ℤ c))) -ℤ (n *ℤ ((m *ℤ u) -ℤ (q *ℤ (c *ℤ w)))) ≡ c *ℤ (((n *ℤ w) *ℤ q) -ℤ (m *ℤ r))
product_y m n u r c q w =
    rw (of m, of n, of u, of r, of c, of q, of w) (simp (times_of, sum_of, less_of) (same_of _ _ _ _ (omega arith)))

-- the square of m r - n w q by its parts
pub square_parts : (m k x y z t : ℤ) →
    (((m *ℤ y) -ℤ (k *ℤ t)) *ℤ ((m *ℤ y) -ℤ (k *ℤ t))) +ℤ (((k *ℤ z) -ℤ (m *ℤ x)) *ℤ ((k *ℤ z) -ℤ (m *ℤ x)))
    ≡ (((k *ℤ k) *ℤ ((z *ℤ z) +ℤ (t *ℤ t))) +ℤ ((m *ℤ m) *ℤ ((x *ℤ x) +ℤ (y *ℤ y)))) -ℤ (((k *ℤ m) +ℤ (k *ℤ m)) *ℤ ((z *ℤ x) +ℤ (t *ℤ y)))
square_parts m k x y z t =
    rw (of m, of k, of x, of y, of z, of t) (simp (times_of, sum_of, less_of) (same_of _ _ _ _ (omega arith)))

pub factors : (m n w s : ℤ) → ((((n *ℤ w) *ℤ (n *ℤ w)) *ℤ m) +ℤ ((m *ℤ m) *ℤ n)) -ℤ ((((n *ℤ w) *ℤ m) +ℤ ((n *ℤ w) *ℤ m)) *ℤ s)
    ≡ (n *ℤ m) *ℤ ((m +ℤ ((w *ℤ w) *ℤ n)) -ℤ ((w +ℤ w) *ℤ s))
factors m n w s = rw (of m, of n, of w, of s) (simp (times_of, sum_of, less_of) (same_of _ _ _ _ (omega arith)))

-- q - w r, squared
pub way_square : (x y z t w : ℤ) → (((z *ℤ z) +ℤ (t *ℤ t)) +ℤ ((w *ℤ w) *ℤ ((x *ℤ x) +ℤ (y *ℤ y)))) -ℤ ((w +ℤ w) *ℤ ((z *ℤ x) +ℤ (t *ℤ y)))
    ≡ ((z -ℤ (x *ℤ w)) *ℤ (z -ℤ (x *ℤ w))) +ℤ ((t -ℤ (y *ℤ w)) *ℤ (t -ℤ (y *ℤ w)))
way_square x y z t w = rw (of x, of y, of z, of t, of w) (simp (times_of, sum_of, less_of) (same_of _ _ _ _ (omega arith)))

-- n times an impulse's distance from the exact one at q
pub shared : (m n j b r k q : ℤ) → n *ℤ ((m *ℤ j) +ℤ (k *ℤ q)) ≡ (m *ℤ ((n *ℤ j) +ℤ (b *ℤ r))) -ℤ ((m *ℤ b) *ℤ r -ℤ ((n *ℤ k) *ℤ q))
shared m n j b r k q =
    rw (of m, of n, of j, of b, of r, of k, of q) (simp (times_of, sum_of, less_of) (same_of _ _ _ _ (omega arith)))

-- r×J from what J misses
pub cross_missed : (n b x y z t : ℤ) → n *ℤ ((x *ℤ t) -ℤ (y *ℤ z)) ≡ (x *ℤ ((n *ℤ t) +ℤ (b *ℤ y))) -ℤ (y *ℤ ((n *ℤ z) +ℤ (b *ℤ x)))
cross_missed n b x y z t =
    rw (of n, of b, of x, of y, of z, of t) (simp (times_of, sum_of, less_of) (same_of _ _ _ _ (omega arith)))

-- ---- sizes
-- D c v is at most A N M
pub product_bound : (d w p a n m c v : ℕ) → c * c ≤ n * a → v * v ≤ (n * m) * ((p * p) * a) → p ≤ w → (d * w) * (d * w) ≤ m →
    d * (c * v) ≤ a * (n * m)
product_bound d w p a n m c v hc hv le far = root_le (d * (c * v)) (a * (n * m)) (squares)
  where
    way : (d * p) * (d * p) ≤ m
    way = let one : d * p ≤ d * w = mul-le-mul_left d le in let two : (d * p) * (d * p) ≤ (d * w) * (d * w) = mul-le-mul one one in omega arith

    squares : (d * (c * v)) * (d * (c * v)) ≤ (a * (n * m)) * (a * (n * m))
    squares =
        let both : (c * c) * (v * v) ≤ (n * a) * ((n * m) * ((p * p) * a)) = mul-le-mul hc hv in
        let most : (d * d) * ((c * c) * (v * v)) ≤ (d * d) * ((n * a) * ((n * m) * ((p * p) * a))) = mul-le-mul_left (d * d) both in
        let last : ((a * n) * (a * n) * m) * ((d * p) * (d * p)) ≤ ((a * n) * (a * n) * m) * m = mul-le-mul_left ((a * n) * (a * n) * m) way in
        omega arith

-- from n e ≤ m f + g with D g ≤ a n m
pub shared_bound : (d a n m e f g : ℕ) → 0 < n → n * e ≤ m * f + g → f ≤ n → d * g ≤ a * (n * m) → d * e ≤ (d + a) * m
shared_bound d a n m e f g some h hf hg =
    let first : m * f ≤ m * n = mul-le-mul_left m hf in
    let both : d * (n * e) ≤ d * (m * n + g) = mul-le-mul_left d (omega arith) in
    let whole : n * (d * e) ≤ n * ((d + a) * m) = omega arith in
    le_of_mul-le-mul_left whole some

pub shared_half : (d a n m e f g : ℕ) → 0 < n → n * e ≤ m * f + g → 2 * f ≤ n → d * g ≤ a * (n * m) → 2 * (d * e) ≤ (d + 2 * a) * m
shared_half d a n m e f g some h hf hg =
    let first : m * (2 * f) ≤ m * n = mul-le-mul_left m hf in
    let both : d * (2 * (n * e)) ≤ d * (m * n + 2 * g) = mul-le-mul_left d (omega arith) in
    let whole : n * (2 * (d * e)) ≤ n * ((d + 2 * a) * m) = omega arith in
    le_of_mul-le-mul_left whole some
