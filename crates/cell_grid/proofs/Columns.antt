-- The bounds of a column of cells.
use Rattle.std.proofs.Common.{◌≡◌, ◌↔◌, inl, inr, ℕ, ◌+◌, ◌-◌, ◌*◌, ◌/◌, ◌^◌, ◌<◌, ◌≤◌, ◌∙◌, min, ap, arith}
use Rattle.std.specs.Prelude.{ℤ, pos, negsuc, nat_abs, ◌≤ℤ◌}
use Rattle.std.proofs.lemmas.Int.{ints}
use Rattle.std.proofs.lemmas.Bool.{cases_lt}
use Rattle.std.proofs.Math.Nat.{mul-le-mul, le-div_iff_mul-le}
use Rattle.plane_vectors.proofs.Sizes.{sent, sent_same}
use Rattle.contact_predictor.specs.Contact.{IsBetween}
use Rattle.cell_grid.specs.Leaving.{AreOfColumn, AreSmall}
use Rattle.cell_grid.proofs.Courses.{bounds}

-- a column and what is before it fit in the box
room_after : (side count index : ℕ) → index < count → count * side ≤ 2 ^ 30 → index * side + side ≤ 2 ^ 30
room_after side count index within size =
    let more : index + 1 ≤ count = omega arith in
    let same : side ≤ side = omega arith in
    let room : (index + 1) * side ≤ count * side = mul-le-mul more same in
    omega arith

pub quotient_is : (side index n : ℕ) → 1 ≤ side →
    ((index * side ≤ n) × (n < index * side + side)) ↔ (n / side ≡ index)
quotient_is side index n some =
    let p = le-div_iff_mul-le {k = side} {x = index} {y = n} (omega arith) in
    let q = le-div_iff_mul-le {k = side} {x = index + 1} {y = n} (omega arith) in
    (λ h. from p.1 q.0 h.0 h.1, λ e. (p.0 (omega arith), past q.1 e))
  where
    from : (index * side ≤ n → index ≤ n / side) → (index + 1 ≤ n / side → (index + 1) * side ≤ n) →
        index * side ≤ n → n < index * side + side → n / side ≡ index
    from up over low high =
        let least : index ≤ n / side = up low in
        elim (cases_lt index (n / side)) [
          | inl lt ↦ absurd (let far : (index + 1) * side ≤ n = over (omega arith) in omega arith)
          | inr le ↦ omega arith
        ]

    past : ((index + 1) * side ≤ n → index + 1 ≤ n / side) → n / side ≡ index → n < index * side + side
    past over e = elim (cases_lt n (index * side + side)) [
      | inl lt ↦ lt
      | inr le ↦ absurd (let far : index + 1 ≤ n / side = over (omega arith) in omega arith)
    ]

inner_is : (side count index n : ℕ) → 1 ≤ side → index + 1 < count →
    ((index * side ≤ n) × (n < index * side + side)) ↔ (min (n / side) (count - 1) ≡ index)
inner_is side count index n some inner =
    let q = quotient_is side index n some in
    (λ h. let e : n / side ≡ index = q.0 h in omega arith, λ e. q.1 (omega arith))

last_is : (side count index n : ℕ) → 1 ≤ side → index < count → count ≤ index + 1 →
    (index * side ≤ n) ↔ (min (n / side) (count - 1) ≡ index)
last_is side count index n some within last =
    let p = le-div_iff_mul-le {k = side} {x = index} {y = n} (omega arith) in
    (λ h. let low : index ≤ n / side = p.1 h in omega arith, λ e. p.0 (omega arith))

small_pos : (m : ℕ) → m ≤ 2 ^ 30 → sent (pos m) ≡ pos m
small_pos m h = sent_same (pos m) (omega (arith, ints))

-- the bounds as the code computes them
record IsInner (side index : ℕ) (least greatest : ℤ) : Type 0 where
  pub low : sent least ≡ pos (index * side)
  pub high : sent greatest ≡ pos (index * side + side - 1)
  pub room : index * side + side ≤ 2 ^ 30

inner_bounds : (side count index : ℕ) (least greatest : ℤ) → index + 1 < count → count * side ≤ 2 ^ 30 →
    least ≡ pos (index * side) → greatest ≡ pos (index * side + side - 1) → IsInner side index least greatest
inner_bounds side count index least greatest inner size el eg =
    let room = room_after side count index (omega arith) size in
    record {
      low = ap sent el ∙ small_pos (index * side) (omega arith);
      high = ap sent eg ∙ small_pos (index * side + side - 1) (omega arith);
      room = room;
    }

-- a column that isn't the last
pub column_bounds : (side count index : ℕ) (least greatest : ℤ) → 1 ≤ side → index + 1 < count →
    count * side ≤ 2 ^ 30 → least ≡ pos (index * side) → greatest ≡ pos (index * side + side - 1) →
    AreOfColumn side count index (bounds (sent least) (sent greatest))
column_bounds side count index least greatest some inner size el eg =
    let is = inner_bounds side count index least greatest inner size el eg in
    rw (is.low, is.high) (λ n in_box. within n in_box.0)
  where
    within : (n : ℤ) → pos 0 ≤ℤ n → IsBetween (pos (index * side)) (pos (index * side + side - 1)) n
        ↔ (min (nat_abs n / side) (count - 1) ≡ index)
    within (pos n) h =
        let q = inner_is side count index n some inner in (
          λ b. q.0 (let low = b.0 in let high = b.1 in (omega (arith, ints), omega (arith, ints))),
          λ e. let b = q.1 e in let low = b.0 in let high = b.1 in (omega (arith, ints), omega (arith, ints)),
        )
    within (negsuc n) h = absurd (omega (arith, ints))

pub column_small : (side count index : ℕ) (least greatest : ℤ) → 1 ≤ side → index + 1 < count →
    count * side ≤ 2 ^ 30 → least ≡ pos (index * side) → greatest ≡ pos (index * side + side - 1) →
    AreSmall (bounds (sent least) (sent greatest))
column_small side count index least greatest some inner size el eg =
    let is = inner_bounds side count index least greatest inner size el eg in
    let room = is.room in
    rw (is.low, is.high) (record { least = omega (arith, ints); greatest = omega (arith, ints) })

-- the last column goes up to the side of the box
pub last_bounds : (side count index : ℕ) (least : ℤ) → 1 ≤ side → index < count → count ≤ index + 1 →
    count * side ≤ 2 ^ 30 → least ≡ pos (index * side) →
    AreOfColumn side count index (bounds (sent least) (pos 1073741824))
last_bounds side count index least some within last size el =
    let room = room_after side count index within size in
    let low : sent least ≡ pos (index * side) = ap sent el ∙ small_pos (index * side) (omega arith) in
    rw low (λ n in_box. held n in_box.0 in_box.1)
  where
    held : (n : ℤ) → pos 0 ≤ℤ n → n ≤ℤ pos 1073741824 →
        IsBetween (pos (index * side)) (pos 1073741824) n ↔ (min (nat_abs n / side) (count - 1) ≡ index)
    held (pos n) h most =
        let q = last_is side count index n some within last in (
          λ b. q.0 (let low = b.0 in omega (arith, ints)),
          λ e. (let low = q.1 e in omega (arith, ints), most),
        )
    held (negsuc n) h most = absurd (omega (arith, ints))
