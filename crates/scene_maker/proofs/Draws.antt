-- The states of the generator, one after another, and the components that they give.
use Rattle.std.proofs.Common.{◌≡◌, ◌∙◌, ap, refl, ℕ, zero, suc, ◌+◌, ◌*◌, ◌/◌, ◌%◌, ◌^◌, ◌≤◌, ℤ, pos, nat_abs, ◌-ℤ◌, FitsSigned, to_z, of_z, w64, arith}
use Rattle.std.proofs.lemmas.Int.{ints}
use Rattle.std.proofs.Math.Nat.{mod-add-mod}
use Rattle.plane_vectors.proofs.Sizes.{sent, sent_same}
use Rattle.fixed_motion.specs.declared.disk.Disk.{Disk}
use Rattle.scene_maker.specs.Made.{state_after, drawn, made_disk}

-- the state that the code computes
pub next_state : (state : ℕ) → (state * 6364136223846793005 % 2 ^ 64 + 1442695040888963407) % 2 ^ 64 ≡ state_after state 1
unfolding state_after
next_state state =
    mod-add-mod (state * 6364136223846793005) (2 ^ 64) 1442695040888963407
    ∙ ap (λ n. n % 2 ^ 64) (omega arith)

-- the draws from a state that has had some
pub state_later : (number draws more : ℕ) → state_after (state_after number draws) more ≡ state_after number (draws + more)
unfolding state_after
state_later number draws zero = ap (state_after number) (omega arith)
state_later number draws (suc more) =
    ap (λ n. (6364136223846793005 * n + 1442695040888963407) % 2 ^ 64) (state_later number draws more)
    ∙ ap (state_after number) (the_next draws more)
  where
    the_next : (m n : ℕ) → suc (m + n) ≡ m + suc n
    the_next m n = omega arith

pub drawn_size : (number draws : ℕ) → nat_abs (drawn number draws) ≤ 64
drawn_size number draws = omega (arith, ints)

-- the component that the code computes of the next state
pub next_component : (state next : ℕ) → next ≡ state_after state 1 →
    to_z w64 (of_z w64 (to_z w64 (next / 2 ^ 32 % 129) -ℤ pos 64)) ≡ drawn state 1
next_component state next e = rw e (omega (arith, ints))

pub none_drawn : (number : ℕ) → number ≡ state_after number (2 * 0)
unfolding state_after
none_drawn number = refl

pub two_more_draws : (number index state next : ℕ) → state ≡ state_after number (2 * index) → next ≡ state_after state 2 →
    next ≡ state_after number (2 * (index + 1))
two_more_draws number index state next e f =
    f ∙ ap (λ s. state_after s 2) e ∙ state_later number (2 * index) 2 ∙ ap (state_after number) (omega arith)

drawn_later : (number draws more : ℕ) → drawn (state_after number draws) more ≡ drawn number (draws + more)
drawn_later number draws more = ap (λ s. pos (s / 2 ^ 32 % 129) -ℤ pos 64) (state_later number draws more)

sent_drawn : (number draws : ℕ) → sent (drawn number draws) ≡ drawn number draws
sent_drawn number draws = omega (arith, ints)

-- a disk at the start, of the diameter of all
abbrev pub disk : ℤ → ℤ → ℤ → ℤ → Disk
disk x y vx vy = record { x = x; y = y; vx = vx; vy = vy; size = pos 1024; base = 0; mark = 0 }

-- the disk that the code makes from two draws after those of the disks before it
pub disk_drawn : (number side index state next : ℕ) (x y vx vy : ℤ) →
    x ≡ pos (1024 + 2048 * (index % side)) → y ≡ pos (1024 + 2048 * (index / side)) →
    state ≡ state_after number (2 * index) → next ≡ state_after state 1 → vx ≡ drawn state 1 → vy ≡ drawn next 1 →
    FitsSigned w64 x → FitsSigned w64 y →
    disk (sent x) (sent y) (sent vx) (sent vy) ≡ made_disk number side index
disk_drawn number side index state next x y vx vy ex ey es en evx evy fx fy =
    let first : vx ≡ drawn number (2 * index + 1) =
    evx ∙ ap (λ s. drawn s 1) es ∙ drawn_later number (2 * index) 1 in
    let second : vy ≡ drawn number (2 * index + 2) =
    evy ∙ ap (λ s. drawn s 1) (en ∙ ap (λ s. state_after s 1) es ∙ state_later number (2 * index) 1)
    ∙ drawn_later number (2 * index + 1) 1
    ∙ ap (drawn number) (omega arith) in
    let a : sent x ≡ pos (1024 + 2048 * (index % side)) = sent_same x fx ∙ ex in
    let b : sent y ≡ pos (1024 + 2048 * (index / side)) = sent_same y fy ∙ ey in
    let c : sent vx ≡ drawn number (2 * index + 1) = rw first (sent_drawn number (2 * index + 1)) in
    let d : sent vy ≡ drawn number (2 * index + 2) = rw second (sent_drawn number (2 * index + 2)) in
    λ i. disk (a i) (b i) (c i) (d i)
