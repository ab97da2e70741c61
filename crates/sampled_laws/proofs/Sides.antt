-- What the sides took is what they turned.
use Rattle.std.proofs.Common.{◌≡◌, ◌∙◌, inl, inr, ◌⊎◌, ℕ, ◌+◌, ◌*◌, ◌^◌, ◌≤◌, Bool, true, false, if◌then◌else◌, ℤ, pos, neg_ℤ, nat_abs, ◌+ℤ◌, ◌-ℤ◌, ◌*ℤ◌, List, [], ◌∷◌, length, ap, sym, subst, arith}
use Rattle.std.specs.Prelude.{fold, ◌<ℤ◌, ◌≤ℤ◌}
use Rattle.std.proofs.lemmas.Int.{ints}
use Rattle.plane_vectors.specs.declared.Vector.{Vector}
use Rattle.plane_vectors.specs.Vectors.{vector, sum, difference, IsWithin}
use Rattle.contact_predictor.proofs.Approaching.{place_next}
use Rattle.fixed_motion.specs.declared.rules.Rules.{Rules}
use Rattle.fixed_motion.specs.declared.disk.Disk.{Disk}
use Rattle.fixed_motion.specs.Rules.{IsChecked}
use Rattle.fixed_motion.specs.Motion.{IsSize, centre_of, velocity_of, place_of, radius_of}
use Rattle.fixed_motion.proofs.Sizes.{radius_least, slow_size}
use Rattle.event_stamps.specs.declared.Stamp.{Stamp}
use Rattle.event_rules.specs.declared.change.Change.{Change}
use Rattle.event_rules.specs.declared.outcome.Outcome.{Outcome}
use Rattle.event_rules.specs.Events.{IsPast, IsWallTick}
use Rattle.event_rules.specs.Effect.{turned, moved, pushed, pushed_back, impulse_at}
use Rattle.event_rules.specs.Run.{Runs, IsValidState, effect}
use Rattle.event_rules.specs.Conservation.{turned_at, turned_by, velocity_at, RunsConserve}
use Rattle.event_rules.proofs.Fits.{change_fits}
use Rattle.event_rules.proofs.Ran.{RanWall, RanPair, ran, event_valid}
use Rattle.event_rules.proofs.Ranges.{starts_valid, few_events}
use Rattle.collision_sums.specs.declared.sums.Sums.{Sums}
use Rattle.collision_sums.specs.Sums.{no_sums, added, taken_of, has_middle_in_part, virial_of, after_pair, after_wall, after_change, is_away}
use Rattle.run_samples.specs.declared.sample.Sample.TheVariants.{Sums as Summed}
use Rattle.run_samples.specs.Samples.{sums_after}
use Rattle.sampled_laws.specs.Laws.{SidesTakeMomentum}
use Rattle.sampled_laws.proofs.Inside.{in_length}
use Rattle.sampled_laws.proofs.Small.{IsSmall, pair_count, step_small, none_small}

-- from some sums to others, what the left side and the bottom took, less what the right side and the top took, is what was turned
record IsTaken (s : Sums) (turned : Vector) (t : Sums) : Type 0 where
  pub x : ((turned.x +ℤ pos t.right) +ℤ pos s.left) ≡ (pos t.left +ℤ pos s.right)
  pub y : ((turned.y +ℤ pos t.top) +ℤ pos s.bottom) ≡ (pos t.bottom +ℤ pos s.top)

-- ---- a side
-- a disk within its side that is past it a tick later moves towards it
pub towards_least : (radius p v : ℤ) → radius ≤ℤ p → (p +ℤ v) <ℤ radius → v <ℤ pos 0
towards_least radius p v h k = omega (arith, ints)

pub towards_most : (most p v : ℤ) → p ≤ℤ most → most <ℤ (p +ℤ v) → pos 0 <ℤ v
towards_most most p v h k = omega (arith, ints)

pub added_is : (total n : ℕ) → total ≤ 2 ^ 112 → n ≤ 2 ^ 21 → added total n ≡ total + n
added_is total n h k = omega arith

pub twice_size : (v : ℤ) → nat_abs v ≤ 2 ^ 20 → taken_of (neg_ℤ v) ≤ 2 ^ 21
twice_size v h = omega (arith, ints)

-- the lower of two sides takes what is added, the upper what is taken off
lower_takes : (v : ℤ) (low high : ℕ) → v <ℤ pos 0 → nat_abs v ≤ 2 ^ 20 → low ≤ 2 ^ 112 →
    (((pos 2 *ℤ neg_ℤ v) +ℤ pos high) +ℤ pos low) ≡ (pos (added low (taken_of (neg_ℤ v))) +ℤ pos high)
lower_takes v low high h k small =
    exact v low high h ∙ ap (λ (n : ℕ). pos n +ℤ pos high) (sym (added_is low (taken_of (neg_ℤ v)) small (twice_size v k)))
  where
    exact : (v : ℤ) (low high : ℕ) → v <ℤ pos 0 →
        (((pos 2 *ℤ neg_ℤ v) +ℤ pos high) +ℤ pos low) ≡ (pos (low + 2 * nat_abs (neg_ℤ v)) +ℤ pos high)
    exact v low high h = omega (arith, ints)

upper_takes : (v : ℤ) (low high : ℕ) → pos 0 <ℤ v → nat_abs v ≤ 2 ^ 20 → high ≤ 2 ^ 112 →
    (((pos 2 *ℤ neg_ℤ v) +ℤ pos (added high (taken_of (neg_ℤ v)))) +ℤ pos low) ≡ (pos low +ℤ pos high)
upper_takes v low high h k small =
    ap (λ (n : ℕ). ((pos 2 *ℤ neg_ℤ v) +ℤ pos n) +ℤ pos low) (added_is high (taken_of (neg_ℤ v)) small (twice_size v k)) ∙ exact v low high h
  where
    exact : (v : ℤ) (low high : ℕ) → pos 0 <ℤ v →
        (((pos 2 *ℤ neg_ℤ v) +ℤ pos (high + 2 * nat_abs (neg_ℤ v))) +ℤ pos low) ≡ (pos low +ℤ pos high)
    exact v low high h = omega (arith, ints)

neither_takes : (low high : ℕ) → ((pos 0 +ℤ pos high) +ℤ pos low) ≡ (pos low +ℤ pos high)
neither_takes low high = omega (arith, ints)

-- room for one more
pub record HasRoom (s : Sums) : Type 0 where
  pub left : s.left ≤ 2 ^ 112
  pub right : s.right ≤ 2 ^ 112
  pub bottom : s.bottom ≤ 2 ^ 112
  pub top : s.top ≤ 2 ^ 112

pub has_room : (p w : ℕ) (s : Sums) → w ≤ 2 ^ 90 → IsSmall p w s → HasRoom s
has_room p w s h small =
    let left = small.left in let right = small.right in let bottom = small.bottom in let top = small.top in
    record { left = omega arith; right = omega arith; bottom = omega arith; top = omega arith }

-- at a side, by its number
abbrev IsTakenAt : Rules → Stamp → Disk → Sums → ℕ → Type 0
IsTakenAt rules s a sums side =
    let v = turned side (velocity_of a) in IsTaken sums (turned_at side v) (after_wall rules 0 sums side (moved s a v))

wall_takes : (rules : Rules) (s : Stamp) (a : Disk) (sums : Sums) → IsSize rules a.size → IsWithin (2 ^ 20) (velocity_of a) → HasRoom sums →
    IsWallTick rules a s.second s.tick → IsTakenAt rules s a sums s.second
wall_takes rules s a sums size slow room h = by_side h.past
  where
    p : Vector
    p = place_of a s.tick

    least : pos 1 ≤ℤ radius_of a
    least = radius_least rules a size

    upwards : is_away 0 rules.height p.y ≡ true
    upwards = in_length rules.height p.y (radius_of a) least h.inside.bottom h.inside.top

    across : is_away 0 rules.width p.x ≡ true
    across = in_length rules.width p.x (radius_of a) least h.inside.left h.inside.right

    next : place_of a (s.tick + 1) ≡ sum p (velocity_of a)
    next = place_next (centre_of a) (velocity_of a) a.base s.tick h.base

    by_side : IsPast rules a s.second (place_of a (s.tick + 1)) → IsTakenAt rules s a sums s.second
    by_side (inl left) =
        let v : a.vx <ℤ pos 0 = towards_least (radius_of a) p.x a.vx h.inside.left (subst (λ (q : Vector). q.x <ℤ radius_of a) next left.1) in
        subst (IsTakenAt rules s a sums) (sym left.0)
        (subst (λ (b : Bool). IsTaken sums (vector (pos 2 *ℤ neg_ℤ a.vx) (pos 0))
        (if b then record sums { walls = added sums.walls 1; left = added sums.left (taken_of (neg_ℤ a.vx)) } else sums)) (sym upwards)
        (record { x = lower_takes a.vx sums.left sums.right v slow.x room.left; y = neither_takes sums.bottom sums.top }))
    by_side (inr (inl right)) =
        let v : pos 0 <ℤ a.vx = towards_most (rules.width -ℤ radius_of a) p.x a.vx h.inside.right (subst (λ (q : Vector). (rules.width -ℤ radius_of a) <ℤ q.x) next right.1) in
        subst (IsTakenAt rules s a sums) (sym right.0)
        (subst (λ (b : Bool). IsTaken sums (vector (pos 2 *ℤ neg_ℤ a.vx) (pos 0))
        (if b then record sums { walls = added sums.walls 1; right = added sums.right (taken_of (neg_ℤ a.vx)) } else sums)) (sym upwards)
        (record { x = upper_takes a.vx sums.left sums.right v slow.x room.right; y = neither_takes sums.bottom sums.top }))
    by_side (inr (inr (inl bottom))) =
        let v : a.vy <ℤ pos 0 = towards_least (radius_of a) p.y a.vy h.inside.bottom (subst (λ (q : Vector). q.y <ℤ radius_of a) next bottom.1) in
        subst (IsTakenAt rules s a sums) (sym bottom.0)
        (subst (λ (b : Bool). IsTaken sums (vector (pos 0) (pos 2 *ℤ neg_ℤ a.vy))
        (if b then record sums { walls = added sums.walls 1; bottom = added sums.bottom (taken_of (neg_ℤ a.vy)) } else sums)) (sym across)
        (record { x = neither_takes sums.left sums.right; y = lower_takes a.vy sums.bottom sums.top v slow.y room.bottom }))
    by_side (inr (inr (inr top))) =
        let v : pos 0 <ℤ a.vy = towards_most (rules.height -ℤ radius_of a) p.y a.vy h.inside.top (subst (λ (q : Vector). (rules.height -ℤ radius_of a) <ℤ q.y) next top.1) in
        subst (IsTakenAt rules s a sums) (sym top.0)
        (subst (λ (b : Bool). IsTaken sums (vector (pos 0) (pos 2 *ℤ neg_ℤ a.vy))
        (if b then record sums { walls = added sums.walls 1; top = added sums.top (taken_of (neg_ℤ a.vy)) } else sums)) (sym across)
        (record { x = neither_takes sums.left sums.right; y = upper_takes a.vy sums.bottom sums.top v slow.y room.top }))

-- two disks take nothing
pair_takes : (rules : Rules) (sums : Sums) (v : Vector) (a b : Disk) → IsTaken sums (vector (pos 0) (pos 0)) (after_pair rules 0 sums v a b)
pair_takes rules sums v a b = by_test (has_middle_in_part rules 0 (centre_of a) (centre_of b))
  where
    by_test : (t : Bool) → IsTaken sums (vector (pos 0) (pos 0))
        (if t then record sums { pairs = added sums.pairs 1; virial = added sums.virial (virial_of v a b) } else sums)
    by_test true = record { x = neither_takes sums.left sums.right; y = neither_takes sums.bottom sums.top }
    by_test false = record { x = neither_takes sums.left sums.right; y = neither_takes sums.bottom sums.top }

-- ---- a run
event_takes : (rules : Rules) (disks : List Disk) (sums : Sums) (c : Change) → IsChecked rules → IsValidState rules disks → HasRoom sums →
    RanWall rules disks c ⊎ RanPair rules disks c → IsTaken sums (turned_by c) (after_change rules 0 disks sums c)
event_takes rules disks sums c checked state room event = elim event [
  | inl wall ↦
      let valid = state.valid c.stamp.first wall.disk wall.at in
      subst (λ (k : Change). IsTaken sums (turned_by k) (after_change rules 0 disks sums k)) (sym wall.change)
      (wall_takes rules c.stamp wall.disk sums valid.size (slow_size rules (velocity_of wall.disk) checked valid.velocity) room wall.event.0)
  | inr pair ↦
      let s = c.stamp in let j = impulse_at s.tick pair.first pair.second in
      subst (λ (k : Change). IsTaken sums (turned_by k) (after_change rules 0 disks sums k)) (sym pair.change)
      (pair_takes rules sums (velocity_at disks s.first) (pushed s pair.first j) (pushed_back s pair.second j))
]

nothing : (n : ℤ) (low high : ℕ) → (((n -ℤ n) +ℤ pos high) +ℤ pos low) ≡ (pos low +ℤ pos high)
nothing n low high = omega (arith, ints)

joined : (total start own : ℤ) (l r m s n t : ℕ) → ((own +ℤ pos s) +ℤ pos l) ≡ (pos m +ℤ pos r) →
    (((total -ℤ (start +ℤ own)) +ℤ pos t) +ℤ pos m) ≡ (pos n +ℤ pos s) → (((total -ℤ start) +ℤ pos t) +ℤ pos l) ≡ (pos n +ℤ pos r)
joined total start own l r m s n t h k = omega (arith, ints)

sides_from : (rules : Rules) (p w : ℕ) (disks : List Disk) (s : Sums) (start : Vector) (cs : List Change) (outcome : Outcome) → IsChecked rules →
    IsValidState rules disks → Runs rules disks cs outcome → IsSmall p w s → w + length cs ≤ 2 ^ 90 →
    IsTaken s (difference (fold (λ total c. sum total (turned_by c)) start cs) start) (sums_after (Summed 0) rules disks s cs)
sides_from rules p w disks s start [] outcome checked state run small few =
    record { x = nothing start.x s.left s.right; y = nothing start.y s.bottom s.top }
sides_from rules p w disks s start (c ∷ cs) outcome checked state run small few =
    let more = w + length (c ∷ cs) in
    let own = event_takes rules disks s c checked state (has_room p w s (omega arith) small) (ran rules disks c run.0.0 run.1) in
    let next = after_change rules 0 disks s c in
    let end = sums_after (Summed 0) rules (effect disks c) next cs in
    let turn = turned_by c in
    let total = fold (λ total c. sum total (turned_by c)) (sum start turn) cs in
    let rest = sides_from rules (p + pair_count c) (w + 1) (effect disks c) next (sum start turn) cs outcome checked
    (event_valid rules disks c state run.0.0 run.1) run.2
    (step_small rules 0 p w disks s c checked state (change_fits rules disks c state run.0.0 run.1) small) (omega arith) in
    record {
      x = joined total.x start.x turn.x s.left s.right next.left next.right end.left end.right own.x rest.x;
      y = joined total.y start.y turn.y s.bottom s.top next.bottom next.top end.bottom end.top own.y rest.y;
    }

pub sides_take_momentum_by : RunsConserve → SidesTakeMomentum
sides_take_momentum_by conserved scene changes spots valid run =
    let all = sides_from scene.rules 0 0 scene.disks no_sums (vector (pos 0) (pos 0)) changes _ valid.rules (starts_valid scene valid) run none_small
    (let few = few_events scene changes _ valid run in omega (arith, few)) in
    let end = (conserved scene changes spots valid run).momentum_at_end in
    (balanced _ _ _ _ _ (ap (λ (v : Vector). v.x) end) all.x, balanced _ _ _ _ _ (ap (λ (v : Vector). v.y) end) all.y)
  where
    balanced : (after before turn : ℤ) (low high : ℕ) → after ≡ (before +ℤ turn) → (((turn -ℤ pos 0) +ℤ pos high) +ℤ pos 0) ≡ (pos low +ℤ pos 0) →
        (after +ℤ pos high) ≡ (before +ℤ pos low)
    balanced after before turn low high h k = omega (arith, ints)
