-- The events of a tick leave all disks where they are.
use Rattle.std.proofs.Common.{◌≡◌, inl, inr, ℕ, ◌+◌, ◌<◌, ◌≤◌, List, [], ◌∷◌, length, sym, ap, ◌∙◌, subst, refl, arith, Option, Some, None, Ok, slice_get, slice_set, get_or}
use Rattle.std.proofs.lemmas.Option.{same_Some, slice_get_within, slice_get-get_or}
use Rattle.fixed_motion.specs.declared.rules.Rules.{Rules}
use Rattle.fixed_motion.specs.declared.disk.Disk.{Disk}
use Rattle.fixed_motion.specs.Motion.{place_of}
use Rattle.event_stamps.specs.declared.Stamp.{Stamp}
use Rattle.event_rules.specs.declared.change.Change.{Change}
use Rattle.event_rules.specs.declared.outcome.Outcome.{Outcome}
use Rattle.event_rules.specs.Run.{Runs, IsCandidate, ComesTo, effect, set_some, state_at}
use Rattle.event_rules.specs.Moments.{NeverJumps}
use Rattle.event_rules.proofs.Apart.{KeepsPlace, KeepPlaces, wall_keeps, pair_keeps, none_before_after, state_before, state_after, after_or_not}
use Rattle.event_rules.proofs.Ran.{ran, length-effect}
use Rattle.event_rules.proofs.States.{get_set}

-- a disk of one state and one of the other are at one place at the tick, and equally large
abbrev IsKept : ℕ → Disk → Disk → Type 0
IsKept tick a b = (place_of b tick ≡ place_of a tick) × (b.size ≡ a.size)

AreKept : ℕ → List Disk → List Disk → Type 0
AreKept tick xs ys = (i : ℕ) (a b : Disk) → slice_get xs i ≡ Some a → slice_get ys i ≡ Some b → IsKept tick a b

none_moved : (tick : ℕ) (xs : List Disk) → AreKept tick xs xs
unfolding AreKept
none_moved tick xs i a b at other = subst (IsKept tick a) (same_Some a b (sym at ∙ other)) (refl, refl)

set_kept : (tick : ℕ) (xs ys : List Disk) (j : ℕ) (v : Disk) → AreKept tick xs ys → KeepsPlace xs tick j v →
    AreKept tick xs (slice_set ys j v)
unfolding AreKept
set_kept tick xs ys j v kept keeps i a b at other = elim (get_set ys j i v b other) [
  | inl same ↦
      let old : keeps.old ≡ a = same_Some keeps.old a (sym keeps.at ∙ ap (slice_get xs) (sym same.0) ∙ at) in
      subst (λ (d : Disk). IsKept tick d b) old (subst (IsKept tick keeps.old) (sym same.1) (keeps.place, keeps.size))
  | inr rest ↦ kept i a b at rest.1
]

set_some_kept : (tick : ℕ) (xs ys : List Disk) (j : ℕ) (o : Option Disk) → AreKept tick xs ys →
    ((d : Disk) → o ≡ Some d → KeepsPlace xs tick j d) → AreKept tick xs (set_some ys j o)
set_some_kept tick xs ys j None kept keeps = kept
set_some_kept tick xs ys j (Some d) kept keeps = set_kept tick xs ys j d kept (keeps d refl)

event_kept : (rules : Rules) (disks : List Disk) (c : Change) → IsCandidate rules disks c.stamp →
    ComesTo rules disks c.stamp (Ok c) → AreKept c.stamp.tick disks (effect disks c)
event_kept rules disks c candidate comes =
    let keep : KeepPlaces disks c = elim (ran rules disks c candidate comes) [
      | inl wall ↦ wall_keeps rules disks c wall
      | inr pair ↦ pair_keeps rules disks c pair
    ] in
    let tick = c.stamp.tick in
    set_some_kept tick disks (slice_set disks c.stamp.first c.first) c.stamp.second c.second
    (set_kept tick disks disks c.stamp.first c.first (none_moved tick disks) keep.first) keep.second

-- ---- runs
-- up to its first event a run has the state of the start
state_now : (rules : Rules) (disks : List Disk) (cs : List Change) (outcome : Outcome) (tick : ℕ) →
    ((t : Stamp) → IsCandidate rules disks t → tick ≤ t.tick) → Runs rules disks cs outcome → state_at disks cs tick ≡ disks
state_now rules disks [] outcome tick none run = refl
state_now rules disks (c ∷ cs) outcome tick none run = state_before disks c cs tick (none c.stamp run.0.0)

-- between these two states instead of two others that are the same
kept_of : (tick : ℕ) (xs ys vs ws : List Disk) → vs ≡ xs → ws ≡ ys → AreKept tick xs ys → AreKept tick vs ws
kept_of tick xs ys vs ws p q h = rw (p, q) h

then_kept : (tick : ℕ) (xs ys zs : List Disk) → AreKept tick xs ys → AreKept tick ys zs → length xs ≡ length ys → AreKept tick xs zs
unfolding AreKept
then_kept tick xs ys zs h k same i a c at last =
    let within : i < length ys = (let own = slice_get_within xs i a at in omega arith) in
    let middle = slice_get-get_or ys i a within in
    let one = h i a (get_or ys i a) at middle in
    let two = k i (get_or ys i a) c middle last in
    (two.0 ∙ one.0, two.1 ∙ one.1)

run_kept : (rules : Rules) (disks : List Disk) (cs : List Change) (outcome : Outcome) (tick : ℕ) → Runs rules disks cs outcome →
    AreKept tick (state_at disks cs tick) (state_at disks cs (tick + 1))
run_kept rules disks [] outcome tick run = none_moved tick disks
run_kept rules disks (c ∷ cs) outcome tick run = elim (after_or_not c.stamp.tick tick) [
  | inl earlier ↦ kept_of tick _ _ _ _ (state_after disks c cs tick earlier) (state_after disks c cs (tick + 1) (omega arith))
      (run_kept rules (effect disks c) cs outcome tick run.2)
  | inr le ↦ elim (after_or_not c.stamp.tick (tick + 1)) [
    | inl now ↦
        let same : c.stamp.tick ≡ tick = omega arith in
        let next = none_before_after rules disks c run.0 run.1 in
        let rest =
        kept_of tick _ _ _ _ (sym (state_now rules (effect disks c) cs outcome tick (λ t h. let from = next t h in omega arith) run.2)) refl
        (run_kept rules (effect disks c) cs outcome tick run.2) in
        kept_of tick _ _ _ _ (state_before disks c cs tick le) (state_after disks c cs (tick + 1) now)
        (then_kept tick disks (effect disks c) (state_at (effect disks c) cs (tick + 1))
        (subst (λ (n : ℕ). AreKept n disks (effect disks c)) same (event_kept rules disks c run.0.0 run.1)) rest (sym (length-effect disks c)))
    | inr later ↦ kept_of tick _ _ _ _ (state_before disks c cs tick le) (state_before disks c cs (tick + 1) later) (none_moved tick disks)
  ]
]

pub never_jumps : NeverJumps
unfolding AreKept
never_jumps scene changes outcome valid run tick = run_kept scene.rules scene.disks changes outcome tick run
