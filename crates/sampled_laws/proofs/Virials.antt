-- The virial theorem, from tick to tick.
use Rattle.std.proofs.Common.{◌≡◌, ◌∙◌, ◌⊎◌, inl, inr, ℕ, zero, suc, ◌+◌, ◌*◌, ◌^◌, ◌<◌, ◌≤◌, ℤ, pos, ◌+ℤ◌, List, [], ◌∷◌, length, Option, Some, None, slice_get, slice_set, cond, ap, refl, sym, subst, arith}
use Rattle.std.specs.Prelude.{fold, is_some}
use Rattle.std.proofs.lemmas.Int.{ints}
use Rattle.std.proofs.Math.Nat.{mul-le-mul}
use Rattle.plane_vectors.specs.Vectors.{dot}
use Rattle.fixed_motion.specs.declared.rules.Rules.{Rules}
use Rattle.fixed_motion.specs.declared.disk.Disk.{Disk}
use Rattle.fixed_motion.specs.Rules.{IsChecked}
use Rattle.fixed_motion.specs.Motion.{centre_of}
use Rattle.fixed_motion.specs.Scene.{SceneData, IsValidScene}
use Rattle.event_stamps.specs.declared.Stamp.{Stamp}
use Rattle.event_rules.specs.declared.change.Change.{Change}
use Rattle.event_rules.specs.declared.outcome.Outcome.{Outcome}
use Rattle.event_rules.specs.Outcomes.{IsRecordOf, IsChangeOf}
use Rattle.event_rules.specs.Effect.{pushed, pushed_back, impulse_at}
use Rattle.event_rules.specs.Counts.{FewEventsOfAScene}
use Rattle.event_rules.specs.Run.{Runs, IsCandidate, IsValidState, effect, set_some, spots_of, state_at}
use Rattle.event_rules.specs.Conservation.{energy, turned_by, velocity_at}
use Rattle.event_rules.proofs.Apart.{after_or_not, none_before_after, state_after, state_before}
use Rattle.event_rules.proofs.Fits.{change_fits}
use Rattle.event_rules.proofs.Ran.{RanWall, RanPair, ran, event_valid, pair_valid}
use Rattle.event_rules.proofs.Ranges.{starts_valid, ticks, rounds}
use Rattle.event_rules.proofs.Rise.{candidate_before_end}
use Rattle.event_rules.proofs.States.{get_set}
use Rattle.collision_sums.specs.declared.sums.Sums.{Sums}
use Rattle.collision_sums.specs.Sums.{no_sums, virial_of, after_change}
use Rattle.run_samples.specs.declared.sample.Sample.TheVariants.{Sums as Summed}
use Rattle.run_samples.specs.Samples.{sums_after}
use Rattle.sampled_laws.specs.Virial.{outward, flown, turned_there, changes_before, VirialTheorem, VirialTheoremAtEnd}
use Rattle.sampled_laws.proofs.OfTicks.{none_before, one_before}
use Rattle.sampled_laws.proofs.Outward.{AllBegun, IsAdded, fly, wall_adds, pair_adds}
use Rattle.sampled_laws.proofs.Small.{IsSmall, pair_count, slow_if, step_small, virial_small, none_small, wider}
use Rattle.sampled_laws.proofs.Steps.{state_at_end, spots_at_end}

-- ---- ways that have begun
set_begun : (tick : ℕ) (disks : List Disk) (i : ℕ) (v : Disk) → AllBegun tick disks → v.base ≤ tick → AllBegun tick (slice_set disks i v)
set_begun tick disks i v all le j a at = elim (get_set disks i j v a at) [
  | inl same ↦ subst (λ (d : Disk). d.base ≤ tick) (sym same.1) le
  | inr other ↦ all j a other.1
]

set_some_begun : (rules : Rules) (tick count now i : ℕ) (disks : List Disk) (o : Option Disk) → AllBegun tick disks → now ≤ tick → IsRecordOf rules count now i o →
    AllBegun tick (set_some disks i o)
set_some_begun rules tick count now i disks None all le fits = all
set_some_begun rules tick count now i disks (Some v) all le fits =
    set_begun tick disks i v all (let e = fits.base in omega arith)

event_begun : (rules : Rules) (tick : ℕ) (disks : List Disk) (c : Change) → AllBegun tick disks → c.stamp.tick ≤ tick → IsChangeOf rules (length disks) c →
    AllBegun tick (effect disks c)
event_begun rules tick disks c all le fits =
    set_some_begun rules tick (length disks) c.stamp.tick c.stamp.second (slice_set disks c.stamp.first c.first) c.second
    (set_begun tick disks c.stamp.first c.first all (let e = fits.first.base in omega arith)) le fits.second

-- a tick after the start, the ways of the state have begun a tick earlier
begun_at : (rules : Rules) (disks : List Disk) (cs : List Change) (outcome : Outcome) (tick : ℕ) → IsValidState rules disks → AllBegun tick disks →
    Runs rules disks cs outcome → AllBegun tick (state_at disks cs (tick + 1))
begun_at rules disks [] outcome tick valid all run = all
begun_at rules disks (c ∷ cs) outcome tick valid all run = elim (after_or_not c.stamp.tick (tick + 1)) [
  | inl lt ↦ subst (AllBegun tick) (sym (state_after disks c cs (tick + 1) lt))
      (begun_at rules (effect disks c) cs outcome tick (event_valid rules disks c valid run.0.0 run.1)
      (event_begun rules tick disks c all (omega arith) (change_fits rules disks c valid run.0.0 run.1)) run.2)
  | inr le ↦ subst (AllBegun tick) (sym (state_before disks c cs (tick + 1) le)) all
]

-- ---- one event
-- room for one more push
event_adds : (rules : Rules) (w : ℕ) (disks : List Disk) (s : Sums) (c : Change) → IsChecked rules → IsValidState rules disks → w ≤ 2 ^ 72 → IsSmall w w s →
    RanWall rules disks c ⊎ RanPair rules disks c → IsAdded c.stamp.tick disks s c (after_change rules 0 disks s c)
event_adds rules w disks s c checked valid few small event = elim event [
  | inl wall ↦ wall_adds rules disks s c wall
  | inr pair ↦
      let made = pair_valid rules disks c valid pair in
      let slow = slow_if rules (slice_get disks c.stamp.first) checked (λ d at. valid.valid c.stamp.first d at) in
      let j = impulse_at c.stamp.tick pair.first pair.second in
      let own = virial_small rules (velocity_at disks c.stamp.first) (pushed c.stamp pair.first j) (pushed_back c.stamp pair.second j) checked slow made.0 made.1 in
      let so_far = small.virial in
      pair_adds rules disks s c valid pair (room s.virial (virial_of (velocity_at disks c.stamp.first) (pushed c.stamp pair.first j) (pushed_back c.stamp pair.second j)) w few so_far own)
]
  where
    room : (m n w : ℕ) → w ≤ 2 ^ 72 → m ≤ 2 ^ 52 * w → n ≤ 2 ^ 52 → m + n < 2 ^ 128
    room m n w h k g = omega arith

-- a change fits, and adds one at most
pub step_fits : (rules : Rules) (margin w : ℕ) (disks : List Disk) (s : Sums) (c : Change) → IsChecked rules → IsValidState rules disks →
    IsChangeOf rules (length disks) c → IsSmall w w s → IsSmall (w + 1) (w + 1) (after_change rules margin disks s c)
step_fits rules margin w disks s c checked valid fits small =
    wider (w + pair_count c) (w + 1) (w + 1) (w + 1) _ (most c.second) (omega arith) (step_small rules margin w w disks s c checked valid fits small)
  where
    most : (o : Option Disk) → w + cond (is_some o) 1 0 ≤ w + 1
    most None = omega arith
    most (Some d) = omega arith

-- ---- the events of a tick
-- six numbers of which the last three of each side weigh the same
abbrev Balance : ℤ → ℕ → ℤ → ℤ → ℕ → ℤ → Type 0
Balance x m k y n l = (x +ℤ pos m) +ℤ k ≡ (y +ℤ pos n) +ℤ l

carried : (x y u v : ℤ) (m n p q : ℕ) (k l g h : ℤ) → x ≡ u → y ≡ v → m ≡ p → n ≡ q → k ≡ g → l ≡ h → Balance u p g v q h → Balance x m k y n l
carried x y u v m n p q k l g h a b c d e f all = rw (a, b, c, d, e, f) all

same_more : (x y z : ℤ) (m n : ℕ) (k l : ℤ) → Balance x m k y n l → Balance x m (z +ℤ k) y n (z +ℤ l)
same_more x y z m n k l h = omega (arith, ints)

event_first : (x u v z : ℤ) (m n p : ℕ) (l : ℤ) → u +ℤ pos m ≡ (v +ℤ pos p) +ℤ z → Balance x p (pos 0) u n l → Balance x m (pos 0) v n (z +ℤ l)
event_first x u v z m n p l h k = omega (arith, ints)

-- the virial before a tick
abbrev virial_before : Rules → List Disk → Sums → List Change → ℕ → ℕ
virial_before rules disks s cs tick = (sums_after (Summed 0) rules disks s (changes_before tick cs)).virial

none_yet : (rules : Rules) (disks : List Disk) (cs : List Change) (outcome : Outcome) (tick : ℕ) →
    ((t : Stamp) → IsCandidate rules disks t → tick ≤ t.tick) → Runs rules disks cs outcome → changes_before tick cs ≡ []
none_yet rules disks [] outcome tick none run = refl
none_yet rules disks (c ∷ cs) outcome tick none run = none_before c cs tick (none c.stamp run.0.0)

-- the balance of the events of a tick
abbrev Adds : Rules → List Disk → Sums → List Change → ℕ → Type 0
Adds rules disks s cs tick =
    Balance (outward (spots_of tick (state_at disks cs (tick + 1)))) (virial_before rules disks s cs tick) (turned_there (changes_before tick cs))
    (outward (spots_of tick (state_at disks cs tick))) (virial_before rules disks s cs (tick + 1)) (turned_there (changes_before (tick + 1) cs))

at_state : (tick : ℕ) (xs ys : List Disk) → xs ≡ ys → outward (spots_of tick xs) ≡ outward (spots_of tick ys)
at_state tick xs ys e = ap (λ (l : List Disk). outward (spots_of tick l)) e

-- the first change comes before the tick, at it, or after it
module _ (rules : Rules) (disks : List Disk) (s : Sums) (c : Change) (cs : List Change) (tick : ℕ) where
  before_tick : c.stamp.tick < tick → Adds rules (effect disks c) (after_change rules 0 disks s c) cs tick → Adds rules disks s (c ∷ cs) tick
  before_tick earlier rest =
      let later : c.stamp.tick < tick + 1 = omega arith in
      let now = one_before c cs tick earlier in
      let then = one_before c cs (tick + 1) later in
      let state = effect disks c in
      carried _ _ _ _ _ _ _ _ _ _ _ _
      (at_state tick _ _ (state_after disks c cs (tick + 1) later)) (at_state tick _ _ (state_after disks c cs tick earlier))
      (ap (λ (l : List Change). (sums_after (Summed 0) rules disks s l).virial) now) (ap (λ (l : List Change). (sums_after (Summed 0) rules disks s l).virial) then)
      (ap turned_there now) (ap turned_there then)
      (same_more (outward (spots_of tick (state_at state cs (tick + 1)))) (outward (spots_of tick (state_at state cs tick))) (dot (centre_of c.first) (turned_by c))
      (virial_before rules state (after_change rules 0 disks s c) cs tick) (virial_before rules state (after_change rules 0 disks s c) cs (tick + 1))
      (turned_there (changes_before tick cs)) (turned_there (changes_before (tick + 1) cs)) rest)

  at_the_tick : tick ≤ c.stamp.tick → c.stamp.tick < tick + 1 → changes_before tick cs ≡ [] → IsAdded c.stamp.tick disks s c (after_change rules 0 disks s c) →
      Adds rules (effect disks c) (after_change rules 0 disks s c) cs tick → Adds rules disks s (c ∷ cs) tick
  at_the_tick le lt after event rest =
      let same : c.stamp.tick ≡ tick = omega arith in
      let now = none_before c cs tick le in
      let then = one_before c cs (tick + 1) lt in
      let state = effect disks c in
      let own = subst (λ (n : ℕ). IsAdded n disks s c (after_change rules 0 disks s c)) same event in
      let begun : Balance (outward (spots_of tick (state_at state cs (tick + 1)))) (after_change rules 0 disks s c).virial (pos 0)
      (outward (spots_of tick state)) (virial_before rules state (after_change rules 0 disks s c) cs (tick + 1)) (turned_there (changes_before (tick + 1) cs)) =
      carried _ _ _ _ _ _ _ _ _ _ _ _
      refl (at_state tick _ _ (sym (ap (fold effect state) after)))
      (sym (ap (λ (l : List Change). (sums_after (Summed 0) rules state (after_change rules 0 disks s c) l).virial) after)) refl (sym (ap turned_there after)) refl rest in
      carried _ _ _ _ _ _ _ _ _ _ _ _
      (at_state tick _ _ (state_after disks c cs (tick + 1) lt)) (at_state tick _ _ (state_before disks c cs tick le))
      (ap (λ (l : List Change). (sums_after (Summed 0) rules disks s l).virial) now) (ap (λ (l : List Change). (sums_after (Summed 0) rules disks s l).virial) then)
      (ap turned_there now) (ap turned_there then)
      (event_first (outward (spots_of tick (state_at state cs (tick + 1)))) (outward (spots_of tick state)) (outward (spots_of tick disks))
      (dot (centre_of c.first) (turned_by c)) s.virial (virial_before rules state (after_change rules 0 disks s c) cs (tick + 1)) (after_change rules 0 disks s c).virial
      (turned_there (changes_before (tick + 1) cs)) own.added begun)

  after_tick : tick + 1 ≤ c.stamp.tick → Adds rules disks s (c ∷ cs) tick
  after_tick beyond =
      let le : tick ≤ c.stamp.tick = omega arith in
      let now = none_before c cs tick le in
      let then = none_before c cs (tick + 1) beyond in
      carried _ _ _ _ _ _ _ _ _ _ _ _
      (at_state tick _ _ (state_before disks c cs (tick + 1) beyond)) (at_state tick _ _ (state_before disks c cs tick le))
      (ap (λ (l : List Change). (sums_after (Summed 0) rules disks s l).virial) now) (ap (λ (l : List Change). (sums_after (Summed 0) rules disks s l).virial) then)
      (ap turned_there now) (ap turned_there then) refl

-- the events of a tick add to r·v what they add to the virial, and what the sides turn
tick_adds : (rules : Rules) (w : ℕ) (disks : List Disk) (s : Sums) (cs : List Change) (outcome : Outcome) (tick : ℕ) → IsChecked rules →
    IsValidState rules disks → Runs rules disks cs outcome → IsSmall w w s → w + length cs ≤ 2 ^ 72 → Adds rules disks s cs tick
tick_adds rules w disks s [] outcome tick checked valid run small few = refl
tick_adds rules w disks s (c ∷ cs) outcome tick checked valid run small few =
    let state = effect disks c in
    let fits = change_fits rules disks c valid run.0.0 run.1 in
    let rest = tick_adds rules (w + 1) state (after_change rules 0 disks s c) cs outcome tick checked (event_valid rules disks c valid run.0.0 run.1) run.2
    (step_fits rules 0 w disks s c checked valid fits small) (omega arith) in
    elim (after_or_not c.stamp.tick tick) [
      | inl earlier ↦ before_tick rules disks s c cs tick earlier rest
      | inr le ↦ elim (after_or_not c.stamp.tick (tick + 1)) [
        | inl lt ↦ at_the_tick rules disks s c cs tick le lt
            (none_yet rules state cs outcome tick (λ t h. let from = none_before_after rules disks c run.0 run.1 t h in omega arith) run.2)
            (event_adds rules w disks s c checked valid (omega arith) small (ran rules disks c run.0.0 run.1)) rest
        | inr beyond ↦ after_tick rules disks s c cs tick beyond
      ]
    ]

-- ---- the ticks
abbrev IsAt : Rules → List Disk → List Change → ℕ → Type 0
IsAt rules disks cs tick =
    outward (spots_of tick (state_at disks cs tick))
    ≡ ((outward (spots_of 0 disks) +ℤ pos (flown disks cs tick)) +ℤ pos (virial_before rules disks no_sums cs tick)) +ℤ turned_there (changes_before tick cs)

starts : (rules : Rules) (disks : List Disk) (cs : List Change) → IsAt rules disks cs 0
starts rules disks cs =
    let none = none_at_start cs in
    nothing (outward (spots_of 0 (state_at disks cs 0))) (outward (spots_of 0 disks)) (turned_there (changes_before 0 cs)) (virial_before rules disks no_sums cs 0)
    (ap (λ (l : List Change). outward (spots_of 0 (fold effect disks l))) none)
    (ap (λ (l : List Change). (sums_after (Summed 0) rules disks no_sums l).virial) none) (ap turned_there none)
  where
    none_at_start : (cs : List Change) → changes_before 0 cs ≡ []
    none_at_start [] = refl
    none_at_start (c ∷ cs) = none_before c cs 0 (omega arith)

    nothing : (x y z : ℤ) (n : ℕ) → x ≡ y → n ≡ 0 → z ≡ pos 0 → x ≡ ((y +ℤ pos 0) +ℤ pos n) +ℤ z
    nothing x y z n h k g = omega (arith, ints)

next_tick : (x y u g : ℤ) (f e m n : ℕ) (k l : ℤ) → u ≡ x +ℤ pos e → Balance x m k y n l → y ≡ ((g +ℤ pos f) +ℤ pos m) +ℤ k →
    u ≡ ((g +ℤ pos (f + e)) +ℤ pos n) +ℤ l
next_tick x y u g f e m n k l h b i = omega (arith, ints)

at_tick : (rules : Rules) (disks : List Disk) (cs : List Change) (outcome : Outcome) (tick : ℕ) → IsChecked rules → IsValidState rules disks →
    AllBegun 0 disks → Runs rules disks cs outcome → length cs ≤ 2 ^ 72 → IsAt rules disks cs tick
at_tick rules disks cs outcome zero checked valid begun run few = starts rules disks cs
at_tick rules disks cs outcome (suc tick) checked valid begun run few =
    let later = state_at disks cs (tick + 1) in
    let e : tick + 1 ≡ suc tick = omega arith in
    let way = fly tick later (begun_at rules disks cs outcome tick valid (λ i a at. let from = begun i a at in omega arith) run) in
    let events = tick_adds rules 0 disks no_sums cs outcome tick checked valid run none_small (omega arith) in
    let before = at_tick rules disks cs outcome tick checked valid begun run few in
    let all = next_tick (outward (spots_of tick later)) (outward (spots_of tick (state_at disks cs tick))) (outward (spots_of (tick + 1) later)) (outward (spots_of 0 disks))
    (flown disks cs tick) (energy later) (virial_before rules disks no_sums cs tick) (virial_before rules disks no_sums cs (tick + 1))
    (turned_there (changes_before tick cs)) (turned_there (changes_before (tick + 1) cs)) way events before in
    subst (λ (n : ℕ). outward (spots_of n (state_at disks cs n))
    ≡ ((outward (spots_of 0 disks) +ℤ pos (flown disks cs tick + energy later)) +ℤ pos (virial_before rules disks no_sums cs n)) +ℤ turned_there (changes_before n cs)) e all

-- ---- a scene
-- a run has few events
pub few_changes : FewEventsOfAScene → (scene : SceneData) (changes : List Change) (outcome : Outcome) → IsValidScene scene → Runs scene.rules scene.disks changes outcome →
    length changes ≤ 2 ^ 72
few_changes few scene changes outcome valid run =
    let least = few scene changes outcome valid run in
    let most : scene.rules.end * scene.rules.round_limit * length scene.disks ≤ 1099511627776 * 65536 * 65536 =
    mul-le-mul (mul-le-mul (ticks scene.rules valid.rules) (rounds scene.rules valid.rules)) (starts_valid scene valid).count in
    omega (arith, least, most)

pub virial_theorem_by : FewEventsOfAScene → VirialTheorem
virial_theorem_by few scene changes outcome tick valid run =
    at_tick scene.rules scene.disks changes outcome tick valid.rules (starts_valid scene valid)
    (λ i a at. let e = (valid.disks i a at).base in omega arith) run (few_changes few scene changes outcome valid run)

all_before : (rules : Rules) (disks : List Disk) (cs : List Change) (outcome : Outcome) → Runs rules disks cs outcome → changes_before rules.end cs ≡ cs
all_before rules disks [] outcome run = refl
all_before rules disks (c ∷ cs) outcome run =
    one_before c cs rules.end (candidate_before_end rules disks c.stamp run.0.0) ∙ ap (λ (l : List Change). c ∷ l) (all_before rules (effect disks c) cs outcome run.2)

pub virial_theorem_at_end_by : FewEventsOfAScene → VirialTheoremAtEnd
virial_theorem_at_end_by few scene changes spots valid run =
    let rules = scene.rules in
    let all = all_before rules scene.disks changes _ run in
    let is = virial_theorem_by few scene changes _ rules.end valid run in
    let same : outward spots ≡ outward (spots_of rules.end (state_at scene.disks changes rules.end)) =
    ap outward (spots_at_end rules scene.disks changes spots run ∙ ap (spots_of rules.end) (sym (state_at_end rules scene.disks changes _ run))) in
    same ∙ is
    ∙ (λ i. ((outward (spots_of 0 scene.disks) +ℤ pos (flown scene.disks changes rules.end))
    +ℤ pos (sums_after (Summed 0) rules scene.disks no_sums (all i)).virial) +ℤ turned_there (all i))
