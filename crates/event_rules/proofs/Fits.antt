-- The form of the changes and the outcome of a scene's run.
use Rattle.std.proofs.Common.{◌≡◌, inl, inr, ◌⊎◌, ℕ, zero, suc, ◌∙◌, List, [], ◌∷◌, Bool, true, false, Option, Some, None, Err, Ok, slice_get, length, option_map, ap, sym, subst, refl, arith}
use Rattle.std.specs.Prelude.{◌&&◌, nat_lt, nat_abs, neg_ℤ, ℤ, if◌then◌else◌}
use Rattle.std.proofs.lemmas.Grind.{common_steps}
use Rattle.std.proofs.lemmas.Int.{ints}
use Rattle.std.proofs.lemmas.Option.{slice_get-map, slice_get_within, none-some, same_Some}
use Rattle.plane_vectors.specs.declared.Vector.{Vector}
use Rattle.plane_vectors.specs.Vectors.{vector}
use Rattle.fixed_motion.specs.declared.rules.Rules.{Rules}
use Rattle.fixed_motion.specs.declared.disk.Disk.{Disk}
use Rattle.fixed_motion.specs.Motion.{IsSlow, is_slow, IsValidDisk, velocity_of}
use Rattle.fixed_motion.specs.Scene.{SceneData}
use Rattle.event_stamps.specs.declared.Stamp.{Stamp}
use Rattle.event_stamps.specs.declared.Kind.{Kind}
use Rattle.event_stamps.specs.declared.Kind.TheVariants.{Wall, Pair}
use Rattle.event_rules.specs.declared.change.Change.{Change}
use Rattle.event_rules.specs.declared.change.Limit.{Limit}
use Rattle.event_rules.specs.declared.outcome.Spot.{Spot}
use Rattle.event_rules.specs.declared.outcome.Outcome.{Outcome}
use Rattle.event_rules.specs.declared.outcome.Outcome.TheVariants.{Done, Limit as Passes}
use Rattle.event_rules.specs.Effect.{change_of, keeps_speed, turned}
use Rattle.event_rules.specs.Run.{Runs, IsCandidate, IsNext, ComesTo, effect, spot_of, spots_of, partner_of, IsValidState}
use Rattle.event_rules.specs.Told.{HasDisksOf}
use Rattle.event_rules.specs.Outcomes.{IsChangeOf, IsOutcomeOf}
use Rattle.event_rules.specs.Laws.{ChangesFit, OutcomesFit}
use Rattle.event_rules.proofs.States.{applied_err}
use Rattle.event_rules.proofs.Ran.{RanWall, RanPair, ran, ran_tellable, wall_valid, pair_valid, event_valid, length-effect}
use Rattle.event_rules.proofs.Rise.{candidate_kind}
use Rattle.event_rules.proofs.Ranges.{starts_valid}

-- ---- changes
wall_fits : (rules : Rules) (disks : List Disk) (c : Change) → IsValidState rules disks →
    RanWall rules disks c → IsChangeOf rules (length disks) c
wall_fits rules disks c valid w =
    let made = wall_valid rules disks c valid w in
    let tellable = ran_tellable rules disks c (inl w) in
    subst (IsChangeOf rules (length disks)) (sym w.change) (record {
      tellable = subst (λ (v : Change). HasDisksOf c.stamp.kind v.second) w.change tellable;
      first =
          record {
            number = slice_get_within disks c.stamp.first w.disk w.at;
            valid = made.0;
            base = refl;
          };
      second = tt;
    })

pair_fits : (rules : Rules) (disks : List Disk) (c : Change) → IsValidState rules disks →
    RanPair rules disks c → IsChangeOf rules (length disks) c
pair_fits rules disks c valid p =
    let made = pair_valid rules disks c valid p in
    let tellable = ran_tellable rules disks c (inr p) in
    subst (IsChangeOf rules (length disks)) (sym p.change) (record {
      tellable = subst (λ (v : Change). HasDisksOf c.stamp.kind v.second) p.change tellable;
      first =
          record {
            number = slice_get_within disks c.stamp.first p.first p.first_at;
            valid = made.0;
            base = refl;
          };
      second =
          record {
            number = slice_get_within disks c.stamp.second p.second p.second_at;
            valid = made.1;
            base = refl;
          };
    })

-- a change that was run changes disks of the state
pub change_fits : (rules : Rules) (disks : List Disk) (c : Change) → IsValidState rules disks →
    IsCandidate rules disks c.stamp → ComesTo rules disks c.stamp (Ok c) →
    IsChangeOf rules (length disks) c
change_fits rules disks c valid candidate comes = elim (ran rules disks c candidate comes) [
  | inl wall ↦ wall_fits rules disks c valid wall
  | inr pair ↦ pair_fits rules disks c valid pair
]

run_fits : (rules : Rules) (disks : List Disk) (cs : List Change) (outcome : Outcome) →
    IsValidState rules disks → Runs rules disks cs outcome → (i : ℕ) (c : Change) →
    slice_get cs i ≡ Some c → IsChangeOf rules (length disks) c
run_fits rules disks [] outcome valid run i c at = absurd (none-some c at)
run_fits rules disks (d ∷ ds) outcome valid run zero c at =
    subst (IsChangeOf rules (length disks)) (same_Some d c at)
    (change_fits rules disks d valid run.0.0 run.1)
run_fits rules disks (d ∷ ds) outcome valid run (suc i) c at =
    let later =
    run_fits rules (effect disks d) ds outcome (event_valid rules disks d valid run.0.0 run.1) run.2
    i c at in
    subst (λ (n : ℕ). IsChangeOf rules n c) (length-effect disks d) later

pub changes_fit : ChangesFit
changes_fit scene changes outcome valid run =
    run_fits scene.rules scene.disks changes outcome (starts_valid scene valid) run

-- ---- outcomes
slow_tests : (rules : Rules) (v : Vector) → IsSlow rules v → is_slow rules v ≡ true
slow_tests rules v h = grind (arith, h.x, h.y)

abs_neg : (v : ℤ) → nat_abs (neg_ℤ v) ≡ nat_abs v
abs_neg v = grind (arith, ints)

-- a velocity that turns round is as slow as before
turned_slow : (rules : Rules) (side : ℕ) (v : Vector) → IsSlow rules v →
    IsSlow rules (turned side v)
turned_slow rules side v h = by_test (nat_lt side 2)
  where
    by_test : (p : Bool) →
        IsSlow rules (if p then vector (neg_ℤ v.x) v.y else vector v.x (neg_ℤ v.y))
    by_test true = record { x = rw (abs_neg v.x) h.x; y = h.y }
    by_test false = record { x = h.x; y = rw (abs_neg v.y) h.y }

wall_slow : (rules : Rules) (s : Stamp) (a : Disk) → IsValidDisk rules a →
    keeps_speed rules (change_of s a None) ≡ true
wall_slow rules s a valid =
    let slow = turned_slow rules s.second (velocity_of a) valid.velocity in
    ap (λ (b : Bool). b && true) (slow_tests rules (turned s.second (velocity_of a)) slow)

-- no disk is too fast after a wall
fast_pair : (rules : Rules) (disks : List Disk) (s : Stamp) (a : Disk) → IsValidState rules disks →
    slice_get disks s.first ≡ Some a → (s.kind ≡ Wall) ⊎ (s.kind ≡ Pair) →
    keeps_speed rules (change_of s a (partner_of s.kind disks s.second)) ≡ false → s.kind ≡ Pair
fast_pair rules disks s a valid at kind fast = elim kind [
  | inl wall ↦
      let alone : partner_of s.kind disks s.second ≡ None =
      ap (λ (k : Kind). partner_of k disks s.second) wall in
      let own : keeps_speed rules (change_of s a None) ≡ false =
      ap (λ (b : Option Disk). keeps_speed rules (change_of s a b)) (sym alone) ∙ fast in
      let slow : keeps_speed rules (change_of s a None) ≡ true =
      wall_slow rules s a (valid.valid s.first a at) in
      let both : true ≡ false = sym slow ∙ own in cc
  | inr pair ↦ pair
]

limit_fits : (scene : SceneData) (disks : List Disk) (s : Stamp) (limit : Limit) →
    IsValidState scene.rules disks → IsNext scene.rules disks s →
    ComesTo scene.rules disks s (Err limit) → IsOutcomeOf scene (Passes limit)
limit_fits scene disks s limit valid next comes =
    let kind = candidate_kind scene.rules disks s next.0 in
    let fits : Limit → Type 0 = λ l. IsOutcomeOf scene (Passes l) in
    elim (applied_err scene.rules s comes.0 (partner_of s.kind disks s.second) limit comes.2) [
      | inl rounds ↦ subst fits (sym rounds) kind
      | inr speed ↦ subst fits (sym speed.0)
          (fast_pair scene.rules disks s comes.0 valid comes.1 kind speed.1)
    ]

slow_spot : (rules : Rules) (tick : ℕ) (o : Option Disk) (spot : Spot) →
    ((a : Disk) → o ≡ Some a → IsValidDisk rules a) → option_map (spot_of tick) o ≡ Some spot →
    IsSlow rules (vector spot.vx spot.vy)
slow_spot rules tick None spot valid e = absurd (none-some spot e)
slow_spot rules tick (Some a) spot valid e =
    subst (λ (v : Spot). IsSlow rules (vector v.vx v.vy)) (same_Some (spot_of tick a) spot e)
    (valid a refl).velocity

spots_fit : (scene : SceneData) (disks : List Disk) → IsValidState scene.rules disks →
    length disks ≡ length scene.disks → IsOutcomeOf scene (Done (spots_of scene.rules.end disks))
spots_fit scene disks valid same = (
  count,
  λ i spot at. slow_spot scene.rules scene.rules.end (slice_get disks i) spot
      (λ a there. valid.valid i a there)
      (sym (slice_get-map (spot_of scene.rules.end) disks i) ∙ at),
)
  where
    count : length (spots_of scene.rules.end disks) ≡ length scene.disks
    count = grind (arith, common_steps)

run_ends : (scene : SceneData) (disks : List Disk) (cs : List Change) (outcome : Outcome) →
    IsValidState scene.rules disks → length disks ≡ length scene.disks →
    Runs scene.rules disks cs outcome → IsOutcomeOf scene outcome
run_ends scene disks [] (Done spots) valid same run =
    subst (λ (v : List Spot). IsOutcomeOf scene (Done v)) (sym run.1)
    (spots_fit scene disks valid same)
run_ends scene disks [] (Passes limit) valid same run =
    limit_fits scene disks run.0 limit valid run.1 run.2
run_ends scene disks (c ∷ cs) outcome valid same run =
    run_ends scene (effect disks c) cs outcome (event_valid scene.rules disks c valid run.0.0 run.1)
    (length-effect disks c ∙ same) run.2

pub outcomes_fit : OutcomesFit
outcomes_fit scene changes outcome valid run =
    run_ends scene scene.disks changes outcome (starts_valid scene valid) refl run
