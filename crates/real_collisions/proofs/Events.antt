-- Each event of a run, and the one that fails, is a real one of the state before it.
use Rattle.std.proofs.Common.{inl, inr, List, [], ◌∷◌, ◌++◌, fold, sym, ap, subst, refl, None, Ok}
use Rattle.fixed_motion.specs.declared.rules.Rules.{Rules}
use Rattle.fixed_motion.specs.declared.disk.Disk.{Disk}
use Rattle.event_stamps.specs.declared.Stamp.{Stamp}
use Rattle.event_rules.specs.declared.change.Change.{Change}
use Rattle.event_rules.specs.declared.change.Limit.{Limit}
use Rattle.event_rules.specs.declared.change.Limit.TheVariants.{Rounds, Speed}
use Rattle.event_rules.specs.declared.outcome.Outcome.{Outcome}
use Rattle.event_rules.specs.declared.outcome.Outcome.TheVariants.{Limit as Passes}
use Rattle.event_rules.specs.Effect.{impulse_at, pushed, pushed_back, change_of}
use Rattle.event_rules.specs.Run.{Runs, IsCandidate, IsNext, ComesTo, effect}
use Rattle.event_rules.proofs.Ran.{RanWall, RanPair, ran}
use Rattle.event_rules.proofs.States.{fails_next}
use Rattle.event_rules.proofs.OneTick.{place_at_base}
use Rattle.real_collisions.specs.Laws.{IsReal, IsElasticBounce, IsElasticCollision, EventsAreReal, FailingEventsAreReal, EventsAreElastic}
use Rattle.real_collisions.proofs.Touch.{touch_from}
use Rattle.real_collisions.proofs.Rounding.{impulses_are_elastic}
use native.Mathlib.Nat.{le_refl}

-- ---- one event
candidate_is_real : (rules : Rules) (disks : List Disk) (s : Stamp) → IsCandidate rules disks s → IsReal rules disks s
candidate_is_real rules disks s h = elim h [
  | inl wall ↦ inl (record {
    kind = ap (λ (t : Stamp). t.kind) wall.2.2;
    disk = wall.0;
    at = wall.1;
    passes = wall.2.0;
  })
  | inr pair ↦
      let event = pair.1.2.2 in
      inr (record {
        kind = ap (λ (t : Stamp). t.kind) event.2;
        first = pair.1.0;
        second = pair.1.2.0;
        order = pair.0;
        first_at = pair.1.1;
        second_at = pair.1.2.1;
        touch = touch_from rules pair.1.0 pair.1.2.0 s.tick event.0;
      })
]

wall_is_elastic : (rules : Rules) (disks : List Disk) (c : Change) → RanWall rules disks c → IsElasticBounce disks c
wall_is_elastic rules disks c w = subst (IsElasticBounce disks) (sym w.change) (record {
  kind = ap (λ (t : Stamp). t.kind) w.event.2;
  disk = w.disk;
  at = w.at;
  goes_on = record {
    place = place_at_base (change_of c.stamp w.disk None).first c.stamp.tick (le_refl c.stamp.tick);
    velocity_after = refl;
  };
  alone = refl;
})

pair_is_elastic : (rules : Rules) (disks : List Disk) (c : Change) → RanPair rules disks c → IsElasticCollision disks c
pair_is_elastic rules disks c p =
    let s = c.stamp in
    let a = p.first in
    let b = p.second in
    let touch = p.event.0.contact in
    subst (IsElasticCollision disks) (sym p.change) (record {
      kind = ap (λ (t : Stamp). t.kind) p.event.2;
      first = a;
      second = b;
      later = pushed_back s b (impulse_at s.tick a b);
      impulse = impulse_at s.tick a b;
      first_at = p.first_at;
      second_at = p.second_at;
      elastic = impulses_are_elastic _ _ touch.approaching.approaching;
      first_goes_on = record {
        place = place_at_base (pushed s a (impulse_at s.tick a b)) s.tick (le_refl s.tick);
        velocity_after = refl;
      };
      second_later = refl;
      second_goes_on = record {
        place = place_at_base (pushed_back s b (impulse_at s.tick a b)) s.tick (le_refl s.tick);
        velocity_after = refl;
      };
    })

-- ---- runs
-- a change of a run is that of the next event of the state before it
record IsStep (rules : Rules) (disks : List Disk) (c : Change) : Type 0 where
  pub next : IsNext rules disks c.stamp
  pub comes : ComesTo rules disks c.stamp (Ok c)

step_of : (rules : Rules) (disks : List Disk) (before after : List Change) (c : Change) (outcome : Outcome) →
    Runs rules disks (before ++ (c ∷ after)) outcome → IsStep rules (fold effect disks before) c
step_of rules disks [] after c outcome run = record { next = run.0; comes = run.1 }
step_of rules disks (d ∷ ds) after c outcome run = step_of rules (effect disks d) ds after c outcome run.2

rest_fails : (rules : Rules) (disks : List Disk) (changes : List Change) (limit : Limit) →
    Runs rules disks changes (Passes limit) → Runs rules (fold effect disks changes) [] (Passes limit)
rest_fails rules disks [] limit run = run
rest_fails rules disks (c ∷ cs) limit run = rest_fails rules (effect disks c) cs limit run.2

pub events_are_real : EventsAreReal
events_are_real rules disks before after c outcome run =
    candidate_is_real rules (fold effect disks before) c.stamp (step_of rules disks before after c outcome run).next.0

pub failing_events_are_real : FailingEventsAreReal
failing_events_are_real rules disks changes (Rounds s) run =
    candidate_is_real rules (fold effect disks changes) s
    (fails_next rules (fold effect disks changes) (Rounds s) (rest_fails rules disks changes (Rounds s) run)).0
failing_events_are_real rules disks changes (Speed s) run =
    candidate_is_real rules (fold effect disks changes) s
    (fails_next rules (fold effect disks changes) (Speed s) (rest_fails rules disks changes (Speed s) run)).0

pub events_are_elastic : EventsAreElastic
events_are_elastic rules disks before after c outcome run =
    let step = step_of rules disks before after c outcome run in
    let state = fold effect disks before in
    elim (ran rules state c step.next.0 step.comes) [
      | inl wall ↦ inl (wall_is_elastic rules state c wall)
      | inr pair ↦ inr (pair_is_elastic rules state c pair)
    ]
