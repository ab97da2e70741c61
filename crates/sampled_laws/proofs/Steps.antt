-- What each step of a run keeps.
use Rattle.std.proofs.Common.{◌≡◌, ◌∙◌, inl, inr, ℕ, List, [], ◌∷◌, ◌++◌, length, Ok, refl, sym, subst}
use Rattle.std.specs.Prelude.{fold}
use Rattle.fixed_motion.specs.declared.rules.Rules.{Rules}
use Rattle.fixed_motion.specs.declared.disk.Disk.{Disk}
use Rattle.event_rules.specs.declared.change.Change.{Change}
use Rattle.event_rules.specs.declared.outcome.Spot.{Spot}
use Rattle.event_rules.specs.declared.outcome.Outcome.{Outcome}
use Rattle.event_rules.specs.declared.outcome.Outcome.TheVariants.{Done}
use Rattle.event_rules.specs.Run.{Runs, IsNext, ComesTo, IsValidState, effect, spots_of, state_at}
use Rattle.event_rules.proofs.Apart.{after_or_not, state_after, state_before}
use Rattle.event_rules.proofs.Ran.{event_valid, length-effect}
use Rattle.event_rules.proofs.Rise.{candidate_before_end}

-- a valid state of this many disks
pub record IsStateOf (rules : Rules) (count : ℕ) (disks : List Disk) : Type 0 where
  pub valid : IsValidState rules disks
  pub count_is : length disks ≡ count

pub next_state : (rules : Rules) (count : ℕ) (disks : List Disk) (c : Change) → IsStateOf rules count disks →
    IsNext rules disks c.stamp → ComesTo rules disks c.stamp (Ok c) → IsStateOf rules count (effect disks c)
next_state rules count disks c state next comes = record {
  valid = event_valid rules disks c state.valid next.0 comes;
  count_is = length-effect disks c ∙ state.count_is;
}

-- so it is at each tick
pub state_at_tick : (rules : Rules) (count : ℕ) (disks : List Disk) (cs : List Change) (outcome : Outcome) (tick : ℕ) → IsStateOf rules count disks →
    Runs rules disks cs outcome → IsStateOf rules count (state_at disks cs tick)
state_at_tick rules count disks [] outcome tick state run = state
state_at_tick rules count disks (c ∷ cs) outcome tick state run = elim (after_or_not c.stamp.tick tick) [
  | inl lt ↦ subst (IsStateOf rules count) (sym (state_after disks c cs tick lt))
      (state_at_tick rules count (effect disks c) cs outcome tick (next_state rules count disks c state run.0 run.1) run.2)
  | inr le ↦ subst (IsStateOf rules count) (sym (state_before disks c cs tick le)) state
]

-- the state at the end is the one after all changes
pub state_at_end : (rules : Rules) (disks : List Disk) (cs : List Change) (outcome : Outcome) → Runs rules disks cs outcome →
    state_at disks cs rules.end ≡ fold effect disks cs
state_at_end rules disks [] outcome run = refl
state_at_end rules disks (c ∷ cs) outcome run =
    state_after disks c cs rules.end (candidate_before_end rules disks c.stamp run.0.0) ∙ state_at_end rules (effect disks c) cs outcome run.2

pub spots_at_end : (rules : Rules) (disks : List Disk) (cs : List Change) (spots : List Spot) → Runs rules disks cs (Done spots) →
    spots ≡ spots_of rules.end (fold effect disks cs)
spots_at_end rules disks [] spots run = run.1
spots_at_end rules disks (c ∷ cs) spots run = spots_at_end rules (effect disks c) cs spots run.2

-- a change of a run is that of the next event of the state before it
pub record IsStep (rules : Rules) (disks : List Disk) (c : Change) : Type 0 where
  pub next : IsNext rules disks c.stamp
  pub comes : ComesTo rules disks c.stamp (Ok c)

pub step_of : (rules : Rules) (disks : List Disk) (before after : List Change) (c : Change) (outcome : Outcome) →
    Runs rules disks (before ++ (c ∷ after)) outcome → IsStep rules (fold effect disks before) c
step_of rules disks [] after c outcome run = record { next = run.0; comes = run.1 }
step_of rules disks (d ∷ ds) after c outcome run = step_of rules (effect disks d) ds after c outcome run.2
